-- What is found of all three tables together.
use Rattle.std.proofs.Common.{◌≡◌, ◌∙◌, ◌++◌, ℕ, List, IfErr, IfOk, IsPermutation, Result, Ok, Err, Vec, map, subst, sym}
use Rattle.std.specs.declared.alloc.Global.{Global}
use Rattle.std.proofs.lemmas.Cmp.{nat_list_cmp_total}
use Rattle.std.proofs.lemmas.List.Sorted.{IsPermutation-append, IsPermutation-map}
use Rattle.std.proofs.lemmas.Map.Lookups.{exact_bytes}
use Rattle.sqlite_keyed.proofs.ListLemmas.{map-map}
use Rattle.sqlite_trees.specs.Tree.{Trees}
use Rattle.society_core.specs.Keys.{ascending, bytes_cmp}
use Rattle.society_core.specs.declared.transmission_key.TransmissionKey.{TransmissionKey}
use Rattle.society_rows.specs.Layout as layout
use Rattle.society_rows.specs.Stored.{rows_in}
use Rattle.society_book.specs.BookRows.{transmission_key_of}
use Rattle.society_book.specs.Columns.{text_at}
use Rattle.society_book.proofs.lemmas.rows_alike.BookLemmas.{one_ascent}
use Rattle.society_book.proofs.lemmas.together.ErrLemmas.{blames_more}
use Rattle.society_book.specs.Errors.{Blames}
use Rattle.society_rows.specs.declared.fault.RowFault.{RowFault}
use Rattle.book_audit.specs.OwnRows.{LacksOwn}
use Rattle.book_audit.specs.Entries.{AreEndsAbove, HoldsEntries, senders_in}
use Rattle.book_audit.specs.Judging.{AreLasts, AreReported, AreRightLasts, AreSent, AreSentKeys, AreStated, AreUnder, last_stated}
use Rattle.book_audit.proofs.lemmas.entries.OwnEntries.{own_reported, own_sent, own_stated, own_under}
use Rattle.book_audit.proofs.lemmas.entries.StatedRows.{Last, ends_above, stated_once}

-- tables whose rows may not stand in a book hold none
pub none_sent : (db : Trees) → (AreSent db → ⊥) → LacksOwn db
none_sent db wrong book holds = wrong (own_sent book db holds)

pub none_stated : (db : Trees) → (AreStated db → ⊥) → LacksOwn db
none_stated db wrong book holds = wrong (own_stated book db holds)

pub none_reported : (db : Trees) → (AreReported db → ⊥) → LacksOwn db
none_reported db wrong book holds = wrong (own_reported book db holds)

-- the rows of all three tables may stand in a book
pub record AreAllRight (db : Trees) (keys : List TransmissionKey) (lasts : List Last) : Type 0 where
  pub sent : AreSent db
  pub keys_are : AreSentKeys db keys
  pub stated : AreRightLasts db lasts
  pub reported : AreReported db

module _ (db : Trees) (keys : List TransmissionKey) (lasts : List Last) where
  abbrev senders_sent : List (List ℕ)
  senders_sent = map (λ key. key.sender) keys

  abbrev senders_stated : List (List ℕ)
  senders_stated = map (λ last. last.0.sender) lasts

  same_sent : AreSentKeys db keys → IsPermutation senders_sent (map (text_at 0) (rows_in layout.transmissions db))
  same_sent these =
      subst (IsPermutation senders_sent) (map-map (λ (key : TransmissionKey). key.sender) transmission_key_of (rows_in layout.transmissions db))
      (IsPermutation-map (λ (key : TransmissionKey). key.sender) keys (map transmission_key_of (rows_in layout.transmissions db)) these)

  same_stated : AreLasts db lasts → IsPermutation senders_stated (map (text_at 0) (rows_in layout.segment_ends db))
  same_stated these =
      subst (IsPermutation senders_stated) (map-map (λ (last : Last). last.0.sender) last_stated (rows_in layout.segment_ends db))
      (IsPermutation-map (λ (last : Last). last.0.sender) lasts (map last_stated (rows_in layout.segment_ends db)) these)

  -- where no transmission is above the end of its segment, these are the senders of the database
  pub all_found : (r : Result (Vec (List ℕ) Global) RowFault) → AreAllRight db keys lasts → IfOk r (λ _. AreUnder keys lasts) → IfOk r (λ all. all.items ≡ ascending bytes_cmp (senders_sent ++ senders_stated))
      → IfOk r (λ senders. HoldsEntries senders.items db × AreEndsAbove db)
  all_found (Err fault) right under senders = tt
  all_found (Ok all) right under senders = (
    record {
      transmissions = right.sent;
      ends = record { right = right.stated.right; once = stated_once db lasts right.stated.these under.once };
      returns = right.reported;
      senders = senders
          ∙ sym (one_ascent nat_list_cmp_total exact_bytes (senders_sent ++ senders_stated) (senders_in db)
          (IsPermutation-append senders_sent (map (text_at 0) (rows_in layout.transmissions db)) senders_stated (map (text_at 0) (rows_in layout.segment_ends db)) (same_sent right.keys_are) (same_stated right.stated.these)));
    },
    ends_above db lasts right.stated.these keys right.keys_are under,
  )

  -- and else the database holds no book
  pub all_wrong : (r : Result (Vec (List ℕ) Global) RowFault) → AreAllRight db keys lasts → IfErr r (Blames (AreUnder keys lasts → ⊥)) → IfErr r (Blames (LacksOwn db))
  all_wrong (Ok all) right judged = tt
  all_wrong (Err fault) right judged =
      blames_more (AreUnder keys lasts → ⊥) (LacksOwn db) fault (λ wrong book holds. wrong (own_under book db holds keys lasts right.keys_are right.stated.these)) judged
