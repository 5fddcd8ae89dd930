-- Whether a side with a number is among records, one record further (representation).
use Rattle.std.proofs.Common.{◌≡◌, ℕ, Bool, true, false, ◌||◌, List, [], ◌∷◌, ◌++◌, Some, refl, sym, ap, ◌∙◌}
use Rattle.std.specs.List.{list_any}
use Rattle.std.proofs.lemmas.List.Folds.{list_any-append}
use Rattle.std.proofs.lemmas.Bool.{false≢true}
use Rattle.cwr_records.specs.declared.record.Record.{Record}
use Rattle.cwr_records.specs.declared.record.Record.TheVariants as kind
use Rattle.share_rules.proofs.lemmas.Blocks.{alike}
use Rattle.share_rules.specs.Blocks.{is_link}
use Rattle.share_rules.specs.Fault.{names_no_publisher}
use Rattle.share_rules.specs.Parties.{is_interested_party, party_in, party_is}
use Rattle.share_rules.specs.declared.party.InterestedParty.{InterestedParty}
use Rattle.share_rules.specs.declared.party.Side.{Side}

or_true : (a : Bool) → (a || true) ≡ true
or_true true = refl
or_true false = refl

or_false : (a : Bool) → (a || false) ≡ a
or_false true = refl
or_false false = refl

-- an interested party is found
pub party_found : (t : Side) (m : List ℕ) (before : List Record) (r : Record) (party : InterestedParty) → party_in r ≡ Some party → alike party.side party.number t m ≡ true → list_any (is_interested_party t m) (before ++ r ∷ []) ≡ true
party_found t m before r party is same =
    list_any-append (is_interested_party t m) before (r ∷ [])
    ∙ ap (λ (b : Bool). list_any (is_interested_party t m) before || (b || false)) (ap (party_is t m) is ∙ same)
    ∙ or_true (list_any (is_interested_party t m) before)

-- another record is not
pub other_not_found : (t : Side) (m : List ℕ) (before : List Record) (r : Record) → is_interested_party t m r ≡ false → list_any (is_interested_party t m) (before ++ r ∷ []) ≡ list_any (is_interested_party t m) before
other_not_found t m before r other =
    list_any-append (is_interested_party t m) before (r ∷ [])
    ∙ ap (λ (b : Bool). list_any (is_interested_party t m) before || (b || false)) other
    ∙ or_false (list_any (is_interested_party t m) before)

pub party_passes : (t : Side) (m : List ℕ) (before : List Record) (r : Record) (party : InterestedParty) → party_in r ≡ Some party → alike party.side party.number t m ≡ false → list_any (is_interested_party t m) (before ++ r ∷ []) ≡ list_any (is_interested_party t m) before
party_passes t m before r party is other = other_not_found t m before r (ap (party_is t m) is ∙ other)

neither : (a b : Bool) → (a || b) ≡ false → (a ≡ false) × (b ≡ false)
neither false b e = (refl, e)
neither true b e = absurd (false≢true (sym e))

named_by_link : (records : List Record) (r : Record) → is_link r ≡ false → names_no_publisher records r ≡ false
named_by_link records (kind.PublisherForWriter x) e = absurd (false≢true (sym e))
named_by_link records _ e = refl

-- where no record is a link, none names a publisher
pub no_links : (records block : List Record) → list_any is_link block ≡ false → list_any (names_no_publisher records) block ≡ false
no_links records [] e = refl
no_links records (r ∷ more) e =
    let parts = neither (is_link r) (list_any is_link more) e in
    ap (λ (b : Bool). b || list_any (names_no_publisher records) more) (named_by_link records r parts.0)
    ∙ no_links records more parts.1
