-- What holds of every store over a connection.
use Rattle.std.specs.Prelude.{ℕ, ◌≡◌, ◌&&◌, Bool, true, false, IsTrue}
use Rattle.std.specs.Coded.{Coded-set, coded_list, coded_ℕ}
use Rattle.std.proofs.Common.{ap, refl, subst, sym, ◌∙◌}
use Rattle.std.proofs.lemmas.Bool.{false≢true}
use Rattle.std.proofs.Math.Bool.{Bool-set}
use Rattle.std.proofs.Math.Bridge.{le_prop}
use Rattle.std.proofs.Math.Logic.{∥∥₁_elim}
use Rattle.share_rules.specs.declared.office.Office.{Office}
use Rattle.sqlite.specs.Effect.{Database}
use Rattle.sqlite.specs.State as connection
use Rattle.sqlite_trees.specs.Tree.{Trees}
use Rattle.society_core.specs.Book.{Book, IsSound}
use Rattle.society_core.specs.Keys.{coded_return_key, coded_transmission_key}
use Rattle.society_core.specs.Orders.{IsOrder, Order}
use Rattle.society_core.specs.PlainMaps.{coded_book}
use Rattle.society_core.specs.State.{IsState}
use Rattle.society_book.specs.BookRows.{book_of}
use Rattle.society_book.specs.Kept.{HoldsOwnBook, Rests, tables_state}

-- of two truths the first, and the second
first_true : (a b : Bool) → IsTrue (a && b) → IsTrue a
first_true true b h = refl
first_true false b h = h

second_true : (a b : Bool) → IsTrue (a && b) → IsTrue b
second_true true b h = h
second_true false b h = absurd (false≢true h)

-- an order is one in one way
order_alone : (order : Order) (x y : IsOrder order) → x ≡ y
order_alone order x y = λ i. record {
  amount = Bool-set _ _ x.amount y.amount i;
  senders = Bool-set _ _ x.senders y.senders i;
  named = Bool-set _ _ x.named y.named i;
  faultless = Bool-set _ _ x.faultless y.faultless i;
  sender_keys = Bool-set _ _ x.sender_keys y.sender_keys i;
  cut = Coded-set (coded_list coded_transmission_key) _ _ x.cut y.cut i;
  returns = Coded-set (coded_list coded_return_key) _ _ x.returns y.returns i;
}

-- a book is sound in one way
sound_alone : (book : Book) (x y : IsSound book) → x ≡ y
sound_alone book x y = λ i. record {
  transmissions = λ sender number body e. Bool-set _ _ (x.transmissions sender number body e) (y.transmissions sender number body e) i;
  ends = λ sender segment end e. Bool-set _ _ (x.ends sender segment end e) (y.ends sender segment end e) i;
  within = λ sender number there end e. le_prop (x.within sender number there end e) (y.within sender number there end e) i;
  returns = λ key body e. Bool-set _ _ (x.returns key body e) (y.returns key body e) i;
  pools = λ pool order e. Bool-set _ _ (x.pools pool order e) (y.pools pool order e) i;
  orders = λ pool order e. order_alone order (x.orders pool order e) (y.orders pool order e) i;
  paid_once = λ pool other order another key a b c d. Coded-set coded_ℕ _ _ (x.paid_once pool other order another key a b c d) (y.paid_once pool other order another key a b c d) i;
}

-- an open connection shows what a crash may leave of another; the list of the tables is among what is left
pub record IsLeftBy (s found : connection.State) : Type 0 where
  pub is_open : IsTrue found.is_open
  pub left : s.may_leave found.committed.trees

-- What holds of every store holds of one over a connection: a clean one is honest, at rest a crash leaves its book, and that is sound.
pub is_state : (o : Office) (s : connection.State) (failures : ℕ) → ((db : Trees) → IsTrue s.is_open → s.may_leave db → db ≡ s.committed.trees) → ∥ Rests o s ∥₁ → IsState (tables_state o s failures)
is_state o s failures settled rests = record {
  honest = λ clean. first_true s.is_clean s.is_open clean;
  at_rest = λ clean book left. ∥∥₁_elim rests (Coded-set coded_book _ _) (λ r.
      let same : left.0 ≡ s.now.trees = settled left.0 (second_true s.is_clean s.is_open clean) left.1 ∙ sym (ap (λ (db : Database). db.trees) (r clean).same) in
      left.2 (subst (HoldsOwnBook o) (sym same) (r clean).kept.holds) ∙ ap book_of same);
  sound = λ clean. ∥∥₁_elim rests (sound_alone _) (λ r. (r clean).kept.holds.sound);
}
