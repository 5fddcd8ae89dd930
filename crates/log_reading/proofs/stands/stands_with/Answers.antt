use Rattle.std.proofs.Common.{ℕ, sym, ◌∙◌, subst, inl, inr, arith}
use Rattle.std.proofs.lemmas.Bool.{false≢true, not-true, not-false}
use Rattle.sqlite_wal.specs.PageSize.{IsPageSize}
use Rattle.log_reading.proofs.Standing.{header_be32, no_some, stands_not}
use Rattle.log_reading.proofs.stands.stands_with.Goals as goal

pub returns-then-get_be32-ne-VERSION-clause-no : goal.returns-then-get_be32-ne-VERSION-clause-no
returns-then-get_be32-ne-VERSION-clause-no g c known _ db sums stands =
    c.if-get_be32-ne-VERSION.true (sym (header_be32 _ _ _ _ (c.requires.head known) (omega arith) c.get_be32.ensures) ∙ stands.version)

pub returns-in_default-clause-no : goal.returns-in_default-clause-no
returns-in_default-clause-no g c known _ db sums stands =
    let named = sym stands.named ∙ header_be32 _ _ _ _ (c.requires.head known) (omega arith) c.get_be32-2.ensures in
    no_some c.new.result c.in_default.not-Some (c.new.ensures.valid.1 (subst (λ (it : ℕ). IsPageSize it) named stands.allowed))

pub returns-then-not-branch-clause-no : goal.returns-then-not-branch-clause-no
returns-then-not-branch-clause-no g c known _ db sums stands =
    let named = header_be32 _ _ _ _ (c.requires.head known) (omega arith) c.get_be32-2.ensures ∙ sym (c.bytes-size.ensures.value ∙ c.in-Some.ensures.value) in
    stands_not _ _ _ _ named (c.in_ok-end.ensures.ok known) (inl (λ closed. false≢true (sym c.if-not-branch.true ∙ (c.in_ok-is_closed.ensures.ok known).1 (λ has. closed (sums has))))) stands

pub returns-clause-yes : goal.returns-clause-yes
returns-clause-yes g c known yes' db sums = record {
  version = header_be32 _ _ _ _ (c.requires.head known) (omega arith) c.get_be32.ensures ∙ c.if-get_be32-ne-VERSION.false;
  size = c.bytes-size.result;
  named = header_be32 _ _ _ _ (c.requires.head known) (omega arith) c.get_be32-2.ensures ∙ sym (c.bytes-size.ensures.value ∙ c.in-Some.ensures.value);
  allowed = c.bytes-size.ensures.valid;
  end = c.in_ok-end.end.frames;
  ends = c.in_ok-end.ensures.ok known;
  closed = λ has. (c.in_ok-is_closed.ensures.ok known).0 c.if-not-branch.false (sums has);
  last = c.in_ok-goes_on_behind.ensures.no known (not-true _ yes');
}

pub returns-clause-no : goal.returns-clause-no
returns-clause-no g c known no' db sums stands =
    let named = header_be32 _ _ _ _ (c.requires.head known) (omega arith) c.get_be32-2.ensures ∙ sym (c.bytes-size.ensures.value ∙ c.in-Some.ensures.value) in
    stands_not _ _ _ _ named (c.in_ok-end.ensures.ok known) (inr (c.in_ok-goes_on_behind.ensures.yes known (not-false _ no'))) stands
