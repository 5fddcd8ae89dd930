use Rattle.std.proofs.Common.{◌≡◌, ◌∙◌, ◌++◌, codes, sym, ap}
use Rattle.std.proofs.lemmas.Bool.Decides.{Decides-eqb}
use Rattle.std.proofs.lemmas.List.{append_cancel_left}
use Rattle.std.proofs.lemmas.Slice.Eq.{slice_eq-Decides}
use Rattle.sqlite_tied.specs.Compute.{everything}
use Rattle.society_rows.proofs.shapes.is_guard_name.Goals as goal

pub returns-in-Some-rest_behind : goal.returns-in-Some-rest_behind
unfolding everything
returns-in-Some-rest_behind c =
    let table = c.args.table.now in
    let same = slice_eq-Decides Decides-eqb c.in-Some-rest_behind.last.now c.as_slice.result.now c.eq.result c.eq.ensures in
    let behind : c.in-Some.rest.now ≡ table ++ c.in-Some-rest_behind.last.now = c.in-Some-rest_behind.ensures ∙ ap (λ l. l ++ c.in-Some-rest_behind.last.now) c.as_bytes.ensures.value in (
      λ t. c.in-Some.ensures ∙ ap (λ l. codes "sqlite_autoindex_" ++ l) (behind ∙ ap (λ l. table ++ l) (same.0 t ∙ c.as_slice.ensures)),
      λ is.
          same.1
          (append_cancel_left table _ (codes "_1") (sym behind ∙ append_cancel_left (codes "sqlite_autoindex_") _ (table ++ codes "_1") (sym c.in-Some.ensures ∙ is)) ∙ sym c.as_slice.ensures),
    )

pub returns-in-None : goal.returns-in-None
unfolding everything
returns-in-None c = (λ no. absurd cc, λ is. absurd (c.in-None.ensures _ is))
