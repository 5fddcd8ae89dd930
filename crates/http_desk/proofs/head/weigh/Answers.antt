use Rattle.std.proofs.Common.{◌∙◌, sym, refl, arith}
use Rattle.http_text.proofs.lemmas.HeadLemmas.{begins_at, body_length_at, closes_at, target_at, bad_from_faulty, large_from_head}
use Rattle.http_desk.proofs.head.weigh.Goals as goal

pub returns-in-Large : goal.returns-in-Large
returns-in-Large c = λ head at short few. λ more.
    large_from_head _ more _ head (begins_at _ _ _ head at short few)
    (sym (body_length_at head _ _ (c.of-method.ensures ∙ at.method) at.fields) ∙ sym c.body_length_by_fields.ensures ∙ c.in-Large.is)

pub returns-in-Faulty : goal.returns-in-Faulty
returns-in-Faulty c = λ head at short few. λ more.
    bad_from_faulty _ more _ head (begins_at _ _ _ head at short few)
    (sym (body_length_at head _ _ (c.of-method.ensures ∙ at.method) at.fields) ∙ sym c.body_length_by_fields.ensures ∙ c.in-Faulty.is)

pub returns-in-Sized : goal.returns-in-Sized
returns-in-Sized c = λ head at short few. (
  head,
  _,
  begins_at _ _ _ head at short few,
  record {
    put = rw (c.is_put.ensures, c.of-method.ensures, at.method) refl;
    target = target_at _ _ _ head _ _ _ at.path at.reads.1 at.len c.requires.path.0 c.requires.path.1;
    within = (c.requires.path.0, omega (arith, at.len, c.requires.path.1));
    size = at.len;
    body = sym (body_length_at head _ _ (c.of-method.ensures ∙ at.method) at.fields) ∙ sym c.body_length_by_fields.ensures ∙ c.in-Sized.is;
    last = c.closes.ensures ∙ closes_at head _ _ at.version at.fields;
  },
)
