use Rattle.std.proofs.Common.{◌∙◌, Bool, inl, subst, sym}
use Rattle.society_host.specs.Examined.{IsToldNone}
use Rattle.society_host.specs.Found.{WhyUnopened}
use Rattle.society_host.specs.Looks.{FindsAt}
use Rattle.society_host.proofs.lemmas.LookLemmas.{lacks_by, looked_by}
use Rattle.society_host.proofs.lemmas.RefusalLemmas.{refuses}
use Rattle.society_host.proofs.files.HostFilesOpenDatabase.open_database.Goals as goal

pub guard-others_write-requires : goal.guard-others_write-requires
guard-others_write-requires g c = record {
  made = λ none.
      let made = c.in-Ok-open_at.ensures.made (lacks_by g.M.Machine c.args.path.now c.in-Ok-look.was_there c.in-Ok-look.ensures.found none) in
      (made.0, subst g.M.Machine.is_made (sym (c.as_str.ensures.value ∙ c.in-Ok.ensures.path)) made.1);
  found = λ there. subst (λ (b : Bool). FindsAt g.M.Machine c.args.path.now b) there c.in-Ok-look.ensures.found;
}

pub returns-in-Ok-open_at-clause-opened : goal.returns-in-Ok-open_at-clause-opened
returns-in-Ok-open_at-clause-opened g c = record {
  looked =
      looked_by g.M.Machine c.args.path.now c.as_str.result.now c.in-Ok-look.was_there (c.as_str.ensures.value ∙ c.in-Ok.ensures.path) c.in-Ok-look.ensures.found
      c.guard-others_write.ensures.private;
  examined = c.in-Ok-examine.ensures.examined;
  opened = c.in-Ok-open_at.ensures.at;
  found =
      record {
        shows = λ clean. (let o = c.in-Ok-open_at.ensures.opened clean in (o.0, o.1, c.in-Ok-open_at.ensures.found clean));
        sums = c.in-Ok-open_at.ensures.sums;
      };
}

pub returns-in-Err-look-clause-refused : goal.returns-in-Err-look-clause-refused
returns-in-Err-look-clause-refused g c = inl c.in-Err-look.ensures.failed

pub returns-clause-refused : goal.returns-clause-refused
returns-clause-refused g c =
    refuses (IsToldNone g.M.ReadFiles g.M.File.ReadAt c.args.path.now) (WhyUnopened g.M.Machine g.M.ReadFiles g.M.File.ReadAt c.args.path.now) _ _ c.in-Err-open_at.error c.fault_at.result c.in-Err-open_at.left
    (c.in-Err-open_at.error, c.in-Err-open_at.ensures.failed, c.fault_at.ensures) c.fault_at.ensures c.in-Err-open_at.ensures.cause
