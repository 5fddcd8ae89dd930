use Rattle.std.proofs.Common.{◌∙◌, ap, ℕ, List, map, rules}
use Rattle.work_ids.specs.Characters.{capital}
use Rattle.work_ids.specs.FileNames.{number_in_capitals, number_in_name}
use Rattle.work_ids.proofs.lemmas.FileNames.{long_name, name_exact}
use Rattle.work_ids.proofs.file_name.read_file_name.Goals as goal

pub returns-then-name-gt-LONG_NAME-clause-value : goal.returns-then-name-gt-LONG_NAME-clause-value
returns-then-name-gt-LONG_NAME-clause-value c = long_name c.args.society c.args.name.now c.if-name-gt-LONG_NAME.true

pub returns-then-name-gt-LONG_NAME-clause-exact : goal.returns-then-name-gt-LONG_NAME-clause-exact
returns-then-name-gt-LONG_NAME-clause-exact c = name_exact c.args.society c.args.name.now _ (long_name c.args.society c.args.name.now c.if-name-gt-LONG_NAME.true)

pub returns-clause-value : goal.returns-clause-value
unfolding number_in_name
returns-clause-value c =
    c.number_in_capitals.ensures
    ∙ ap (λ (ns : List ℕ). number_in_capitals c.args.society ns) (c.make_capitals.ensures ∙ ap (λ (ns : List ℕ). map capital ns) (search rules))

pub returns-clause-exact : goal.returns-clause-exact
unfolding number_in_name
returns-clause-exact c =
    name_exact c.args.society c.args.name.now _
    (c.number_in_capitals.ensures
    ∙ ap (λ (ns : List ℕ). number_in_capitals c.args.society ns) (c.make_capitals.ensures ∙ ap (λ (ns : List ℕ). map capital ns) (search rules)))
