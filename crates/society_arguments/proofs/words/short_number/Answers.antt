use Rattle.std.specs.Str.Parse.{ExplainsUnsignedError, HasUnsignedDigitsIfOk, ParsesUnsigned}
use Rattle.clap.specs.Matches.{found_of}
use Rattle.society_arguments.proofs.lemmas.WordLemmas.{number_is}
use Rattle.society_arguments.proofs.words.short_number.Goals as goal

pub returns : goal.returns
returns c =
    number_is (λ text r. ParsesUnsigned 16 10 text r × ExplainsUnsignedError 10 text r × HasUnsignedDigitsIfOk text r) 16 (λ text x gives. gives.0) (found_of c.args.options.now) c.args.option.now c.get_one.result c.get_one.ensures.none c.get_one.ensures.value
