use Rattle.society_core.proofs.lemmas.SoundRuns.{run_is_sound}
use Rattle.society_core.proofs.laws.runs_keep_books_sound.Goals as goal

pub returns : goal.returns
returns c = run_is_sound
