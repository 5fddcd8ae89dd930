-- What is shown of a work, by its version at the front.
use Rattle.std.proofs.Common.{◌≡◌, ◌∙◌, List, ℕ, Option, Some, None, ap}
use Rattle.std.proofs.Common.{option_and_then}
use Rattle.share_rules.specs.declared.office.Office.{Office}
use Rattle.society_core.specs.Answers.{shown_in, shown_version}
use Rattle.society_core.specs.Book.{Book, front, version_in}
use Rattle.society_core.specs.Requests.{Shown}
use Rattle.works_core.specs.declared.version.WorkVersion.{WorkVersion}

-- a work with this version at the front is shown by it
pub work_shown : (o : Office) (b : Book) (s w : List ℕ) (v : WorkVersion) (shown : Option Shown) → Some v ≡ version_in o b s w (front b s) → shown ≡ shown_version o b s w v → shown ≡ shown_in o b s w
work_shown o b s w v shown told is = is ∙ ap (option_and_then (shown_version o b s w)) told

-- and one without a version is not
pub no_work : (o : Office) (b : Book) (s w : List ℕ) → ◌≡◌ {A = Option WorkVersion} None (version_in o b s w (front b s)) → ◌≡◌ {A = Option Shown} None (shown_in o b s w)
no_work o b s w told = ap (option_and_then (shown_version o b s w)) told
