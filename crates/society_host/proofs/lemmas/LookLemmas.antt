-- What was made by an opening is left to its owner.
use Rattle.std.proofs.Common.{◌≡◌, ◌⊎◌, ℕ, Bool, List, false, inl, inr, refl, subst, true}
use Rattle.society_host.specs.Looks.{ArePrivate, FindsAt, LacksBytes, log_path}
use Rattle.society_host.specs.declared.machine.Machine.{Ghosts}

-- where looks found none, they found no byte there
pub lacks_by : {M : Type 0} (m : Ghosts M) (path : List ℕ) (there : Bool) → FindsAt m path there → there ≡ false → LacksBytes m path
lacks_by m path there found none = (subst (λ (b : Bool). FindsAt m path b) none found).0

-- where looks found no database the new file and its log are
pub looked_by : {M : Type 0} (m : Ghosts M) (path log : List ℕ) (there : Bool) → log ≡ log_path path → FindsAt m path there → (there ≡ false → m.is_private path × m.is_private log)
    → FindsAt m path true ⊎ (FindsAt m path false × ArePrivate m path)
looked_by m path log true named found guarded = inl found
looked_by m path log false named found guarded = inr (found, ((guarded refl).0, subst m.is_private named (guarded refl).1))
