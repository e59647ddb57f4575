-- A rose that came from a new one and has refused a line is closed.
use Prim.Native.Nat.{ℕ}
use mathlib.Core.Path.{◌≡◌, refl}
use mathlib.Core.Logic.{◌⊎◌, inl, inr, ⊎_elim}
use mathlib.Core.Bool.{false}
use mathlib.Core.List.{List, [], ◌∷◌}
use lib.Dec.{eqb}
use Rattle.verdict.specs.Verdict.{Refuses}
use Rattle.rose.specs.declared.Rose.{Rose}
use Rattle.rose.specs.Rose.{no_lines, fault_after}
use Rattle.rose.specs.Pending.{pending_says}
use Rattle.rose.specs.Taken.{byte_taken, part_taken}
use Rattle.rose.proofs.Taken.{parts_taken}
use Rattle.rose.proofs.PendingLines.{either}

-- it has refused nothing, or it is closed
Sound : Rose → Type 0
Sound r = (r.verdict.number ≡ 0) ⊎ (eqb r.closed 0 ≡ false)

sound-byte : (r : Rose) (b : ℕ) → Sound r → Sound (byte_taken r b)
unfolding Sound
sound-byte r b h =
    ⊎_elim
    (λ e. either Sound (eqb r.closed 0)
    (either Sound (eqb b 10)
    (either Sound (eqb (fault_after r.accepted (pending_says r.pending)) 0) (inl e) (inr refl)) (inl e)) h)
    (λ c. rw c h) h

sound-part : (r : Rose) (s : List ℕ) → Sound r → Sound (part_taken r s)
unfolding part_taken
sound-part r [] h = h
sound-part r (b ∷ s) h = sound-part (byte_taken r b) s (sound-byte r b h)

sound-parts : (r : Rose) (ps : List (List ℕ)) → Sound r → Sound (parts_taken r ps)
unfolding parts_taken
sound-parts r [] h = h
sound-parts r (p ∷ ps) h = sound-parts (part_taken r p) ps (sound-part r p h)

pub refused-closed : (ps : List (List ℕ)) → Refuses (parts_taken no_lines ps).verdict
    → eqb (parts_taken no_lines ps).closed 0 ≡ false
unfolding Sound
refused-closed ps h = ⊎_elim (λ e. absurd (h e)) (λ c. c) (sound-parts no_lines ps (inl refl))
