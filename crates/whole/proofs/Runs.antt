-- What stands in a list into which a run of values was put.
use mathlib.Core.Path.{◌≡◌, refl, ap, ◌∙◌}
use mathlib.Core.List.{List, [], ◌∷◌}
use Prim.Native.Nat.{ℕ, zero, suc, ◌+◌, ◌≤◌, ◌<◌}
use native.Mathlib.Omega.{arith}
use lib.ListN.{length, get_or, set, length-set}
use lib.Seq.{sets, get_or-set_same, get_or-set_other}

module _ {A : Type 0} (d : A) where
  -- before the run, what stood there
  pub before-run : (vs l : List A) (j m : ℕ) → m < j → get_or (sets l j vs) m d ≡ get_or l m d
  before-run [] l j m h = refl
  before-run (v ∷ vs) l j m h =
      before-run vs (set l j v) (suc j) m (omega arith) ∙ get_or-set_other l j m v d (λ e. omega arith)

  -- in it, the run
  pub in-run : (vs l : List A) (j m : ℕ) → j + length vs ≤ length l → m < length vs
      → get_or (sets l j vs) (j + m) d ≡ get_or vs m d
  in-run [] l j m h k = absurd (omega arith)
  in-run (v ∷ vs) l j zero h k =
      let e : j + 0 ≡ j = omega arith in
      ap (λ n. get_or (sets (set l j v) (suc j) vs) n d) e
      ∙ before-run vs (set l j v) (suc j) j (omega arith)
      ∙ get_or-set_same l j v d (omega arith)
  in-run (v ∷ vs) l j (suc m) h k =
      let e : j + suc m ≡ suc j + m = omega arith in
      ap (λ n. get_or (sets (set l j v) (suc j) vs) n d) e
      ∙ in-run vs (set l j v) (suc j) m (omega (arith, length-set l j v)) (omega arith)
