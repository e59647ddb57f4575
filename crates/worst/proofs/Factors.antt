-- The factors of a job's faces in their array: at first each is 1 / 1, and with face i those of the first i
-- become those of one more.
use mathlib.Core.Path.{◌≡◌, refl, ap, ◌∙◌}
use mathlib.Core.List.{List, []}
use Prim.Native.Nat.{ℕ, suc, zero, ◌+◌, ◌≤◌, ◌<◌}
use native.Mathlib.Omega.{arith}
use lib.ListN.{length, get_or, set, replicate, length-set}
use lib.Seq.{get_or-set_same, get_or-set_other}
use borrow.Author.Tests.{eqb-true, eqb-false}
use lib.Dec.{eqb}
use Rattle.whole.proofs.Tests.{by-test}
use Rattle.entry.specs.declared.Step.{Step}
use Rattle.entry.specs.declared.Face.{Face}
use Rattle.job.specs.declared.Faces.{Faces}
use Rattle.job.specs.Carried.{no_face}
use Rattle.worst.specs.declared.speeds.Factor.{Factor}
use Rattle.worst.specs.Speed.{unchanged, factor_at}
use Rattle.worst.specs.Forces.{factor_of}
use Rattle.worst.specs.Factors.{no_factor, factor_in, FactorsStand, AllOne}

-- ---- 1 / 1 throughout

get_d_replicate : (n i : ℕ) (k : Factor) → i < n → get_or (replicate n k) i no_factor ≡ k
get_d_replicate zero i k h = absurd (omega arith)
get_d_replicate (suc n) zero k h = refl
get_d_replicate (suc n) (suc i) k h = get_d_replicate n i k (omega arith)

-- which is what no profile gives
pub ones-stand : (fs : Faces) (factors : List Factor) → AllOne factors → fs.count ≤ length factors
    → FactorsStand [] fs factors
unfolding factor_at
ones-stand fs factors h few i t =
    ap (λ l. get_or l i no_factor) h ∙ get_d_replicate (length factors) i unchanged (omega arith)

-- ---- one face more

-- the factors of the first i faces, in a list with room for n
pub record FirstStand (n : ℕ) (profile : List Step) (fs : List Face) (i : ℕ) (factors : List Factor) : Type 0 where
  pub room : n ≤ length factors
  pub stand : (m : ℕ) → m < i → factor_in factors m ≡ factor_of profile (get_or fs m no_face)

pub none-stand : (n : ℕ) (profile : List Step) (fs : List Face) (factors : List Factor) → n ≤ length factors
    → FirstStand n profile fs 0 factors
none-stand n profile fs factors room = record { room = room; stand = λ m t. absurd (omega arith) }

pub next-stands : (n : ℕ) (profile : List Step) (fs : List Face) (i : ℕ) (factors : List Factor) (k : Factor)
    → FirstStand n profile fs i factors → i < n → k ≡ factor_of profile (get_or fs i no_face)
    → FirstStand n profile fs (i + 1) (set factors i k)
next-stands n profile fs i factors k was below e =
    record {
      room = omega (arith, length-set factors i k, was.room);
      stand = λ m t. by-test (eqb m i)
          (λ q. rw (eqb-true m i q)
          (get_or-set_same factors i k no_factor (omega (arith, was.room)) ∙ e))
          (λ q. let other = eqb-false m i q in
          get_or-set_other factors i m k no_factor other ∙ was.stand m (omega (arith, other)));
    }
