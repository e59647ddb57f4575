-- The net answer: its three outcomes, and that the internal coefficient is small where it is taken off.
use mathlib.Core.Path.{◌≡◌}
use mathlib.Core.Bool.{true, false}
use Prim.Native.Nat.{ℕ, ◌≤◌}
use native.Mathlib.Omega.{arith}
use lib.Dec.{ltb}
use lib.IntN.{ℤ, pos, negsuc, nat_abs}
use borrow.Author.Tests.{ltb-false}
use Rattle.std.specs.Prelude.{Ok, Err}
use Rattle.whole.proofs.Tests.{or-false}
use Rattle.verdict.specs.declared.Verdict.{Verdict}
use Rattle.verdict.specs.Verdict.{refusal}
use Rattle.building.specs.declared.Building.{Building}
use Rattle.building.specs.Test.{beyond}
use Rattle.book.specs.declared.Cited.{Cited}
use Rattle.book.specs.Question.{outside_of, net_cited, too_great, net_of}

pub internal-small : (z : ℤ) → too_great z ≡ false → nat_abs z ≤ 100
unfolding beyond
internal-small (pos n) e = ltb-false 100 n (or-false false (ltb 100 n) e).1
internal-small (negsuc n) e = omega (arith, ltb-false 99 n (or-false (ltb 99 n) false e).0)

module _ (year : ℤ) (g : Building) (direction : ℤ) (place : ℕ) (internal : ℤ) where
  pub net-refused : {v : Verdict} → outside_of year g direction place ≡ Err v
      → net_of year g direction place internal ≡ Err v
  unfolding net_of
  net-refused e = rw e

  pub net-answered : {c : Cited} → outside_of year g direction place ≡ Ok c → too_great internal ≡ false
      → net_of year g direction place internal ≡ Ok (net_cited c internal)
  unfolding net_of
  net-answered e f = rw (e, f)

  pub net-bad : {c : Cited} → outside_of year g direction place ≡ Ok c → too_great internal ≡ true
      → net_of year g direction place internal ≡ Err (refusal 3 0)
  unfolding net_of
  net-bad e f = rw (e, f)
