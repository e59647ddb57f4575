-- The other side of zero: `neg` turns the order round, so what is right for z is right for minus z when mirrored.
use mathlib.Core.Path.{◌≡◌, refl, sym, ap, ◌∙◌}
use mathlib.Core.Bool.{Bool, true, false, not}
use Prim.Native.Nat.{ℕ, zero, suc, ◌*◌, ◌<◌}
use native.Mathlib.Nat.{add_comm}
use native.Mathlib.Omega.{arith}
use lib.Dec.{ltb}
use lib.IntN.{ℤ, pos, negsuc, neg_ℤ, nat_abs}
use lib.Ieee.{Float, nan, inf, fin, binary64, up, down, neg, lt}
use lib.Ieee.Exact.{HasValue}
use lib.Ieee.Fits.{neg-fits}
use Rattle.panel.specs.declared.Panel.{Panel}
use Rattle.panel.specs.declared.Panel.TheVariants.{Exact, Between}
use Rattle.panel.specs.Double.{number_itself}
use Rattle.panel.specs.Right.{Right}
use Rattle.panel.specs.Bracket.{mirrored}
use Rattle.panel.proofs.Worth.{Worth, exact-worth, worth-exact}

pub neg-neg : (x : Float) → neg (neg x) ≡ x
unfolding neg
neg-neg nan = refl
neg-neg (inf true) = refl
neg-neg (inf false) = refl
neg-neg (fin true m e) = refl
neg-neg (fin false m e) = refl

pub lt-neg : (x y : Float) → lt (neg x) (neg y) ≡ lt y x
unfolding lt neg
lt-neg nan nan = refl
lt-neg nan (inf t) = refl
lt-neg nan (fin t n d) = refl
lt-neg (inf s) nan = refl
lt-neg (inf true) (inf true) = refl
lt-neg (inf true) (inf false) = refl
lt-neg (inf false) (inf true) = refl
lt-neg (inf false) (inf false) = refl
lt-neg (inf s) (fin t n d) = refl
lt-neg (fin s m e) nan = refl
lt-neg (fin s m e) (inf true) = refl
lt-neg (fin s m e) (inf false) = refl
lt-neg (fin true m e) (fin true n d) = refl
lt-neg (fin true m e) (fin false n d) = refl
lt-neg (fin false m e) (fin true n d) = ap (ltb 0) (add_comm (m * up e * down d) (n * up d * down e))
lt-neg (fin false m e) (fin false n d) = refl

pub neg-lt : (x y : Float) → lt (neg x) y ≡ lt (neg y) x
neg-lt x y = ap (λ (w : Float). lt (neg x) w) (sym (neg-neg y)) ∙ lt-neg x (neg y)

pub lt-neg-right : (x y : Float) → lt x (neg y) ≡ lt y (neg x)
lt-neg-right x y = ap (λ (w : Float). lt w (neg y)) (sym (neg-neg x)) ∙ lt-neg (neg x) y

pub value-neg : (x : Float) (s : Bool) (a : ℕ) → HasValue x s a 1 → HasValue (neg x) (not s) a 1
unfolding neg
value-neg nan s a v = v
value-neg (inf t) s a v = v
value-neg (fin t m e) s a v = (ap not v.0, v.1)

-- ---- a number other than zero

worth-neg : (z : ℤ) (x : Float) → 0 < nat_abs z → Worth z x → Worth (neg_ℤ z) (neg x)
worth-neg (pos zero) x h v = absurd (omega arith)
worth-neg (pos (suc n)) x h v = value-neg x false (suc n) v
worth-neg (negsuc n) x h v = value-neg x true (suc n) v

number-neg : (z : ℤ) → 0 < nat_abs z → number_itself (neg_ℤ z) ≡ neg (number_itself z)
unfolding neg
number-neg (pos zero) h = absurd (omega arith)
number-neg (pos (suc n)) h = refl
number-neg (negsuc n) h = refl

pub right-mirrored : (z : ℤ) (p : Panel) → 0 < nat_abs z → Right z p → Right (neg_ℤ z) (mirrored p)
right-mirrored z (Exact x) h r =
    worth-exact (neg_ℤ z) (neg x) (neg-fits binary64 x r.double) (worth-neg z x h (exact-worth z x r))
right-mirrored z (Between low high) h r =
    record {
      low-double = neg-fits binary64 high r.high-double;
      high-double = neg-fits binary64 low r.low-double;
      below = rw (number-neg z h, lt-neg) r.above;
      above = rw (number-neg z h, lt-neg) r.below;
      nearest = λ x d l g. r.nearest (neg x) (neg-fits binary64 x d) (rw lt-neg-right g) (rw neg-lt l);
    }

pub mirrored-mirrored : (p : Panel) → mirrored (mirrored p) ≡ p
mirrored-mirrored (Exact x) = ap Exact (neg-neg x)
mirrored-mirrored (Between low high) = λ i. Between (neg-neg low i) (neg-neg high i)
