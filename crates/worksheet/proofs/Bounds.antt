-- How large the sums are that an edit moves, so that their pairs can be moved.
use mathlib.Core.Path.{◌≡◌, sym, ap, ◌∙◌, subst}
use mathlib.Core.List.{List, []}
use Prim.Native.Nat.{ℕ, ◌*◌, ◌≤◌}
use native.Mathlib.Omega.{arith}
use lib.IntN.{ℤ, nat_abs, ◌+ℤ◌, ◌-ℤ◌}
use Rattle.whole.proofs.Size.{minus-small}
use Rattle.pair.specs.Total.{pair_of, pair_sum}
use Rattle.pair.proofs.Sums.{sum-pair_of, difference-pair_of}
use Rattle.entry.specs.declared.Face.{Face}
use Rattle.job.specs.Carried.{Carried, with_faces, most_faces}
use Rattle.job.specs.InOrder.{InOrder}
use Rattle.job.proofs.Room.{few-faces}
use Rattle.worst.specs.declared.Side.{Side}
use Rattle.worst.specs.declared.Axis.{Axis}
use Rattle.worst.proofs.Parts.{stored_on, no_part, stored-small}
use Rattle.worksheet.specs.Kept.{moved_pair}

-- 16,500,000 N for each face that a record has room for
abbrev pub most_sum : ℕ
most_sum = most_faces * 330000000000000000

-- the sums of the job with these faces
abbrev pub SumsSmall : Carried → List Face → Type 0
SumsSmall c fs = (axis : Axis) (s : Side) (k : ℕ) → nat_abs (stored_on axis s (with_faces fs c) k) ≤ most_sum

pub in-order-small : (c : Carried) (fs : List Face) → InOrder (with_faces fs c) → SumsSmall c fs
in-order-small c fs o axis s k =
    let d = with_faces fs c in
    omega (arith, stored-small d o axis s k, few-faces d o)

pub none-small : (c : Carried) → SumsSmall c []
none-small c axis s k = subst (λ z. nat_abs z ≤ most_sum) (sym (no_part c axis s k)) (omega arith)

-- pairs of such totals are moved as the totals are
pub moved-pair_of : (held out new : ℤ) → nat_abs held ≤ most_sum → nat_abs out ≤ most_sum → nat_abs new ≤ most_sum
    → moved_pair (pair_of held) (pair_of out) (pair_of new) ≡ pair_of (held -ℤ out +ℤ new)
moved-pair_of held out new h k l =
    ap (λ p. pair_sum p (pair_of new)) (difference-pair_of held out (omega arith) (omega arith))
    ∙ sum-pair_of (held -ℤ out) new (omega (arith, minus-small held out h k)) (omega arith)
