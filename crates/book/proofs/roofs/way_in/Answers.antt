-- `roofs::way_in`: the loop takes the walk over the rows of the part that are left, of which it holds the first; the
-- row at the loop's own number is the next.
use mathlib.Core.Path.{◌≡◌, refl, sym, ap, subst, ◌∙◌}
use Prim.Native.Nat.{ℕ, ◌+◌, ◌-◌, ◌*◌, ◌/◌}
use native.Mathlib.Omega.{arith}
use lib.ListN.{get_or, drop}
use Rattle.whole.specs.Lowest.{common_divisor}
use Rattle.book.specs.declared.line.Spot.{Spot}
use Rattle.book.specs.declared.roofs.Stand.{Stand}
use Rattle.book.specs.Row.{Standing}
use Rattle.book.specs.Line.{Way, between, way_in}
use Rattle.book.specs.Spot.{spot_of, row_spot}
use Rattle.book.proofs.Ways.{no_standing, way_on, way-passes, way-between, way-ends}
use Rattle.book.proofs.Coded.{part, number_in}
use Rattle.book.proofs.roofs.way_in.Invariants.{Read}
use Rattle.book.proofs.roofs.way_in.Goals.{At-loop-i, After-row_of-next}
use Rattle.book.proofs.roofs.way_in.Goals as goal

-- a row that was read is the printed one
module _ (k i : ℕ) {r : Stand} (h : Read k i r) where
  abbrev row : Standing
  row = get_or (part k) i no_standing

  number_at : r.0 ≡ row.row.number
  number_at = h.0 ∙ number_in (λ s. s.row.number) refl k i

  stands_at : (d : ℕ) → r.1 * d ≡ row.at * d
  stands_at d = ap (λ (n : ℕ). n * d) (h.1 ∙ number_in (λ s. s.at) refl k i)

-- between two rows by their numbers
between-as : (r s : Standing) (x d : ℕ) {n m p q : ℕ} → n ≡ r.row.number → m ≡ s.row.number → p ≡ r.at * d
    → q ≡ s.at * d
    → (let g = common_divisor (x - p) (q - p) in
    ◌≡◌ {A = Spot} (record { lower = n; upper = m; part = (x - p) / g; whole = (q - p) / g })
    (spot_of (between r s x d)))
between-as r s x d e f g h = rw (e, f, g, h)

-- what the walk comes to, with the rows' numbers
met : (c : At-loop-i) {w : Way} →
    let a = c.args in
    way_in (drop (c.loop-i.i - 1) (part a.k)) a.x a.d ≡ w → spot_of w ≡ spot_of (way_in (part a.k) a.x a.d)
met c e = ap spot_of (sym (c.loop-i.invariant.2 ∙ e))

-- the row behind the one that the loop holds
next-read : (c : After-row_of-next) → Read c.args.k (c.loop-i.i - 1 + 1) c.row_of-next.result
next-read c =
    let back : c.loop-i.i ≡ c.loop-i.i - 1 + 1 = omega (arith, c.loop-i.auto.i) in
    subst (λ (n : ℕ). Read c.args.k n c.row_of-next.result) back c.row_of-next.ensures

pub returns-then-x-s : goal.returns-then-x-s
returns-then-x-s c =
    let a = c.args in
    let i = c.loop-i.i - 1 in
    let held = c.loop-i.invariant.1 in
    let from = stands_at a.k i held a.d in
    c.on_row.ensures
    ∙ ap row_spot (number_at a.k i held)
    ∙ met (goal.at.returns-then-x-s c).At-loop-i (way_on (part a.k) a.x a.d i (omega arith) (omega arith))

pub returns-then-x-t : goal.returns-then-x-t
returns-then-x-t c =
    let a = c.args in
    let i = c.loop-i.i - 1 in
    let held = c.loop-i.invariant.1 in
    let read = next-read (goal.at.returns-then-x-t c).After-row_of-next in
    let from = stands_at a.k i held a.d in
    let to = stands_at a.k (i + 1) read a.d in
    c.between.ensures
    ∙ between-as (row a.k i held) (row a.k (i + 1) read) a.x a.d (number_at a.k i held) (number_at a.k (i + 1) read)
    from to
    ∙ met (goal.at.returns-then-x-t c).At-loop-i
    (way-between (part a.k) a.x a.d i (omega arith) (omega arith) (omega arith))

pub loop-i-preserved : goal.loop-i-preserved
loop-i-preserved c =
    let a = c.args in
    let i = c.loop-i.i - 1 in
    let read = next-read (goal.at.loop-i-preserved c).After-row_of-next in
    let from = stands_at a.k i c.loop-i.invariant.1 a.d in
    let to = stands_at a.k (i + 1) read a.d in
    let back : c.loop-i.i + 1 - 1 ≡ i + 1 = omega arith in
    let on = way-passes (part a.k) a.x a.d i (omega arith) (omega arith) (omega arith) in
    rw back (omega arith, read, c.loop-i.invariant.2 ∙ on)

pub returns : goal.returns
returns c =
    let a = c.args in
    let i = c.loop-i.i - 1 in
    c.on_row-2.ensures
    ∙ ap row_spot (number_at a.k i c.loop-i.invariant.1)
    ∙ met (goal.at.returns c).At-loop-i (way-ends (part a.k) a.x a.d i (omega arith))
