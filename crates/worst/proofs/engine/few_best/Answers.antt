-- `engine::few_best` meets its contract: after w winds each top is the best cell of the first w, and that of a wind is
-- at the internal coefficient that the side takes.
use mathlib.Core.Path.{◌≡◌, sym, ap, ◌∙◌, subst}
use mathlib.Core.List.{List}
use Prim.Native.Nat.{ℕ, ◌+◌, ◌-◌, ◌≤◌, ◌<◌}
use native.Mathlib.Omega.{arith}
use lib.IntN.{pos}
use lib.ListN.{get_or}
use Rattle.whole.specs.Lists.{first_of, numbers}
use Rattle.entry.specs.declared.Step.{Step}
use Rattle.job.specs.declared.Job.{Job}
use Rattle.job.specs.declared.Internals.{Internals}
use Rattle.job.specs.Carried.{carried, no_wind}
use Rattle.worst.specs.declared.Axis.{Axis}
use Rattle.worst.specs.declared.Side.{Side}
use Rattle.worst.specs.declared.StoredCell.{StoredCell}
use Rattle.worst.specs.Best.{better}
use Rattle.worst.specs.Quick.{over, sum}
use Rattle.worst.specs.Sums.{Axes}
use Rattle.worst.specs.Few.{few_axes}
use Rattle.worst.specs.Engine.{few_top_of, top_at}
use Rattle.worst.specs.Inside.{inside_numbered, cell_at, furthest_cell, Furthest}
use Rattle.worst.specs.Worst.{given}
use Rattle.worst.specs.Stored.{cells_of, sums_at, stored_of}
use Rattle.worst.specs.Engine.{faces_of, axes_of, sum_of, sums_on, wind_best, best_up_to}
use Rattle.worst.specs.Lent.{job_by}
use Rattle.worst.specs.Factors.{profile_of, Fraction, FactorsStand, Fractions}
use Rattle.worst.specs.Small.{Ready}
use Rattle.worst.proofs.Better.{over-next}
use Rattle.worst.proofs.Kept.{no_top}
use Rattle.worst.proofs.Added.{no-axes-plus}
use Rattle.worst.proofs.SumsGrow.{few-more}
use Rattle.worst.proofs.Accepted.{job-ready}
use Rattle.worst.proofs.JobSums.{CellsReckoned, job-reckoned}
use Rattle.worst.proofs.FourCells.{own-best}
use Rattle.worst.proofs.engine.few_best.Goals.{After-few_added-few, In-loop-w, Start}
use Rattle.worst.proofs.engine.few_best.Goals as goal

-- what the job is
module _ (a : Start) where
  abbrev job : Job
  job = job_by a.args.s a.args.faces a.args.flat.now

  ready : Ready job
  ready = job-ready job a.requires.2

-- a wind that counts
module _ (d : In-loop-w) where
  abbrev a : Start
  a = (goal.at.In-loop-w d).Start

  abbrev w : ℕ
  w = d.loop-w.w

  counted : w < (job a).winds.count
  counted = d.loop-w-test.true

  below : w < 8
  below = let t = counted in omega (arith, (ready a).winds)

  fractions : Fractions (job a).faces a.args.factors.now
  fractions i t = subst Fraction (sym (a.requires.3 i t)) ((ready a).factors i t)

-- the sums of its faces
module _ (f : After-few_added-few) where
  abbrev in-loop : In-loop-w
  in-loop = (goal.at.After-few_added-few f).In-loop-w

  abbrev start : Start
  start = (goal.at.In-loop-w in-loop).Start

  abbrev sums : List Step → Axes
  sums profile =
      axes_of (job start).building profile (get_or (job start).winds.entry (w in-loop) no_wind)
      (faces_of (job start).faces)

  are : (profile : List Step)
      → FactorsStand profile (job start).faces start.args.factors.now
      → few_axes f.few_added-few.result ≡ sums profile
  unfolding first_of sum
  are profile q = sym (no-axes-plus (few_axes f.few_added-few.result)) ∙ f.few_added-few.ensures.1 profile q

  -- the furthest of its cells
  wind-is : (profile : List Step)
      → FactorsStand profile (job start).faces start.args.factors.now
      → (is : Internals) → is.count ≤ 4
      → Furthest is is.count in-loop.insides_of-insides.result → (h : ℕ → StoredCell)
      → CellsReckoned (job start).building profile (job start).winds is (job start).faces h
      → (axis : Axis) (side : Side)
      → furthest_cell side (sums_on axis (few_axes f.few_added-few.result))
      in-loop.insides_of-insides.result (w in-loop + 1)
      ≡ wind_best axis side (cells_of h) is.count (w in-loop + 1)
  wind-is profile q is few r h k axis side =
      let n = w in-loop + 1 in
      let p = sums_on axis (few_axes f.few_added-few.result) in
      r side (sum_of side p) p.weight n
      ∙ ap
      (λ u. over side
      (λ i. cell_at (sum_of side (sums_on axis u)) (sums_on axis u).weight n (inside_numbered is i))
      (numbers is.count 1))
      (are profile q)
      ∙ own-best (job start).building profile (job start).winds is (job start).faces (w in-loop)
      (counted in-loop) (below in-loop) few h k axis side

pub insides_of-insides-requires : goal.insides_of-insides-requires
insides_of-insides-requires c =
    let at_start = (goal.at.insides_of-insides-requires c).Start in
    ((ready at_start).internals, (ready at_start).some_internal)

pub loop-w-init : goal.loop-w-init
unfolding over numbers
loop-w-init c =
    let e = c.no_ends-ends.ensures in (
      c.requires.4,
      λ profile q is few r h k axis side. ap (λ x. few_top_of (top_at axis side x)) e ∙ no_top (λ z. z) (pos 0) axis side,
    )

pub overflow_cast-wind : goal.overflow_cast-wind
overflow_cast-wind c = omega (arith, below c)

pub offset_bounds-winds-w : goal.offset_bounds-winds-w
offset_bounds-winds-w c = record { fits = omega (arith, below c) }

pub bounds-winds-w : goal.bounds-winds-w
bounds-winds-w c = omega (arith, below c)

pub few_added-few-requires : goal.few_added-few-requires
few_added-few-requires c =
    let at_loop_w = (goal.at.few_added-few-requires c).In-loop-w in (
      c.requires.1,
      omega arith,
      c.requires.0,
      (ready (goal.at.few_added-few-requires c).Start).met (w at_loop_w) (counted at_loop_w),
      fractions at_loop_w,
      c.loop-w.invariant.0,
    )

pub with_few_sums-ends-requires : goal.with_few_sums-ends-requires
with_few_sums-ends-requires f = (
  omega arith,
  few-more (f.args.faces - 0) 24 _ (omega (arith, f.requires.0)) f.few_added-few.ensures.0,
  f.insides_of-insides.ensures.0,
)

pub loop-w-preserved : goal.loop-w-preserved
loop-w-preserved c =
    let at_loop_w = (goal.at.loop-w-preserved c).In-loop-w in
    let t = counted at_loop_w in (
      c.few_added-few.ensures.2,
      λ profile q is few r h k axis side. c.with_few_sums-ends.ensures axis side
          ∙ (λ i. better side (c.loop-w.invariant.1 profile q is few r h k axis side i)
          (wind-is (goal.at.loop-w-preserved c).After-few_added-few profile q is few r h k axis side i))
          ∙ over-next side (wind_best axis side (cells_of h) is.count) (w at_loop_w),
    )

pub returns : goal.returns
unfolding stored_of
returns c =
    let at_start = (goal.at.returns c).Start in
    let l = c.loop-w in
    let j = job at_start in
    let left = c.loop-w-test.false in
    let all : l.w ≡ j.winds.count = omega (arith, l.auto.w-end) in (
      λ axis side. c.settled_ends.ensures.0 axis side
          ∙ l.invariant.1 (profile_of j) c.requires.3 j.internals (ready at_start).internals.0
          c.insides_of-insides.ensures.1 (sums_at (given (carried j)))
          (job-reckoned j c.requires.2) axis side
          ∙ ap (best_up_to axis side (stored_of (carried j)) j.internals.count) all,
      c.settled_ends.ensures.1,
      l.invariant.0,
    )
