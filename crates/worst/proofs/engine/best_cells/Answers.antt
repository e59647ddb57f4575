-- `engine::best_cells` meets its contract: after w winds each top is the best cell of the first w.
use mathlib.Core.Path.{◌≡◌, refl, sym, ap, ◌∙◌, subst}
use Prim.Native.Nat.{ℕ, ◌<◌}
use native.Mathlib.Omega.{arith}
use lib.IntN.{pos}
use lib.ListN.{get_or}
use Rattle.whole.specs.Lists.{numbers}
use mathlib.Core.List.{List}
use Rattle.entry.specs.declared.Step.{Step}
use Rattle.job.specs.declared.Job.{Job}
use Rattle.job.specs.Carried.{carried, no_wind}
use Rattle.pair.specs.Total.{units, no_pair}
use Rattle.worst.specs.Best.{better}
use Rattle.worst.specs.Quick.{over}
use Rattle.worst.specs.Worst.{given}
use Rattle.worst.specs.Stored.{no_cell, cells_of, sums_at, stored_of}
use Rattle.worst.specs.Amounts.{axes_in}
use Rattle.worst.specs.Engine.{top_of, top_at, faces_of, axes_of, cell_with, wind_best, best_up_to}
use Rattle.worst.specs.Lent.{job_by}
use Rattle.worst.specs.Factors.{profile_of, Fraction, FactorsStand, Fractions}
use Rattle.worst.specs.Proper.{ProperEnds}
use Rattle.worst.specs.Small.{Ready}
use Rattle.worst.proofs.Better.{over-next}
use Rattle.worst.proofs.Kept.{no_top, no-ends-proper}
use Rattle.worst.proofs.Accepted.{job-ready}
use Rattle.worst.proofs.JobSums.{job-reckoned}
use Rattle.worst.proofs.FourCells.{four-own, four-proper}
use Rattle.worst.proofs.engine.best_cells.Goals.{After-of_wind-four, In-loop-w, Start}
use Rattle.worst.proofs.engine.best_cells.Goals as goal

-- a wind that counts
module _ (d : In-loop-w) where
  abbrev a : Start
  a = (goal.at.In-loop-w d).Start

  abbrev job : Job
  job = job_by a.args.s a.args.faces a.args.flat.now

  ready : Ready job
  ready = job-ready job a.requires.1

  abbrev w : ℕ
  w = d.loop-w.w

  counted : w < job.winds.count
  counted = d.loop-w-test.true

  below : w < 8
  below = let t = counted in omega (arith, ready.winds)

  fractions : Fractions job.faces a.args.factors.now
  fractions i t = subst Fraction (sym (a.requires.2 i t)) (ready.factors i t)

-- the cells of the wind, as the engine reckons them
module _ (c : After-of_wind-four) where
  abbrev d : In-loop-w
  d = (goal.at.After-of_wind-four c).In-loop-w

  -- whatever profile has the factors
  are : (profile : List Step)
      → FactorsStand profile (job d).faces d.args.factors.now
      → (i : ℕ) → i < (job d).internals.count
      → get_or c.of_wind-four.result.cell i no_cell
      ≡ cell_with (axes_of (job d).building profile (get_or (job d).winds.entry (w d) no_wind) (faces_of (job d).faces))
      (get_or (job d).internals.entry i (pos 0))
  are profile q i t =
      let sums = c.added-sums.result in
      let all = c.of_wind-four.ensures (λ k. cell_with (axes_in sums) (get_or (job d).internals.entry k (pos 0)))
      (λ k q. refl) in
      all.stand i t
      ∙ ap (λ p. cell_with p (get_or (job d).internals.entry i (pos 0)))
      (c.added-sums.ensures.1 profile q)

pub loop-w-init : goal.loop-w-init
unfolding over numbers
loop-w-init c =
    let e = c.no_ends-ends.ensures in (
      c.requires.3,
      subst ProperEnds (sym e) no-ends-proper,
      λ profile q h r axis side. ap (λ x. top_of (top_at axis side x)) e ∙ no_top units no_pair axis side,
    )

pub overflow_cast-wind : goal.overflow_cast-wind
overflow_cast-wind c = omega (arith, below c)

pub offset_bounds-winds-w : goal.offset_bounds-winds-w
offset_bounds-winds-w c = record { fits = omega (arith, below c) }

pub bounds-winds-w : goal.bounds-winds-w
bounds-winds-w c = omega (arith, below c)

pub added-sums-requires : goal.added-sums-requires
added-sums-requires c =
    let at_loop_w = (goal.at.added-sums-requires c).In-loop-w in
    (c.requires.0, (ready at_loop_w).met (w at_loop_w) (counted at_loop_w), fractions at_loop_w, c.loop-w.invariant.0)

pub of_wind-four-requires : goal.of_wind-four-requires
of_wind-four-requires c = (c.added-sums.ensures.0, (ready (goal.at.of_wind-four-requires c).In-loop-w).internals)

pub over_internals-ends-requires : goal.over_internals-ends-requires
over_internals-ends-requires c =
    let at_loop_w = (goal.at.over_internals-ends-requires c).In-loop-w in
    let at_of_wind_four = (goal.at.over_internals-ends-requires c).After-of_wind-four in (
      (ready at_loop_w).internals.0,
      omega arith,
      c.loop-w.invariant.1,
      four-proper (job at_loop_w).building (profile_of (job at_loop_w)) (job at_loop_w).winds (job at_loop_w).internals
          (job at_loop_w).faces (w at_loop_w)
          (counted at_loop_w) (below at_loop_w) (ready at_loop_w).internals.0 c.of_wind-four.result.cell
          (are at_of_wind_four (profile_of (job at_loop_w)) c.requires.2),
    )

pub loop-w-preserved : goal.loop-w-preserved
loop-w-preserved c =
    let at_loop_w = (goal.at.loop-w-preserved c).In-loop-w in
    let at_of_wind_four = (goal.at.loop-w-preserved c).After-of_wind-four in
    let j = job at_loop_w in
    let t = counted at_loop_w in (
      c.added-sums.ensures.2,
      c.over_internals-ends.ensures.1,
      λ profile q h r axis side. c.over_internals-ends.ensures.0 axis side
          ∙ (λ i. better side (c.loop-w.invariant.2 profile q h r axis side i)
          (four-own j.building profile j.winds j.internals j.faces (w at_loop_w) t (below at_loop_w)
          (ready at_loop_w).internals.0
          c.of_wind-four.result.cell (are at_of_wind_four profile q) h r axis side i))
          ∙ over-next side (wind_best axis side (cells_of h) j.internals.count) (w at_loop_w),
    )

pub returns : goal.returns
unfolding stored_of
returns c =
    let l = c.loop-w in
    let j = job_by c.args.s c.args.faces c.args.flat.now in
    let left = c.loop-w-test.false in
    let all : l.w ≡ j.winds.count = omega (arith, l.auto.w-end) in (
      λ axis side. l.invariant.2 (profile_of j) c.requires.2 (sums_at (given (carried j)))
          (job-reckoned j c.requires.1) axis side
          ∙ ap (best_up_to axis side (stored_of (carried j)) j.internals.count) all,
      l.invariant.1,
      l.invariant.0,
    )
