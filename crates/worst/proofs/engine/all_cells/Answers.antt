-- `engine::all_cells` meets its contract: after w winds the cells stand up to those of the next.
use mathlib.Core.Path.{◌≡◌, sym, ap, ◌∙◌, subst}
use mathlib.Core.List.{List}
use Prim.Native.Nat.{ℕ, ◌+◌, ◌*◌, ◌<◌}
use native.Mathlib.Omega.{arith}
use lib.IntN.{pos}
use lib.ListN.{get_or}
use Rattle.entry.specs.declared.Step.{Step}
use Rattle.job.specs.declared.Job.{Job}
use Rattle.job.specs.Carried.{carried, no_wind}
use Rattle.worst.specs.declared.StoredCell.{StoredCell}
use Rattle.worst.specs.Worst.{given}
use Rattle.worst.specs.Stored.{stored_cells, sums_at, no_cell}
use Rattle.worst.specs.Engine.{cell_with, UpTo}
use Rattle.worst.specs.Factors.{profile_of, Fraction, FactorsStand, Fractions}
use Rattle.worst.specs.Lent.{job_by}
use Rattle.worst.specs.Small.{AllMet, Ready}
use Rattle.worst.proofs.StoredSums.{up-to-none, up-to-more, up-to-four}
use Rattle.worst.proofs.Accepted.{job-ready}
use Rattle.worst.proofs.JobSums.{CellsReckoned, job-reckoned, all-stored}
use Rattle.worst.proofs.engine.all_cells.Goals.{After-last_one-1, After-of_wind-four, In-loop-w, Start}
use Rattle.worst.proofs.engine.all_cells.Goals as goal

-- a wind that counts
module _ (d : In-loop-w) where
  abbrev a : Start
  a = (goal.at.In-loop-w d).Start

  abbrev job : Job
  job = job_by a.args.s a.args.faces a.args.flat.now

  ready : Ready job
  ready = job-ready job a.requires.1

  abbrev w : ℕ
  w = d.loop-w.w

  counted : w < job.winds.count
  counted = d.loop-w-test.true

  below : w < 8
  below = let t = counted in omega (arith, ready.winds)

  met : AllMet job.building job.faces (get_or job.winds.entry w no_wind)
  met = ready.met w counted

  fractions : Fractions job.faces a.args.factors.now
  fractions i t = subst Fraction (sym (a.requires.2 i t)) (ready.factors i t)

-- the four cells of the wind
module _ (c : After-last_one-1) where
  abbrev called : After-of_wind-four
  called = (goal.at.After-last_one-1 c).After-of_wind-four

  abbrev d : In-loop-w
  d = (goal.at.After-of_wind-four called).In-loop-w

  room : 4 * w d + 3 < 32
  room = omega (arith, below d)

  abbrev cell : ℕ → StoredCell
  cell i = get_or called.of_wind-four.result.cell i no_cell

  four_are : (profile : List Step)
      → FactorsStand profile (job d).faces d.args.factors.now
      → (h : ℕ → StoredCell)
      → CellsReckoned (job d).building profile (job d).winds (job d).internals (job d).faces h
      → (i : ℕ) → i < 4 → h (4 * w d + i) ≡ cell i
  four_are profile s h r i t =
      let j = job d in
      let e = called.added-sums.ensures.1 profile s in
      let mine : ℕ → StoredCell = λ k. h (4 * w d + k) in
      let n = j.internals.count in
      let stand =
      called.of_wind-four.ensures mine (λ k q. r.each (w d) k (counted d) q
      ∙ ap (λ p. cell_with p (get_or j.internals.entry k (pos 0))) (sym e)) in
      let all =
      up-to-more 4 mine n 4 called.of_wind-four.result.cell (ready d).internals.0 stand
      (λ k low high. r.past (w d) k high low) in
      sym (all.stand i t)

pub loop-w-init : goal.loop-w-init
loop-w-init c =
    let e = ap (λ t. t.cell) c.none_stored-stored.ensures in (
      c.requires.3,
      λ profile s h r. subst (UpTo stored_cells h 0) (sym e) (up-to-none stored_cells h),
    )

pub offset_bounds-winds-w : goal.offset_bounds-winds-w
offset_bounds-winds-w c = record { fits = omega (arith, below c) }

pub bounds-winds-w : goal.bounds-winds-w
bounds-winds-w c = omega (arith, below c)

pub added-sums-requires : goal.added-sums-requires
added-sums-requires c =
    let at_loop_w = (goal.at.added-sums-requires c).In-loop-w in
    (c.requires.0, met at_loop_w, fractions at_loop_w, c.loop-w.invariant.0)

pub of_wind-four-requires : goal.of_wind-four-requires
of_wind-four-requires c = (c.added-sums.ensures.0, (ready (goal.at.of_wind-four-requires c).In-loop-w).internals)

pub overflow_mul-at : goal.overflow_mul-at
overflow_mul-at c = record { fits = omega (arith, room c) }

pub offset_bounds-stored-at : goal.offset_bounds-stored-at
offset_bounds-stored-at c = record { fits = omega (arith, room c) }

pub bounds-stored-at : goal.bounds-stored-at
bounds-stored-at c = omega (arith, room c)

pub overflow_add-two : goal.overflow_add-two
overflow_add-two c = record { fits = omega (arith, room c) }

pub offset_bounds-stored-at-in-loop-w : goal.offset_bounds-stored-at-in-loop-w
offset_bounds-stored-at-in-loop-w c = record { fits = omega (arith, room c) }

pub bounds-stored-at-in-loop-w : goal.bounds-stored-at-in-loop-w
bounds-stored-at-in-loop-w c = omega (arith, room c)

pub overflow_add-three : goal.overflow_add-three
overflow_add-three c = record { fits = omega (arith, room c) }

pub offset_bounds-stored-at-in-loop-w-2 : goal.offset_bounds-stored-at-in-loop-w-2
offset_bounds-stored-at-in-loop-w-2 c = record { fits = omega (arith, room c) }

pub bounds-stored-at-in-loop-w-2 : goal.bounds-stored-at-in-loop-w-2
bounds-stored-at-in-loop-w-2 c = omega (arith, room c)

pub overflow_add-last_one : goal.overflow_add-last_one
overflow_add-last_one c = record { fits = omega (arith, room c) }

pub offset_bounds-stored-at-in-loop-w-3 : goal.offset_bounds-stored-at-in-loop-w-3
offset_bounds-stored-at-in-loop-w-3 c = record { fits = omega (arith, room c) }

pub bounds-stored-at-in-loop-w-3 : goal.bounds-stored-at-in-loop-w-3
bounds-stored-at-in-loop-w-3 c = omega (arith, room c)

pub loop-w-preserved : goal.loop-w-preserved
loop-w-preserved c =
    let at_loop_w = (goal.at.loop-w-preserved c).In-loop-w in
    let t = counted at_loop_w in
    let next : 4 * w at_loop_w + 4 ≡ 4 * (w at_loop_w + 1) = omega arith in (
      c.added-sums.ensures.2,
      λ profile s h r. up-to-four stored_cells h (4 * w at_loop_w) (4 * (w at_loop_w + 1)) next c.loop-w.stored.cell
          (cell c)
          (room c) (c.loop-w.invariant.1 profile s h r) (four_are c profile s h r),
    )

pub returns : goal.returns
returns c =
    let l = c.loop-w in
    let j = job_by c.args.s c.args.faces c.args.flat.now in
    let left = c.loop-w-test.false in
    let all : l.w ≡ j.winds.count = omega (arith, l.auto.w-end) in
    let h = sums_at (given (carried j)) in
    all-stored j c.requires.1 l.stored.cell
    (subst (λ n. UpTo stored_cells h (4 * n) l.stored.cell) all
    (l.invariant.1 (profile_of j) c.requires.2 h (job-reckoned j c.requires.1)))
