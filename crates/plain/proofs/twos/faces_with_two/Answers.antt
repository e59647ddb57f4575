-- `twos::faces_with_two` meets its contract: the faces are marked that have two under one of the winds so far.
use mathlib.Core.Path.{◌≡◌, refl, sym, ap, ◌∙◌, subst}
use mathlib.Core.Bool.{Bool, false, cond, ◌||◌}
use mathlib.Core.List.{List, map}
use Prim.Native.Nat.{ℕ, suc, ◌+◌, ◌-◌, ◌≤◌, ◌<◌}
use native.Mathlib.Omega.{arith}
use lib.ListN.{length, get_or, get_or-replicate, length-map, take}
use lib.Seq.{length-take-le, take_all}
use Rattle.std.proofs.lemmas.List.{ext_get_or, get_or-take}
use Rattle.std.proofs.lemmas.List.Recursion.{is_count_by}
use Rattle.whole.specs.Lists.{how_many}
use Rattle.whole.proofs.Counting.{many-map}
use Rattle.whole.proofs.Lists.{get_d_map}
use Rattle.job.specs.declared.Job.{Job}
use Rattle.job.specs.Carried.{carried, most_faces, no_wind, no_face}
use Rattle.worst.specs.Rows.{Taken}
use Rattle.worst.specs.Worst.{given}
use Rattle.worst.proofs.Rows.{ready, winds-counted, faces-counted}
use Rattle.plain.specs.Plain.{any_of, two_somewhere}
use Rattle.plain.specs.Walked.{two_under}
use Rattle.plain.proofs.AnyOf.{any_next}
use Rattle.plain.proofs.twos.faces_with_two.Invariants.{among, two, Marked}
use Rattle.plain.proofs.twos.faces_with_two.Goals.{else-loop-w-test, then-loop-w-test+else-w-w-end}
use Rattle.plain.proofs.twos.faces_with_two.Goals as goal

-- those of wind w are marked besides those of the winds before it
through : (j : Job) (t : Taken j) (w : ℕ) (was marks : List Bool) → 1 ≤ w → w ≤ j.winds.count → Marked j (w - 1) was
    → (length marks ≡ most_faces)
    × ((k : ℕ) → k < j.faces.count → get_or marks k false ≡ (get_or was k false || two_under j (w - 1) k))
    → Marked j w marks
through j t w was marks from to m h =
    let winds = (carried j).winds in
    let e : w - 1 + 1 ≡ w = omega arith in
    record {
      long = h.0;
      at = λ k u.
          h.1 k u
          ∙ ap (λ x. x || two j k (get_or winds (w - 1) no_wind)) (m.at k u)
          ∙ sym (any_next (two j k) winds no_wind (w - 1) (omega (arith, winds-counted j t)))
          ∙ ap (λ n. among j n k) e;
    }

-- the marks of the faces, once they tell of all winds
marks-are : (j : Job) (t : Taken j) (marks : List Bool) → Marked j j.winds.count marks
    → take j.faces.count marks ≡ map (two_somewhere (given (carried j))) (carried j).faces
marks-are j t marks m =
    let n = j.faces.count in
    let g = given (carried j) in
    let long = length-take-le n marks (omega (arith, m.long, (ready j t).profiled.few)) in
    ext_get_or false (take n marks) (map (two_somewhere g) g.faces)
    (long ∙ sym (length-map g.faces (two_somewhere g) ∙ faces-counted j t))
    (λ k h.
    let low : k < n = omega (arith, long) in
    get_or-take n marks k false low
    ∙ m.at k low
    ∙ ap (any_of (two j k)) (take_all j.winds.count g.winds (omega (arith, winds-counted j t)))
    ∙ sym (get_d_map (two_somewhere g) g.faces k no_face false (omega (arith, faces-counted j t))))

pub loop-w-init : goal.loop-w-init
unfolding any_of
loop-w-init c =
    let few = (ready c.args.job c.requires).profiled.few in
    record { long = refl; at = λ k t. get_or-replicate most_faces k false false (omega (arith, few)) }

pub mark_twos-requires : goal.mark_twos-requires
mark_twos-requires c = (c.requires, omega arith, omega arith, c.loop-w.invariant.long)

pub loop-w-preserved : goal.loop-w-preserved
loop-w-preserved c =
    let e : c.loop-w.w ≡ c.loop-w.w + 1 - 1 = omega arith in
    subst (λ n. Marked c.args.job n c.mark_twos.new.marks) e
    (through c.args.job c.requires c.loop-w.w c.loop-w.marks c.mark_twos.new.marks c.loop-w.auto.w c.loop-w-test.true
    c.loop-w.invariant c.mark_twos.ensures)

pub slice_bounds-marks-end : goal.slice_bounds-marks-end
slice_bounds-marks-end c = omega (arith, (ready c.args.job c.requires).profiled.few)

pub slice_bounds-how_many-end : goal.slice_bounds-how_many-end
slice_bounds-how_many-end c =
    sym (length-take-le _ c.loop-w-test.marks (omega (arith, (ready c.args.job c.requires).profiled.few)))

pub returns : goal.returns
unfolding how_many
returns c =
    let j = c.args.job in
    let t = c.requires in
    let g = given (carried j) in
    let all : Marked j j.winds.count c.loop-w-test.marks =
    elim c.loop-w-test.branch [
      | else-loop-w-test w ↦ absurd (omega (arith, (ready j t).some_wind, w.loop-w-test.false))
      | then-loop-w-test+else-w-w-end w ↦
          let last : c.loop-w.w ≡ j.winds.count = omega arith in
          subst (Marked j j.winds.count) (sym w.marks-is)
          (subst (λ n. Marked j n w.mark_twos.new.marks) last
          (through j t c.loop-w.w c.loop-w.marks w.mark_twos.new.marks c.loop-w.auto.w w.loop-w-test.true
          c.loop-w.invariant w.mark_twos.ensures))
    ] in
    c.how_many.ensures
    ∙ sym (is_count_by (how_many (λ m. m)) (λ m. m) refl
    (λ x xs.
    let e : suc (how_many (λ m. m) xs) ≡ 1 + how_many (λ m. m) xs = omega arith in
    ap (λ n. cond x n (how_many (λ m. m) xs)) e) (take j.faces.count c.loop-w-test.marks))
    ∙ ap (how_many (λ m. m)) (marks-are j t c.loop-w-test.marks all)
    ∙ many-map (λ m. m) (two_somewhere g) g.faces
