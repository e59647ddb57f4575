-- `forces::cell` meets its contract: after i faces the forces of the first i stand in the array.
use mathlib.Core.Path.{◌≡◌, refl, sym, ◌∙◌, subst}
use mathlib.Core.List.{List}
use Prim.Native.Nat.{ℕ, ◌-◌, ◌≤◌, ◌<◌}
use native.Mathlib.Omega.{arith}
use borrow.Author.Rules.{rules}
use lib.IntN.{ℤ, pos, nat_abs}
use lib.ListN.{length, get_or, set}
use mir.Syntax.{w64}
use mir.Val.{SFits, to_z, of_z}
use mir.ValLaws.{to_z-of_z}
use Rattle.whole.specs.Lists.{first_of}
use Rattle.whole.proofs.Size.{Num, num≤, back, bound}
use Rattle.book.specs.Answer.{values_of}
use Rattle.book.specs.Question.{outside_of}
use Rattle.entry.specs.declared.Face.{Face}
use Rattle.entry.specs.Flat.{faces_in}
use Rattle.job.specs.declared.Job.{Job}
use Rattle.job.specs.Carried.{no_face}
use Rattle.worst.specs.declared.FaceForces.{FaceForces}
use Rattle.worst.specs.declared.speeds.Factor.{Factor}
use Rattle.worst.specs.Lent.{job_by}
use Rattle.worst.specs.Forces.{factor_of}
use Rattle.worst.specs.Factors.{profile_of, Fraction}
use Rattle.worst.specs.Small.{Met}
use Rattle.worst.specs.AtPressure.{forces_by}
use Rattle.worst.proofs.Accepted.{job-ready}
use Rattle.worst.proofs.LentFaces.{face-at}
use Rattle.worst.proofs.PerFace.{rows_of, row_next, rows_are, small-outside}
use Rattle.worst.proofs.forces.cell.Goals.{After-face_in-f, After-no_cell-all, In-loop-i, Start}
use Rattle.worst.proofs.forces.cell.Goals as goal

-- the year and the internal coefficient, read back
year : (c : After-no_cell-all) → to_z w64 (of_z w64 c.args.s.year) ≡ c.args.s.year
year c = let fits : SFits w64 c.args.s.year = search rules in to_z-of_z w64 _ fits

abbrev inside : After-no_cell-all → Num
inside c = back w64 (num≤ c.args.internal c.requires.3) tt

-- the job and its faces
module _ (l : After-no_cell-all) where
  abbrev flat : List ℤ
  flat = l.args.flat.now

  abbrev job : Job
  job = job_by l.args.s l.args.count flat

  abbrev faces : List Face
  faces = faces_in l.args.count flat

-- face i
module _ (d : In-loop-i) where
  abbrev l : After-no_cell-all
  l = (goal.at.In-loop-i d).After-no_cell-all

  abbrev i : ℕ
  i = d.loop-i.i

  counted : i < l.args.count
  counted = d.loop-i-test.true

  room : i < 240
  room = let t = counted in omega (arith, l.requires.0.few)

  abbrev face : Face
  face = get_or (faces l) i no_face

-- as it is read
module _ (k : After-face_in-f) where
  abbrev d : In-loop-i
  d = (goal.at.After-face_in-f k).In-loop-i

  abbrev a : Start
  a = (goal.at.In-loop-i d).Start

  abbrev met : Face
  met = k.face_in-f.result

  seen : met ≡ face d
  seen =
      k.face_in-f.ensures ∙ sym (face-at a.args.count (flat (goal.at.In-loop-i d).After-no_cell-all) (i d) (counted d))

pub fill-requires : goal.fill-requires
fill-requires c = (
  record { numbered = c.requires.0; room = c.requires.0.few },
  refl,
  (job-ready (job_by c.args.s c.args.count c.args.flat.now) c.requires.1).profiled,
)

pub loop-i-init : goal.loop-i-init
unfolding first_of
loop-i-init c = λ profile h. c.no_cell-all.ensures

pub face_in-f-requires : goal.face_in-f-requires
face_in-f-requires c = let t = counted c in omega (arith, c.requires.0.stand)

pub face_forces-requires : goal.face_forces-requires
face_forces-requires c =
    let at_loop_i = (goal.at.face_forces-requires c).In-loop-i in
    let at_no_cell_all = (goal.at.face_forces-requires c).After-no_cell-all in
    let at_face = (goal.at.face_forces-requires c).After-face_in-f in
    let s = c.args in
    let w = s.w in
    let n = i at_loop_i in
    let t = counted at_loop_i in
    let j = job at_no_cell_all in
    let small = small-outside j c.requires.1 n t w.direction in
    let outs : ℤ → Face → List ℤ = λ y f. values_of (outside_of y s.s.building w.direction f.zone) in
    let same : outs s.s.year (face at_loop_i) ≡ outs _ (met at_face) =
    λ m. outs (sym (year at_no_cell_all) m) (sym (seen at_face) m) in (
      subst (Met s.s.building w) (sym (seen at_face)) (c.requires.2.each n t),
      subst Fraction (sym (c.fill.ensures n t)) ((job-ready j c.requires.1).factors n t),
      bound (inside at_no_cell_all),
      subst (λ v. nat_abs (get_or v 0 (pos 0)) ≤ 1200) same (small 0),
      subst (λ v. nat_abs (get_or v (length v - 1) (pos 0)) ≤ 1200) same
          (small (length (outs s.s.year (face at_loop_i)) - 1)),
    )

pub bounds-all-i : goal.bounds-all-i
bounds-all-i c = room (goal.at.bounds-all-i c).In-loop-i

pub loop-i-preserved : goal.loop-i-preserved
loop-i-preserved c =
    let at_loop_i = (goal.at.loop-i-preserved c).In-loop-i in
    let at_no_cell_all = (goal.at.loop-i-preserved c).After-no_cell-all in
    let at_face = (goal.at.loop-i-preserved c).After-face_in-f in
    let n = i at_loop_i in
    let s = c.args in
    let y = to_z w64 (of_z w64 s.s.year) in
    let internal = to_z w64 (of_z w64 s.internal) in
    let under : Factor → Face → FaceForces = λ f. forces_by y s.s.building s.w f internal in
    λ profile h.
    let row : c.face_forces.result ≡ under (factor_of profile (face at_loop_i)) (face at_loop_i) =
    c.face_forces.ensures ∙ (λ m. under (h n (counted at_loop_i) m) (seen at_face m)) in
    (λ j. record { face = set (c.loop-i.invariant profile h j).face n (row j) })
    ∙ row_next y s.s.building profile s.w internal (faces at_no_cell_all) n (room at_loop_i)

pub returns : goal.returns
returns c =
    let at_no_cell_all = (goal.at.returns c).After-no_cell-all in
    let l = c.loop-i in
    let s = c.args in
    let j = job at_no_cell_all in
    let left = c.loop-i-test.false in
    let all : l.i ≡ s.count = omega (arith, l.auto.i-end) in
    l.invariant (profile_of j) c.fill.ensures
    ∙ (λ k.
    rows_of (year at_no_cell_all k) s.s.building (profile_of j) s.w ((inside at_no_cell_all).same k)
    (first_of no_face (all k) (faces at_no_cell_all)))
    ∙ sym (rows_are j s.w s.internal)
