-- `faces_from` meets its contract: each line that is passed is plain and has no fault.
use Prim.Native.Nat.{ℕ, ◌+◌, ◌*◌, ◌≤◌, ◌<◌}
use mathlib.Core.Path.{◌≡◌, refl, ap, sym, ◌∙◌, subst}
use mathlib.Core.Bool.{Bool, not, false≢true}
use native.Mathlib.Omega.{arith}
use lib.ListN.{length}
use lib.Seq.{sets, length-sets}
use Rattle.whole.proofs.Size.{said}
use Rattle.building.specs.Year.{has_heights}
use Rattle.building.specs.Fault.{first}
use Rattle.lines.specs.Held.{held, line_at}
use Rattle.entry.specs.declared.Face.{Face}
use Rattle.entry.specs.Flat.{per_face, numbers_of}
use Rattle.rules.specs.declared.Kind.TheVariants.{Entry}
use Rattle.rules.specs.declared.Section.TheVariants.{F}
use Rattle.rules.specs.Faults.{face_faults}
use Rattle.rules.proofs.Line.{fault-in}
use Rattle.sheet.specs.Said.{PlainFace, FacesRead}
use Rattle.sheet.proofs.Plain.{told}
use Rattle.sheet.proofs.FaceLines.{none_passed, all-passed, one-passed}
use borrow.Author.Rules.{rules}
use Rattle.sheet.proofs.faces.faces_from.Goals.{At-loop-done, Start, in-F, in_default}
use Rattle.sheet.proofs.faces.faces_from.Goals as goal

pub loop-done-init : goal.loop-done-init
loop-done-init c = let a = c.args in (refl, none_passed a.s.now a.b a.at a.faces a.flat.now)

-- the faces are lines of their own section
module _ (c : At-loop-done) where
  abbrev start : Start
  start = (goal.at.At-loop-done c).Start

  is-faces : start.args.sec ≡ F
  is-faces =
      elim c.match-matches.branch [
        | in-F w ↦ w.in-F.is
        | in_default w ↦ absurd (false≢true (sym w.matches-is ∙ told _ (ap not c.if-not-matches.false)))
      ]

  read : (done : ℕ) → done ≡ c.loop-done.done → (done ≤ start.args.count) × (0 < done → start.args.sec ≡ F)
      × FacesRead start.args.s.now start.args.b done start.args.at start.args.faces start.args.flat.now
      c.loop-done.next c.loop-done.flat
  read done e =
      let a = start.args in (
        omega (arith, e, c.loop-done.auto.done-end),
        λ h. is-faces,
        rw e
            (all-passed a.s.now a.b a.at a.faces a.flat.now c.loop-done.done c.loop-done.next c.loop-done.flat
            c.loop-done.invariant.1),
      )

pub returns-in_default-face_at : goal.returns-in_default-face_at
returns-in_default-face_at c = read (goal.at.returns-in_default-face_at c).At-loop-done _ refl

pub returns-then-face_fault-ne0 : goal.returns-then-face_fault-ne0
returns-then-face_fault-ne0 c = read (goal.at.returns-then-face_fault-ne0 c).At-loop-done _ refl

pub returns : goal.returns
returns c = read (goal.at.returns c).At-loop-done c.args.count (omega arith)

pub loop-done-preserved : goal.loop-done-preserved
loop-done-preserved c =
    let a = c.args in
    let s = a.s.now in
    let at = c.loop-done.next in
    let x = c.in-Some.x in
    let tall = said has_heights a.b.year c.has_heights-heights.ensures (search rules) in
    let plain = subst (λ (t : Bool). PlainFace t s at x) tall c.in-Some.ensures in
    let n = a.faces + c.loop-done.done in (
      ap length c.put_face.ensures
          ∙ length-sets c.loop-done.flat (per_face * n) (numbers_of x.face)
          ∙ c.loop-done.invariant.0,
      one-passed s a.b a.at a.faces a.flat.now c.loop-done.done at x.next c.loop-done.flat c.put_face.new.flat
          c.loop-done.invariant.1
          (sym c.if-face_fault-ne0.false
          ∙ c.face_fault.ensures
          ∙ ap (λ (g : Face). first (face_faults a.b g)) plain.2
          ∙ sym (fault-in (Entry F) a.b (held (line_at s at)) plain.1))
          plain.0
          (c.put_face.ensures
          ∙ ap (λ (g : Face). sets c.loop-done.flat (per_face * n) (numbers_of g)) plain.2),
    )
