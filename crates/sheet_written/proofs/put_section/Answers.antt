-- `put_section` meets its contract: the count is written, and so are the first i entries.
use Prim.Native.Nat.{ℕ, ◌<◌, ◌-◌}
use mathlib.Core.Path.{◌≡◌, sym, ◌∙◌, ap, subst}
use mathlib.Core.Logic.{⊎_elim}
use native.Mathlib.Omega.{arith}
use lib.IntN.{ℤ}
use mathlib.Core.Bool.{Bool}
use lib.ListN.{length, get_or}
use Rattle.whole.proofs.Size.{said}
use Rattle.building.specs.Year.{has_heights}
use mir.Facts.{to_z-of_z}
use Rattle.lines.specs.Held.{held_line}
use Rattle.page.proofs.Put.{put-length}
use Rattle.rules.specs.declared.Section.{Section}
use Rattle.rules.specs.declared.Section.TheVariants.{W, I, P}
use Rattle.job.specs.declared.Job.{Job}
use Rattle.job.specs.Carried.{no_face, carried, most_faces}
use Rattle.rules.specs.Sections.{about}
use Rattle.entry_written.specs.Fields.{year_fields, internal_fields, face_fields}
use Rattle.job.specs.Lines.{entries_of}
use Rattle.job.proofs.Sections.{count_line}
use Rattle.job.proofs.Alone.{entry_of}
use Rattle.job.proofs.Room.{most-roomed}
use Rattle.sheet_written.proofs.Puts.{entry-held, put-none, put-entry, put_all}
use borrow.Author.Rules.{rules, sfits_of}
use Rattle.sheet_written.proofs.put_section.Goals.{After-entry_count-n, After-has_heights-heights, In-loop-i}
use Rattle.sheet_written.proofs.put_section.Goals.{Joined-sec, Start}
use Rattle.sheet_written.proofs.put_section.Goals.{in-V, in-B, in-W, in-I, in-P, in-F}
use mir.Syntax.{w64}
use Rattle.sheet_written.proofs.put_section.Goals as goal

-- entry i is one of the section, which has room for it
module _ (c : In-loop-i) where
  abbrev tested : After-has_heights-heights
  tested = (goal.at.In-loop-i c).After-has_heights-heights

  abbrev counted : After-entry_count-n
  counted = (goal.at.After-has_heights-heights tested).After-entry_count-n

  abbrev start : Start
  start = (goal.at.After-entry_count-n counted).Start

  within : c.loop-i.i < length (entries_of (carried start.args.j) start.args.sec)
  within = omega (arith, c.loop-i-test.true, counted.entry_count-n.ensures)

  abbrev i : ℕ
  i = c.loop-i.i

  below : (t : Section) → start.args.sec ≡ t → i < (about t).most start.args.j.year
  below t e =
      subst (λ (u : Section). i < (about u).most start.args.j.year) e (omega (arith, within, start.requires))

  below-most : i < most_faces
  below-most = omega (arith, within, start.requires, most-roomed start.args.j.year start.args.sec)

  heights-are : tested.has_heights-heights.result ≡ has_heights start.args.j.year
  heights-are =
      said has_heights start.args.j.year tested.has_heights-heights.ensures tested.struct_told-1.given.0.1

-- the line that was made is entry i
module _ (c : Joined-sec) where
  abbrev job : Job
  job = c.args.j

  abbrev section : Section
  section = c.args.sec

  abbrev at_turn : In-loop-i
  at_turn = (goal.at.Joined-sec c).In-loop-i

  made : c.match-sec.x ≡ held_line 0 (entry_of job section (i at_turn))
  made =
      elim c.match-sec.branch [
        | in-V w ↦
            w.x-is
            ∙ said (λ (z : ℤ). held_line 0 (year_fields z)) job.year w.year_line-x.ensures
            w.struct_told-in-V-1.given.0.1
            ∙ of-section w.in-V.is
        | in-B w ↦ w.x-is ∙ w.building_line-x.ensures ∙ of-section w.in-B.is
        | in-W w ↦ w.x-is ∙ w.wind_line-x.ensures ∙ of-section w.in-W.is
        | in-I w ↦
            w.x-is
            ∙ w.internal_line-x.ensures
            ∙ ap (λ (z : ℤ). held_line 0 (internal_fields z)) (to_z-of_z {w = w64} (sfits_of w.z-1.given))
            ∙ of-section w.in-I.is
        | in-P w ↦ w.x-is ∙ w.step_line-x.ensures ∙ of-section w.in-P.is
        | in-F w ↦
            w.x-is
            ∙ w.face_line-x.ensures
            ∙ ap (λ (h : Bool). held_line 0 (face_fields h (get_or job.faces.entry (i at_turn) no_face)))
            (heights-are at_turn)
            ∙ of-section w.in-F.is
      ]
    where
      of-section : {t : Section} → section ≡ t
          → held_line 0 (entry_of job t (i at_turn)) ≡ held_line 0 (entry_of job section (i at_turn))
      of-section e = ap (λ (t : Section). held_line 0 (entry_of job t (i at_turn))) (sym e)

pub loop-i-init : goal.loop-i-init
loop-i-init c = put-none c.put_line-next.ensures

pub overflow_cast-k : goal.overflow_cast-k
overflow_cast-k c = record { fits = omega (arith, below-most c) }

pub offset_bounds-winds-k : goal.offset_bounds-winds-k
offset_bounds-winds-k c = omega (arith, below-most (goal.at.offset_bounds-winds-k c).In-loop-i)

pub bounds-winds-k : goal.bounds-winds-k
bounds-winds-k c = below (goal.at.bounds-winds-k c).In-loop-i W c.in-W.is

pub offset_bounds-internals-k : goal.offset_bounds-internals-k
offset_bounds-internals-k c = omega (arith, below-most (goal.at.offset_bounds-internals-k c).In-loop-i)

pub bounds-internals-k : goal.bounds-internals-k
bounds-internals-k c = below (goal.at.bounds-internals-k c).In-loop-i I c.in-I.is

pub offset_bounds-profile-k : goal.offset_bounds-profile-k
offset_bounds-profile-k c = omega (arith, below-most (goal.at.offset_bounds-profile-k c).In-loop-i)

pub bounds-profile-k : goal.bounds-profile-k
bounds-profile-k c = below (goal.at.bounds-profile-k c).In-loop-i P c.in-P.is

pub offset_bounds-faces-k : goal.offset_bounds-faces-k
offset_bounds-faces-k c = omega (arith, below-most (goal.at.offset_bounds-faces-k c).In-loop-i)

pub bounds-faces-k : goal.bounds-faces-k
bounds-faces-k c = below-most (goal.at.bounds-faces-k c).In-loop-i

pub loop-i-preserved : goal.loop-i-preserved
loop-i-preserved c =
    let at_sec = (goal.at.loop-i-preserved c).Joined-sec in
    let at_loop_i = (goal.at.loop-i-preserved c).In-loop-i in
    put-entry (entries_of (carried (job at_sec)) (section at_sec)) (i at_loop_i) c.match-sec.x (within at_loop_i)
    (entry-held (job at_sec) (section at_sec) (i at_loop_i) c.match-sec.x (within at_loop_i) (made at_sec))
    c.loop-i.invariant c.put_line-next-in-loop-i.ensures

pub shape_of-buf : goal.shape_of-buf
shape_of-buf c =
    put-length c.loop-i.invariant ∙ put-length c.put_line-next.ensures

pub returns : goal.returns
returns c =
    let es = entries_of (carried c.args.j) c.args.sec in
    put_all c.args.sec es c.loop-i.i c.count_line.result
    (omega (arith, c.loop-i-test.false, c.entry_count-n.ensures))
    (c.count_line.ensures ∙ ap (λ (k' : ℕ). held_line 0 (count_line c.args.sec k')) c.entry_count-n.ensures)
    c.put_line-next.ensures c.loop-i.invariant
