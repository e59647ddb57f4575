-- `judge_section` meets its contract: its count is in order, and so are the first i of its entries.
-- the job as the loop has it, in parts
use Prim.Native.Nat.{ℕ, ◌<◌}
use mathlib.Core.Path.{◌≡◌, refl, sym, ◌∙◌, ap, subst}
use mathlib.Core.List.{List, []}
use native.Mathlib.Omega.{arith}
use lib.IntN.{ℤ}
use lib.ListN.{length, get_or, take}
use mir.Facts.{to_z-of_z}
use mir.Syntax.{w64}
use Rattle.whole.proofs.Size.{said, returned}
use Rattle.verdict.specs.declared.Verdict.{Verdict}
use Rattle.field.specs.declared.Field.{Field}
use Rattle.rules.specs.declared.Before.{Before}
use Rattle.rules.specs.declared.Section.{Section}
use Rattle.rules.specs.declared.Section.TheVariants.{«V», B, W, I, P, F}
use Rattle.rules.specs.declared.Kind.TheVariants.{Count, Entry}
use Rattle.job.specs.declared.Job.{Job}
use Rattle.job.specs.Carried.{Carried, before, carried, most_faces}
use Rattle.job.specs.Judging.{EntriesAs, JudgesAs}
use Rattle.rules.specs.Sections.{about, line_fault}
use Rattle.entry_written.specs.Fields.{year_fields, internal_fields}
use Rattle.job.specs.Lines.{entries_of}
use Rattle.job.proofs.Walk.{learn_all, EntriesInOrder}
use Rattle.job.proofs.Sections.{Counted, count_line, count-counted}
use Rattle.job.proofs.Alone.{entry-is, entry-judged, step-judged, alone, alone-count}
use Rattle.job.proofs.Alone.{alone-counted, alone-entry, alone-next, alone-passed}
use Rattle.job.proofs.Room.{most-roomed}
use borrow.Author.Rules.{rules, sfits_of}
use Rattle.job.proofs.judge.judge_section.Invariants.{job_of}
use Rattle.job.proofs.judge.judge_section.Goals.{After-count_fault-number, After-faces-1, In-loop-i, Joined-s, Start}
use Rattle.job.proofs.judge.judge_section.Goals.{in-V, in-B, in-W, in-I, in-P, in-F}
use Rattle.job.proofs.judge.judge_section.Goals as goal

module _ (c : After-count_fault-number) where
  abbrev start : Start
  start = (goal.at.After-count_fault-number c).Start

  abbrev section : Section
  section = start.args.s

  abbrev job : Job
  job =
      let j = start.args.j in
      job_of start.args.b j.winds j.internals j.profile j.faces

  same : job ≡ start.args.j
  same =
      let j = start.args.j in
      λ i. record {
        year = start.requires.0 i;
        building = start.requires.1 i;
        winds = j.winds;
        internals = j.internals;
        profile = j.profile;
        faces = j.faces;
      }

  abbrev lines : List (List Field)
  lines = entries_of (carried job) section

  many : c.entry_count-n.result ≡ length lines
  many = c.entry_count-n.ensures ∙ ap (λ (k : Job). length (entries_of (carried k) section)) (sym same)

  own-count : c.count_fault-number.result ≡ line_fault (Count section) start.args.b (count_line section (length lines))
  own-count =
      c.count_fault-number.ensures
      ∙ ap (λ (n : ℕ). line_fault (Count section) start.args.b (count_line section n)) many

  count-judged : (d : Carried) → JudgesAs section start.args.b d
      → c.count_fault-number.result ≡ line_fault (Count section) (before d) (count_line section (length lines))
  count-judged d u = own-count ∙ sym (u.count (count_line section (length lines)))

  -- what is found of the job in parts is found of the job
  whole : {v : Verdict} (d : Carried) → v ≡ alone section d start.args.line lines
      → v ≡ alone section d start.args.line (entries_of (carried start.args.j) section)
  whole {v} d e =
      subst (λ (k : Job). v ≡ alone section d start.args.line (entries_of (carried k) section)) same e

module _ (c : After-faces-1) where
  abbrev passed : After-count_fault-number
  passed = (goal.at.After-faces-1 c).After-count_fault-number

  own-counted : Counted passed.args.b.year (section passed) (length (lines passed))
  own-counted =
      count-counted (section passed) passed.args.b (length (lines passed))
      (sym (own-count passed) ∙ c.if-number-ne0.false)

  counted : (d : Carried) → JudgesAs (section passed) passed.args.b d
      → Counted d.year (section passed) (length (lines passed))
  counted d u =
      alone-counted (section passed) d 0 (lines passed) _ (count-judged passed d u)
      c.if-number-ne0.false

-- the machine's count and index are within the room of the section
module _ (c : In-loop-i) where
  abbrev here : After-count_fault-number
  here = (goal.at.In-loop-i c).After-count_fault-number

  within : c.loop-i.i < length (lines here)
  within = omega (arith, many here)

  room : (t : Section) → section here ≡ t → c.loop-i.i < (about t).most here.args.b.year
  room t e =
      let h = ap (λ (u : Section). (about u).most here.args.b.year) e in
      omega (arith, within, (own-counted (goal.at.In-loop-i c).After-faces-1).high)

  small : c.loop-i.i < most_faces
  small = omega (arith, room (section here) refl, most-roomed here.args.b.year (section here))

-- the fault of entry i, where d is what is read before the section
module _ (c : Joined-s) (d : Carried) where
  abbrev turn : After-count_fault-number
  turn = (goal.at.Joined-s c).After-count_fault-number

  abbrev i : ℕ
  i = c.loop-i.i

  abbrev b : Before
  b = turn.args.b

  -- as a line of section t
  abbrev Found : Section → Type 0
  Found t =
      c.match-s.number ≡ line_fault (Entry t) (before (learn_all t (take i (entries_of (carried (job turn)) t)) d))
      (get_or (entries_of (carried (job turn)) t) i [])

  module _ (u : JudgesAs (section turn) b d) where
    -- what holds of this section
    holds : (t : Section) → section turn ≡ t
        → EntriesAs t b d × (i < length (entries_of (carried (job turn)) t))
        × EntriesInOrder t d (take i (entries_of (carried (job turn)) t))
    holds t e =
        subst
        (λ (s : Section). EntriesAs s b d × (i < length (entries_of (carried (job turn)) s))
        × EntriesInOrder s d (take i (entries_of (carried (job turn)) s)))
        e (u.entries, within (goal.at.Joined-s c).In-loop-i, c.loop-i.invariant d u)

    found_as : (t : Section) → section turn ≡ t → Found t → Found (section turn)
    found_as t e f = subst Found (sym e) f

    fault : Found (section turn)
    fault =
        elim c.match-s.branch [
          | in-V w ↦
              let a = holds «V» w.in-V.is in
              found_as «V» w.in-V.is
              (w.number-is
              ∙ said (λ (z : ℤ). line_fault (Entry «V») b (year_fields z)) b.year (w.year_fault-number.ensures b)
              w.struct_told-1.given.0.1
              ∙ entry-judged (job turn) d i «V» b tt a.0 a.1)
          | in-B w ↦
              let a = holds B w.in-B.is in
              found_as B w.in-B.is
              (w.number-is ∙ w.building_fault-number.ensures ∙ entry-judged (job turn) d i B b tt a.0 a.1)
          | in-W w ↦
              let a = holds W w.in-W.is in
              found_as W w.in-W.is
              (w.number-is ∙ w.wind_fault-number.ensures ∙ entry-judged (job turn) d i W b tt a.0 a.1)
          | in-I w ↦
              let a = holds I w.in-I.is in
              found_as I w.in-I.is
              (w.number-is
              ∙ w.internal_fault-number.ensures b
              ∙ ap (λ (z : ℤ). line_fault (Entry I) b (internal_fields z)) (to_z-of_z {w = w64} (sfits_of w.c-1.given))
              ∙ entry-judged (job turn) d i I b tt a.0 a.1)
          | in-P w ↦
              let a = holds P w.in-P.is in
              found_as P w.in-P.is
              (w.number-is
              ∙ w.step_fault-number.ensures (before (learn_all P (take i (entries_of (carried (job turn)) P)) d))
              ((returned w64 _ w.highest_of.type_inv).same ∙ w.highest_of.ensures
              ∙ step-judged (job turn) d i a.0 a.1 a.2)
              ∙ ap (line_fault (Entry P) (before (learn_all P (take i (entries_of (carried (job turn)) P)) d)))
              (sym (entry-is (job turn) P i a.1)))
          | in-F w ↦
              let a = holds F w.in-F.is in
              found_as F w.in-F.is
              (w.number-is ∙ w.face_fault-number.ensures ∙ entry-judged (job turn) d i F b tt a.0 a.1)
        ]

pub returns-then-number-ne0 : goal.returns-then-number-ne0
returns-then-number-ne0 c d u =
    let at_count_fault_number = (goal.at.returns-then-number-ne0 c).After-count_fault-number in
    whole at_count_fault_number d (alone-count (section at_count_fault_number) d _ (lines at_count_fault_number) _
    (count-judged at_count_fault_number d u) c.if-number-ne0.true)

pub loop-i-init : goal.loop-i-init
loop-i-init c d u = tt

pub offset_bounds-winds-k : goal.offset_bounds-winds-k
offset_bounds-winds-k c = omega (arith, room (goal.at.offset_bounds-winds-k c).In-loop-i W c.in-W.is)

pub bounds-winds-k : goal.bounds-winds-k
bounds-winds-k c = room (goal.at.bounds-winds-k c).In-loop-i W c.in-W.is

pub offset_bounds-internals-k : goal.offset_bounds-internals-k
offset_bounds-internals-k c = omega (arith, room (goal.at.offset_bounds-internals-k c).In-loop-i I c.in-I.is)

pub bounds-internals-k : goal.bounds-internals-k
bounds-internals-k c = room (goal.at.bounds-internals-k c).In-loop-i I c.in-I.is

pub offset_bounds-profile-k : goal.offset_bounds-profile-k
offset_bounds-profile-k c = omega (arith, room (goal.at.offset_bounds-profile-k c).In-loop-i P c.in-P.is)

pub bounds-profile-k : goal.bounds-profile-k
bounds-profile-k c = room (goal.at.bounds-profile-k c).In-loop-i P c.in-P.is

pub highest_of-requires : goal.highest_of-requires
highest_of-requires c = omega (arith, room (goal.at.highest_of-requires c).In-loop-i P c.in-P.is)

pub offset_bounds-faces-k : goal.offset_bounds-faces-k
offset_bounds-faces-k c = omega (arith, small (goal.at.offset_bounds-faces-k c).In-loop-i)

pub bounds-faces-k : goal.bounds-faces-k
bounds-faces-k c = small (goal.at.bounds-faces-k c).In-loop-i

pub overflow_add-result-then-number-ne0-2 : goal.overflow_add-result-then-number-ne0-2
overflow_add-result-then-number-ne0-2 c = omega (
  arith,
  small
      (goal.at.overflow_add-result-then-number-ne0-2 c).In-loop-i,
)

pub returns : goal.returns
returns c d u =
    let at_faces_1 = (goal.at.returns c).After-faces-1 in
    let at_count_fault_number = (goal.at.returns c).After-count_fault-number in
    whole at_count_fault_number d
    (alone-passed (section at_count_fault_number) d _ (lines at_count_fault_number)
    (counted at_faces_1 d u) c.loop-i.i (omega (arith, many at_count_fault_number))
    (c.loop-i.invariant d u))

pub returns-then-number-ne0-2 : goal.returns-then-number-ne0-2
returns-then-number-ne0-2 c d u =
    let at_s = (goal.at.returns-then-number-ne0-2 c).Joined-s in
    let at_loop_i = (goal.at.returns-then-number-ne0-2 c).In-loop-i in
    let at_faces_1 = (goal.at.returns-then-number-ne0-2 c).After-faces-1 in
    let k = turn at_s d in
    whole k d (alone-entry (section k) d _ (lines k) (counted at_faces_1 d u) (i at_s d) _ (within at_loop_i)
    (c.loop-i.invariant d u) (fault at_s d u) c.if-number-ne0-2.true)

pub loop-i-preserved : goal.loop-i-preserved
loop-i-preserved c d u =
    let at_s = (goal.at.loop-i-preserved c).Joined-s in
    let at_loop_i = (goal.at.loop-i-preserved c).In-loop-i in
    let at_faces_1 = (goal.at.loop-i-preserved c).After-faces-1 in
    let k = turn at_s d in
    alone-next (section k) d 0 (lines k) (counted at_faces_1 d u) (i at_s d) _ (within at_loop_i)
    (c.loop-i.invariant d u) (fault at_s d u) c.if-number-ne0-2.false
