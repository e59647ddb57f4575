-- `read_into` meets its contract: line by line, what comes of the rest is what comes of the whole text.
use Prim.Native.Nat.{ℕ, suc, ◌+◌, ◌*◌, ◌<◌, ◌-◌}
use mathlib.Core.Path.{◌≡◌, refl, ap, ◌∙◌, sym}
use mathlib.Core.Bool.{Bool}
use mathlib.Core.List.{List, []}
use native.Mathlib.Omega.{arith}
use lib.IntN.{ℤ, pos, neg_ℤ}
use lib.ListN.{length, get_or, replicate}
use lib.Seq.{sets, length-sets}
use Rattle.whole.specs.Lists.{first_of}
use Rattle.whole.proofs.Lists.{first_of-length}
use Rattle.std.specs.Prelude.{Ok}
use Rattle.verdict.specs.Verdict.{refusal}
use Rattle.field.specs.declared.Field.{Field}
use Rattle.lines.specs.declared.Line.{Line}
use Rattle.lines.specs.Held.{held, line_at}
use Rattle.rules.specs.declared.Section.{Section}
use Rattle.rules.specs.declared.Section.TheVariants.{B}
use Rattle.rules.specs.declared.Kind.TheVariants.{Count, Entry}
use Rattle.rules.specs.Sections.{sections, section_at, line_fault}
use Rattle.building.specs.Year.{has_heights}
use Rattle.entry.specs.Flat.{flat_faces, per_face}
use Rattle.entry.specs.Says.{size, at, year_of, building_of, wind_of, internal_of, step_of}
use Rattle.job.specs.Carried.{recorded}
use Rattle.job.specs.Walk.{Refused}
use Rattle.job.proofs.Alone.{few-sections}
use Rattle.sheet.specs.declared.plainly.Numbers.{Numbers}
use Rattle.sheet.specs.declared.said.Counted.{Counted}
use Rattle.sheet.specs.Said.{says_of, building_in, wind_in, step_in, entry_said, count_said}
use Rattle.sheet.specs.Sheet.{reading}
use Rattle.sheet.proofs.Plain.{read_back}
use Rattle.sheet.proofs.Unless.{is-sound, is-faulty}
use Rattle.sheet.proofs.OneMore.{Kept}
use Rattle.sheet.proofs.FaceLines.{faces-so-far}
use Rattle.sheet.proofs.SoFar.{ReadSoFar, EntryLine, read-start, count-stops, count-read, entry-stops}
use Rattle.sheet.proofs.SoFar.{entry_read, end-extra, end-accepted, told-as}
use mir.ValLaws.{to_z-of_z}
use mir.Syntax.{w64}
use mir.Val.{to_z, of_z}
use borrow.Author.Rules.{rules, sfits_of}
use Rattle.sheet.proofs.read.read_into.Invariants.{kept_in}
use Rattle.sheet.proofs.read.read_into.Goals.{After-clear, After-opens_tall-heights, After-is_ended-ended, At-loop-i}
use Rattle.sheet.proofs.read.read_into.Goals.{After-section_at-sec, After-count_said, After-refused, In-Ok}
use Rattle.sheet.proofs.read.read_into.Goals.{After-faces_from-plain, At-loop-left, After-entry_said}
use Rattle.sheet.proofs.read.read_into.Goals.{After-refused-in-Err-entry_said, In-Ok-entry_said, After-loop-i}
use Rattle.sheet.proofs.read.read_into.Goals.{After-refused-then-next-s}
use Rattle.sheet.proofs.read.read_into.Goals as goal

-- the list as it was lent, and cleared
abbrev lent : After-clear → List ℤ
lent c = c.args.flat.now

as_long : (c : After-clear) → length c.clear.new.flat ≡ length (lent c)
as_long c = ap length c.clear.ensures ∙ first_of-length (pos 0) (length (lent c)) []

-- section i
module _ (c : After-section_at-sec) where
  abbrev outer : At-loop-i
  outer = (goal.at.After-section_at-sec c).At-loop-i

  abbrev ending : After-is_ended-ended
  ending = (goal.at.At-loop-i outer).After-is_ended-ended

  abbrev begun : After-opens_tall-heights
  begun = (goal.at.After-is_ended-ended ending).After-opens_tall-heights

  abbrev cleared : After-clear
  cleared = (goal.at.After-opens_tall-heights begun).After-clear

  abbrev heights : Bool
  heights = begun.opens_tall-heights.result

  abbrev text : List ℕ
  text = cleared.args.s.now

  few : outer.loop-i.i < length (sections heights)
  few = omega (arith, outer.section_count-i-end.ensures, c.loop-i-test.true)

  -- no line so far down
  low : outer.loop-i.i < 6
  low = omega (arith, few, few-sections heights)

  long : length outer.loop-i.flat ≡ length (lent cleared)
  long = outer.loop-i.invariant.1 ∙ as_long cleared

  -- the line that begins at a place
  abbrev line-from : ℕ → Line
  line-from next = line_at text next

-- the count of the section
module _ (c : After-count_said) where
  abbrev at-section : After-section_at-sec
  at-section = (goal.at.After-count_said c).After-section_at-sec

  abbrev counted : Line
  counted = line-from at-section c.loop-i.next

  count-is : c.count_said.result
      ≡ count_said (section_at (heights at-section) c.loop-i.i) c.loop-i.b counted
  count-is =
      c.count_said.ensures
      ∙ ap (λ (t : Section). count_said t c.loop-i.b counted) c.section_at-sec.ensures

module _ (c : After-refused) where
  abbrev count : After-count_said
  count = (goal.at.After-refused c).After-count_said

  count-refused : reading (text (at-section count))
      ≡ Refused (refusal c.in-Err.number count.loop-i.line)
  count-refused =
      let f = is-faulty _ _ (sym c.in-Err.is ∙ count-is count) in
      count-stops count.loop-i.invariant.2.1 (few (at-section count)) {x = counted count} refl f.0 f.1

-- the entries are still to be read
module _ (c : In-Ok) where
  abbrev number : After-count_said
  number = (goal.at.In-Ok c).After-count_said

  abbrev before-it : At-loop-i
  before-it = (goal.at.After-count_said number).At-loop-i

  abbrev kept-yet : Kept
  kept-yet =
      let t = before-it.loop-i in
      kept_in t.b t.winds t.internals t.profile t.faces t.flat

  abbrev called : ℕ
  called = c.in-Ok.x.count

  in_order : (line_fault (Count (section_at (heights (at-section number)) before-it.loop-i.i)) before-it.loop-i.b
      (held (counted number))
      ≡ 0)
      × (c.in-Ok.x
      ≡ record { next = (counted number).next; count = size (at (held (counted number)) 1) })
  in_order = is-sound _ _ (sym c.in-Ok.is ∙ count-is number)

  counted-so-far : ReadSoFar (length before-it.loop-i.flat) (text (at-section number))
      (heights (at-section number)) (section_at (heights (at-section number)) before-it.loop-i.i) called
      (suc before-it.loop-i.i) before-it.loop-i.b kept-yet (before-it.loop-i.line + 1) c.in-Ok.x.next
  counted-so-far =
      count-read before-it.loop-i.invariant.2.1 (few (at-section number)) {x = counted number} refl
      (sym in_order.0) refl (ap (λ (r : Counted). r.count) in_order.1) (ap (λ (r : Counted). r.next) in_order.1)

-- the plain faces, if it is their section
module _ (c : After-faces_from-plain) where
  abbrev unread : In-Ok
  unread = (goal.at.After-faces_from-plain c).In-Ok

  abbrev its : At-loop-i
  its = (goal.at.In-Ok unread).At-loop-i

  abbrev within : After-section_at-sec
  within = (goal.at.In-Ok unread).After-section_at-sec

  abbrev passed : ℕ
  passed = c.faces_from-plain.result.done

  abbrev list-then : List ℤ
  list-then = c.faces_from-plain.new.flat

  faces-put : ReadSoFar (length its.loop-i.flat) (text within) (heights within)
      (section_at (heights within) its.loop-i.i) (called unread - passed) (suc its.loop-i.i) its.loop-i.b
      (kept_in its.loop-i.b its.loop-i.winds its.loop-i.internals its.loop-i.profile
      (its.loop-i.faces + passed) list-then)
      (its.loop-i.line + 1 + passed) c.faces_from-plain.result.next
  faces-put =
      let e = c.faces_from-plain.ensures in
      faces-so-far (length its.loop-i.flat) (text within) (heights within) its.loop-i.i its.loop-i.b
      its.loop-i.winds its.loop-i.internals its.loop-i.profile passed (called unread) its.loop-i.faces
      its.loop-i.flat (its.loop-i.line + 1) unread.in-Ok.x.next
      c.faces_from-plain.result.next list-then (counted-so-far unread)
      (λ h. sym unread.section_at-sec.ensures ∙ e.1 h) e.0 e.2

  same-room : length list-then ≡ length its.loop-i.flat
  same-room =
      ap (λ (k : Kept). length k.list) faces-put.keeps ∙ first_of-length (pos 0) (length its.loop-i.flat) _

-- a line behind the count
module _ (c : After-entry_said) where
  abbrev turn : At-loop-left
  turn = (goal.at.After-entry_said c).At-loop-left

  abbrev section : After-section_at-sec
  section = (goal.at.At-loop-left turn).After-section_at-sec

  abbrev kept : Kept
  kept =
      let t = turn.loop-left in
      kept_in t.b t.winds t.internals t.profile t.faces t.flat

  abbrev read : Line
  read = line-from section turn.loop-left.next

  entry-is : c.entry_said.result
      ≡ entry_said (section_at (heights section) section.loop-i.i) turn.loop-left.b read
  entry-is =
      c.entry_said.ensures
      ∙ ap (λ (t : Section). entry_said t turn.loop-left.b read) section.section_at-sec.ensures

module _ (c : After-refused-in-Err-entry_said) where
  abbrev judged : After-entry_said
  judged = (goal.at.After-refused-in-Err-entry_said c).After-entry_said

  entry-refused : reading (text (section judged))
      ≡ Refused (refusal c.in-Err-entry_said.number judged.loop-left.line)
  entry-refused =
      let f = is-faulty _ _ (sym c.in-Err-entry_said.is ∙ entry-is judged) in
      entry-stops judged.loop-left.invariant.1 judged.loop-left-test.true {x = read judged} refl f.0 f.1

  long-here : length judged.loop-left.flat ≡ length (lent (goal.at.After-entry_said judged).After-clear)
  long-here =
      judged.loop-left.invariant.0
      ∙ same-room (goal.at.After-entry_said judged).After-faces_from-plain
      ∙ long (section judged)

-- an entry in order
module _ (c : In-Ok-entry_said) where
  abbrev here : After-section_at-sec
  here = (goal.at.In-Ok-entry_said c).After-section_at-sec

  abbrev now : At-loop-left
  now = (goal.at.In-Ok-entry_said c).At-loop-left

  abbrev said : After-entry_said
  said = (goal.at.In-Ok-entry_said c).After-entry_said

  abbrev fields : List Field
  fields = held (read said)

  right : (line_fault (Entry (section_at (heights here) here.loop-i.i)) now.loop-left.b fields ≡ 0)
      × (c.in-Ok-entry_said.x
      ≡ record {
        next = (read said).next;
        number = says_of (section_at (heights here) here.loop-i.i) (has_heights now.loop-left.b.year) fields;
      })
  right = is-sound _ _ (sym c.in-Ok-entry_said.is ∙ entry-is said)

  entry : EntryLine (length now.loop-left.flat) (text here) (heights here) now.loop-left.left
      here.loop-i.i now.loop-left.b (kept said) now.loop-left.line now.loop-left.next (read said)
  entry =
      record {
        so-far = now.loop-left.invariant.1;
        more = c.loop-left-test.true;
        is = refl;
        in_order = sym right.0;
      }

  -- of section t
  of : {t : Section} → here.section_at-sec.result ≡ t → section_at (heights here) here.loop-i.i ≡ t
  of e = sym here.section_at-sec.ensures ∙ e

  next-is : c.in-Ok-entry_said.x.next ≡ (read said).next
  next-is = ap (λ (r : Numbers). r.next) right.1

  -- its numbers
  numbers : {t : Section} → here.section_at-sec.result ≡ t
      → c.in-Ok-entry_said.x.number ≡ says_of t (has_heights now.loop-left.b.year) fields
  numbers e =
      ap (λ (r : Numbers). r.number) right.1
      ∙ ap (λ (t : Section). says_of t (has_heights now.loop-left.b.year) fields) (of e)

-- behind the last section
module _ (c : After-loop-i) where
  abbrev opened : After-opens_tall-heights
  opened = (goal.at.After-loop-i c).After-opens_tall-heights

  all : c.loop-i.i ≡ length (sections opened.opens_tall-heights.result)
  all = omega (arith, c.section_count-i-end.ensures, c.loop-i.invariant.0, c.loop-i-test.false)

  abbrev lent-text : List ℕ
  lent-text = opened.args.s.now

  long-still : length c.loop-i.flat ≡ length (lent (goal.at.After-opens_tall-heights opened).After-clear)
  long-still = c.loop-i.invariant.1 ∙ as_long (goal.at.After-opens_tall-heights opened).After-clear

module _ (c : After-refused-then-next-s) where
  abbrev ended : After-loop-i
  ended = (goal.at.After-refused-then-next-s c).After-loop-i

  more-refused : reading (lent-text ended) ≡ Refused (refusal 1 ended.loop-i.line)
  more-refused = end-extra ended.loop-i.invariant.2.1 (all ended) c.if-next-s.true

pub loop-i-init : goal.loop-i-init
unfolding recorded first_of flat_faces
loop-i-init c =
    let at_clear = (goal.at.loop-i-init c).After-clear in
    let e = c.no_building-building.ensures in
    let wind = c.no_wind.ensures in
    let step = c.no_step.ensures in
    let list =
    c.clear.ensures ∙ ap (λ (k : ℕ). first_of (pos 0) k []) (sym (as_long at_clear)) in (
      omega arith,
      refl,
      (
        B,
        read-start (length c.clear.new.flat) c.args.s.now c.opens_tall-heights.result
            c.opens_tall-heights.ensures
            (λ i. record { year = pos 1; building = e i; lowest = pos 0; highest = neg_ℤ (pos 1) })
            (λ i. record {
              setting =
                  record {
                    year = pos 1;
                    building = e i;
                    winds = record { count = 0; entry = replicate 8 (wind i) };
                    internals = record { count = 0; entry = replicate 4 (pos 0) };
                    profile = record { count = 0; entry = replicate 16 (step i) };
                  };
              faces = 0;
              list = list i;
            }),
      ),
    )

pub returns-in-Err : goal.returns-in-Err
returns-in-Err c =
    let in_section = (goal.at.returns-in-Err c).After-section_at-sec in
    let at_refused = (goal.at.returns-in-Err c).After-refused in
    told-as (count-refused at_refused) (long in_section) c.refused.ensures.1 c.refused.ensures.0

pub overflow_add-line-in-loop-i : goal.overflow_add-line-in-loop-i
overflow_add-line-in-loop-i c =
    let unread_yet = (goal.at.overflow_add-line-in-loop-i c).In-Ok in
    let in_section = (goal.at.overflow_add-line-in-loop-i c).After-section_at-sec in
    omega (arith, low in_section, (counted-so-far unread_yet).lines, c.faces_from-plain.ensures.0)

pub loop-left-init : goal.loop-left-init
loop-left-init c =
    let plain = (goal.at.loop-left-init c).After-faces_from-plain in
    (refl, rw (same-room plain) (faces-put plain))

pub returns-in-Err-entry_said : goal.returns-in-Err-entry_said
returns-in-Err-entry_said c =
    let at_refused = (goal.at.returns-in-Err-entry_said c).After-refused-in-Err-entry_said in
    told-as (entry-refused at_refused) (long-here at_refused) c.refused-in-Err-entry_said.ensures.1
    c.refused-in-Err-entry_said.ensures.0

pub loop-left-preserved-in-V : goal.loop-left-preserved-in-V
loop-left-preserved-in-V c =
    let line_read = (goal.at.loop-left-preserved-in-V c).In-Ok-entry_said in
    let told = c.in-V.is in
    let v = c.in-Ok-entry_said.x.number in
    let year : to_z w64 (of_z w64 (get_or v 0 (pos 0))) ≡ year_of (fields line_read) =
    read_back v 0 (search rules) ∙ ap (λ (l : List ℤ). get_or l 0 (pos 0)) (numbers line_read told) in (
      c.loop-left.invariant.0,
      rw year (entry_read (entry line_read) (of line_read told) refl (next-is line_read)),
    )

pub loop-left-preserved-in-B : goal.loop-left-preserved-in-B
loop-left-preserved-in-B c =
    let line_read = (goal.at.loop-left-preserved-in-B c).In-Ok-entry_said in
    let told = c.in-B.is in
    let building : c.building_in-b.result ≡ building_of (fields line_read) =
    c.building_in-b.ensures ∙ ap building_in (numbers line_read told) in (
      c.loop-left.invariant.0,
      rw building (entry_read (entry line_read) (of line_read told) refl (next-is line_read)),
    )

pub loop-left-preserved-in-W : goal.loop-left-preserved-in-W
loop-left-preserved-in-W c =
    let line_read = (goal.at.loop-left-preserved-in-W c).In-Ok-entry_said in
    let told = c.in-W.is in
    let wind : c.wind_in.result ≡ wind_of (fields line_read) =
    c.wind_in.ensures ∙ ap wind_in (numbers line_read told) in (
      c.loop-left.invariant.0,
      rw wind (entry_read (entry line_read) (of line_read told) refl (next-is line_read)),
    )

pub loop-left-preserved-in-I : goal.loop-left-preserved-in-I
loop-left-preserved-in-I c =
    let line_read = (goal.at.loop-left-preserved-in-I c).In-Ok-entry_said in
    let told = c.in-I.is in
    let v = c.in-Ok-entry_said.x.number in
    let internal : to_z w64 (of_z w64 (get_or v 0 (pos 0))) ≡ internal_of (fields line_read) =
    read_back v 0 (search rules) ∙ ap (λ (l : List ℤ). get_or l 0 (pos 0)) (numbers line_read told) in (
      c.loop-left.invariant.0,
      rw internal (entry_read (entry line_read) (of line_read told) refl (next-is line_read)),
    )

pub loop-left-preserved-in-P : goal.loop-left-preserved-in-P
loop-left-preserved-in-P c =
    let line_read = (goal.at.loop-left-preserved-in-P c).In-Ok-entry_said in
    let told = c.in-P.is in
    let step : c.step_in-t.result ≡ step_of (fields line_read) =
    c.step_in-t.ensures ∙ ap step_in (numbers line_read told) in (
      c.loop-left.invariant.0,
      rw (
        to_z-of_z w64 _ (sfits_of c.struct_told-1.given.0.1),
        to_z-of_z w64 _ (sfits_of c.struct_told-in-P-1.given.0.1),
        step,
      )
          (entry_read (entry line_read) (of line_read told) refl (next-is line_read)),
    )

pub loop-left-preserved : goal.loop-left-preserved
loop-left-preserved c =
    let line_read = (goal.at.loop-left-preserved c).In-Ok-entry_said in
    let told = c.in-F.is in
    let list =
    c.put_numbers.ensures ∙ ap (sets c.loop-left.flat (per_face * c.loop-left.faces)) (numbers line_read told) in
    let r = entry_read (entry line_read) (of line_read told) refl (next-is line_read) in
    rw list (simp length-sets c.loop-left.invariant.0, simp length-sets r)

pub returns-then-next-s : goal.returns-then-next-s
returns-then-next-s c =
    let at_refused = (goal.at.returns-then-next-s c).After-refused-then-next-s in
    let at_loop_i = (goal.at.returns-then-next-s c).After-loop-i in
    told-as (more-refused at_refused) (long-still at_loop_i) c.refused-then-next-s.ensures.1
    c.refused-then-next-s.ensures.0

pub returns : goal.returns
returns c =
    let at_loop_i = (goal.at.returns c).After-loop-i in
    let r = c.loop-i.invariant.2.1 in
    let k = r.keeps in
    told-as (end-accepted r (all at_loop_i) c.if-next-s.false) (long-still at_loop_i) (ap (λ (m : Kept). m.list) k)
    (c.accepted.ensures ∙ (λ i. Ok (record { setting = (k i).setting; faces = (k i).faces })))
