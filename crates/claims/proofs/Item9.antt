-- Item 9 of paper 02: newton columns that add up.
use mathlib.Core.Path.{◌≡◌, refl, sym, ap, subst, ◌∙◌}
use mathlib.Core.List.{List}
use Prim.Native.Nat.{min, ◌≤◌, ◌<◌, ◌+◌}
use native.Mathlib.Omega.{arith}
use borrow.Author.Tests.{le-leb, lt-leb}
use lib.IntN.{ℤ, pos}
use lib.ListN.{length}
use Rattle.whole.specs.Newton.{newtons}
use Rattle.verdict.specs.declared.Verdict.{Verdict}
use Rattle.verdict.specs.Verdict.{accepted, refusal, Refuses}
use Rattle.page.specs.Writing.{buffer_after}
use Rattle.field.specs.declared.Field.{Field}
use Rattle.entry.specs.declared.Face.{Face}
use Rattle.job.proofs.Room.{limit-roomed}
use Rattle.job.specs.Carried.{Carried, most_faces}
use Rattle.job.specs.InOrder.{InOrder}
use Rattle.job.specs.Lines.{lines_of}
use Rattle.job.specs.Walk.{Accepted, Refused}
use Rattle.job.proofs.InOrder.{accepted-in-order}
use Rattle.job.proofs.RoundTrip.{judged-carried}
use Rattle.worst.specs.declared.Side.{Side}
use Rattle.worst.specs.declared.Axis.{Axis}
use Rattle.worst.specs.declared.Six.{Six}
use Rattle.worst.specs.Worst.{given, extreme, six_extremes, line_number}
use Rattle.worst.specs.Rows.{Taken}
use Rattle.worst.proofs.Rows.{faces-counted}
use Rattle.answers.specs.declared.Extreme as host
use Rattle.answers.specs.Answers.{host_extreme, host_line, host_total}
use Rattle.sharing.specs.Column.{column, sharing}
use Rattle.sharing.proofs.Entries.{column-length}
use Rattle.sharing.proofs.AddsUp.{adds-up}
use Rattle.sharing.proofs.Near.{near}
use Rattle.sharing.proofs.Fairly.{column-is, column-only}
use Rattle.job.specs.declared.Setting.{Setting}
use Rattle.job.specs.Setting.{record_with}
use Rattle.column.specs.Setting.{carried_with, judged_with}
use Rattle.column.specs.Column.{axis_of, forces_shown, forces_on, column_verdict, column_after}
use Rattle.column.proofs.AtChoice.{choice-length}
use Rattle.column.proofs.OfCase as case
use Rattle.column.specs.Listed.{listed}
use Rattle.column.proofs.Answered.{refused, shared}
use Rattle.column.proofs.ManyFaces.{judged-listed}
use Rattle.column.proofs.ReportLines.{Told, one, none, line-told, axis-told, line-is, one-is}
use Rattle.claims.specs.Contract.{Always}
use Rattle.claims.specs.Fault.{Faulty, at, Faultless, GetsFault}
use Rattle.claims.specs.Column.{Handout}
use Rattle.claims.proofs.Contracts as of
use Rattle.claims.proofs.Fault as fault
use Rattle.claims.proofs.Shown.{extreme-is-shown}

-- ---- the statements

-- "The printed handout lists whole newtons per face for one of the six report lines, named 1 to 6": where the job of
-- the
-- setting and the faces is accepted, and there is room for its column
abbrev pub ListsNewtons : Type 0
ListsNewtons = Always of.aral-column.Post (λ κ a r s. (c : Carried) → judged_with a.0 a.1.0.now ≡ Accepted c
    → (axis : Axis) (side : Side) → a.1.1.0 ≡ pos (line_number axis side)
    → length c.faces ≤ length a.1.1.1.0.now
    → (r ≡ accepted) × Handout c axis side a.1.1.1.0.now s.1.1.1.0.now)

pub record RefusesInOrder : Type 0 where
  -- "Refusals: the job's own as in 01, the number of faces included": those of its sheet with all of these faces
  pub own : GetsFault of.aral-column.Post (λ κ a. lines_of (carried_with a.0 a.1.0.now)) (λ κ a v. v)
  -- "then 3, line 0, for a report line other than 1 to 6"
  pub line : Always of.aral-column.Post (λ κ a r s. Faultless (lines_of (carried_with a.0 a.1.0.now))
      → ((axis : Axis) (side : Side) → a.1.1.0 ≡ pos (line_number axis side) → ⊥) → r ≡ refusal 3 0)
  -- "then 7, line 0, for a column list shorter than the faces"
  pub room : Always of.aral-column.Post (λ κ a r s. Faultless (lines_of (carried_with a.0 a.1.0.now))
      → (axis : Axis) (side : Side) → a.1.1.0 ≡ pos (line_number axis side)
      → length a.1.1.1.0.now < length a.1.0.now → r ≡ refusal 7 0)

-- ---- the proofs

-- a column put into a list that has room for it
module _ (c : Carried) (o : InOrder c) (axis : Axis) (side : Side) where
  abbrev fs : List ℤ
  fs = case.own c o axis side

  long : length fs ≡ length c.faces
  long = choice-length _ c.faces _ (omega (arith, case.all-chosen c o axis side))

  handout : (old new : List ℤ) → length c.faces ≤ length old → new ≡ buffer_after (column fs) old
      → Handout c axis side old new
  unfolding extreme-is-shown
  handout old new room e =
      record {
        line = extreme axis side c;
        shows = extreme-is-shown c axis side o;
        column = column fs;
        shared = column-is fs;
        only = λ other h. column-only fs other h;
        adds = adds-up fs ∙ ap newtons (case.own-total c o axis side);
        near = λ i h. near fs i (omega (arith, long));
        sized = column-length fs ∙ long;
        written = e ∙ rw (le-leb (length (column fs)) (length old) (omega (arith, column-length fs, long)));
      }

module _ (g : Setting) (faces : List Face) (c : Carried) (e : judged_with g faces ≡ Accepted c) where
  o : InOrder c
  unfolding judged_with
  o = accepted-in-order (lines_of (carried_with g faces)) c e

  -- as many faces as were lent
  many : length c.faces ≡ length faces
  unfolding listed
  many =
      let j = record_with g (listed faces) in
      let a = judged-listed g faces ∙ e in
      let is = judged-carried j c a in
      let t : Taken j = record { order = subst InOrder is o; accepted = a ∙ ap Accepted is } in
      let n : length c.faces ≡ min (length faces) (most_faces + 1) =
      ap (λ d. length d.faces) is ∙ faces-counted j t in
      omega (arith, n, o.faces-counted.high, limit-roomed c.year)

  module _ (axis : Axis) (side : Side) (line : ℤ) (is : line ≡ pos (line_number axis side)) where
    shown-is : host_total (judged_with g faces) line ≡ host_extreme c.year (extreme axis side c)
    shown-is =
        ap (λ r. host_total r line) e ∙ ap (host_line c.year (six_extremes c)) is
        ∙ line-is c.year (six_extremes c) axis side ∙ ap (host_extreme c.year) (one-is c axis side)

    forces-are : forces_on line (judged_with g faces) ≡ fs c o axis side
    forces-are =
        ap (forces_on line) e
        ∙ (λ i. forces_shown ((ap axis_of is ∙ axis-told axis side) i) (given c)
        ((ap (λ r. host_total r line) (sym e) ∙ shown-is) i))
        ∙ case.shown-own c o axis side

    shared-out : (old : List ℤ)
        → (sharing (fs c o axis side) old ≡ column_verdict (judged_with g faces) line old)
        × (buffer_after (column (fs c o axis side)) old ≡ column_after (judged_with g faces) line old)
    shared-out old =
        shared (judged_with g faces) line old _ _ (ap (λ x. x.verdict.number) shown-is)
        (ap (λ l. sharing l old) (sym forces-are)) (ap (λ l. buffer_after (column l) old) (sym forces-are))

pub lists-newtons : ListsNewtons
lists-newtons κ a r s p c e axis side is room =
    let old = a.1.1.1.0.now in
    let in_order = o a.0 a.1.0.now c e in
    let q = shared-out a.0 a.1.0.now c e axis side a.1.1.0 is old in (
      p.0 ∙ sym q.0 ∙ rw (le-leb (length (fs c in_order axis side)) (length old)
          (omega (arith, long c in_order axis side))),
      handout c in_order axis side old _ room (p.1 ∙ sym q.1),
    )

-- ---- the refusals

some_number : {xs : List (List Field)} {v : Verdict} → Faulty xs v → Refuses v
some_number (at f) z = omega (arith, f.some, z)

module _ (g : Setting) (faces : List Face) where
  faulty : {v : Verdict} → Faulty (lines_of (carried_with g faces)) v → judged_with g faces ≡ Refused v
  unfolding judged_with
  faulty f = fault.lines-faulty (lines_of (carried_with g faces)) f

  faultless : Faultless (lines_of (carried_with g faces)) → (c : Carried) × (judged_with g faces ≡ Accepted c)
  unfolding judged_with
  faultless f = fault.lines-faultless (lines_of (carried_with g faces)) f

pub no_line : (year : ℤ) (six : Six) (line : ℤ) → ((axis : Axis) (side : Side) → line ≡ pos (line_number axis side) → ⊥)
    → (host_line year six line).verdict ≡ refusal 3 0
no_line year six line n = go (line-told year six line)
  where
    go : {e : host.Extreme} → Told year six line e → e.verdict ≡ refusal 3 0
    go (one axis side is) = absurd (n axis side is)
    go none = refl

pub refuses-in-order : RefusesInOrder
refuses-in-order =
    record {
      own = λ κ a r s p v f.
          let e = faulty a.0 a.1.0.now f in
          p.0 ∙ sym (refused _ a.1.1.0 a.1.1.1.0.now v
          (ap (λ x. (host_total x a.1.1.0).verdict) (sym e)) (some_number f)).0;
      line = λ κ a r s p f n.
          let e = faultless a.0 a.1.0.now f in
          let three =
          ap (λ x. (host_total x a.1.1.0).verdict) e.1
          ∙ no_line e.0.year (six_extremes e.0) a.1.1.0 n in
          p.0 ∙ sym (refused _ a.1.1.0 a.1.1.1.0.now (refusal 3 0) (sym three) (λ z. omega
          (arith, z))).0;
      room = λ κ a r s p f axis side is short.
          let e = faultless a.0 a.1.0.now f in
          let old = a.1.1.1.0.now in
          let in_order = o a.0 a.1.0.now e.0 e.1 in
          p.0 ∙ sym (shared-out a.0 a.1.0.now e.0 e.1 axis side a.1.1.0 is old).0
          ∙ rw (lt-leb (length (fs e.0 in_order axis side)) (length old)
          (omega (arith, long e.0 in_order axis side, many a.0 a.1.0.now e.0 e.1)));
    }
