-- The forces of a report line, face by face: those of the accounts, in the order of the faces.
use mathlib.Core.Path.{◌≡◌, refl, sym, ap, ◌∙◌, subst}
use mathlib.Core.Bool.{Bool, cond}
use mathlib.Core.List.{List, [], ◌∷◌}
use Prim.Native.Nat.{ℕ, zero, suc, ◌+◌, ◌-◌, ◌≤◌, ◌<◌}
use native.Mathlib.Omega.{arith}
use borrow.Author.Tests.{le-leb}
use lib.Dec.{T, eqb}
use lib.IntN.{ℤ, pos}
use lib.Signed.{◌≤ℤ◌, le_z_yes}
use lib.ListN.{length, get_or, replicate, length-append}
use Rattle.verdict.specs.Verdict.{refusal}
use Rattle.building.proofs.Ranges.{is_within}
use Rattle.job.specs.Carried.{Carried, most_faces, no_face}
use Rattle.job.specs.InOrder.{InOrder}
use Rattle.job.specs.Walk.{Accepted}
use Rattle.worst.specs.declared.Side.{Side}
use Rattle.worst.specs.declared.Axis.{Axis}
use Rattle.worst.specs.declared.Extreme as worst
use Rattle.worst.specs.Shown.{padded}
use Rattle.worst.specs.Forces.{force, wind_at, internal_at}
use Rattle.worst.specs.Worst.{given, extreme, six_extremes, line_number}
use Rattle.answers.specs.declared.Extreme.{Extreme}
use Rattle.answers.specs.Answers.{host_extreme, host_line}
use Rattle.sharing.specs.Column.{column}
use Rattle.column.specs.Column.{at_choice, forces_shown}
use Rattle.column.proofs.OfCase as shows
use Rattle.column.proofs.ReportLines.{axis-told, line-is, one-is}
use Rattle.account.specs.Account.{face_account, no_account, account_on, account_of}

pos-≤ : (m n : ℕ) → m ≤ n → pos m ≤ℤ pos n
pos-≤ m n h = le_z_yes (subst T (sym (le-leb m n h)) tt)

choice-at : {F A : Type 0} (force : F → A → ℤ) (df : F) (dk : A) (fs : List F) (ks : List A) (k : ℕ)
    → length fs ≤ length ks → k < length fs
    → get_or (at_choice force fs ks) k (pos 0) ≡ force (get_or fs k df) (get_or ks k dk)
unfolding at_choice
choice-at force df dk [] ks k h l = absurd (omega arith)
choice-at force df dk (f ∷ fs) [] k h l = absurd (omega arith)
choice-at force df dk (f ∷ fs) (a ∷ ks) zero h l = refl
choice-at force df dk (f ∷ fs) (a ∷ ks) (suc k) h l = choice-at force df dk fs ks k (omega arith) (omega arith)

module _ (c : Carried) (o : InOrder c) (axis : Axis) (side : Side) where
  abbrev pub line : ℤ
  line = pos (line_number axis side)

  abbrev pub e : Extreme
  e = host_extreme c.year (extreme axis side c)

  shown-is : host_line c.year (six_extremes c) line ≡ e
  shown-is = line-is c.year (six_extremes c) axis side ∙ ap (host_extreme c.year) (one-is c axis side)

  -- there is an alternative for each face
  enough : length c.faces ≤ length e.alternative
  unfolding padded
  enough =
      let chosen = (shows.case c o axis side).chosen in
      let named = ap (λ (x : worst.Extreme). length x.alternative) (shows.named c o axis side) in
      let all = length-append chosen (replicate (most_faces - length chosen) 0) in
      omega (arith, named, all, shows.all-chosen c o axis side)

  -- a face of the job is accounted for
  pub account-there : (k : ℕ) → k < length c.faces
      → account_of (Accepted c) line (pos (k + 1)) ≡ face_account c line e (k + 1)
  unfolding account_of
  account-there k h =
      let n = length c.faces in
      ap (λ (x : Extreme). cond (eqb x.verdict.number 0) (account_on c line x (pos (k + 1)))
      (no_account x.verdict)) shown-is
      ∙ ap (λ (t : Bool). cond t (no_account (refusal 9 0)) (face_account c line e (k + 1)))
      (is_within (pos 1) (pos n) (pos (k + 1)) (pos-≤ 1 (k + 1) (omega arith)) (pos-≤ (k + 1) n (omega arith)))

  pub own-force : (k : ℕ) → k < length c.faces
      → (face_account c line e (k + 1)).force ≡ get_or (forces_shown axis (given c) e) k (pos 0)
  unfolding face_account
  own-force k h =
      let g = given c in
      let w = wind_at g e.wind in
      let i = internal_at g e.internal in
      let same : k + 1 - 1 ≡ k = omega arith in
      (λ j. force (axis-told axis side j) g w i (get_or g.faces (same j) no_face) (get_or e.alternative (same j) 0))
      ∙ sym (choice-at (force axis g w i) no_face 0 g.faces e.alternative k enough h)

  pub own-newtons : (k : ℕ) → (face_account c line e (k + 1)).newtons
      ≡ get_or (column (forces_shown axis (given c) e)) k (pos 0)
  unfolding face_account
  own-newtons k =
      let same : k + 1 - 1 ≡ k = omega arith in
      λ j. get_or (column (forces_shown (axis-told axis side j) (given c) e)) (same j) (pos 0)
