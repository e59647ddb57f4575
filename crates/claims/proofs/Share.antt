-- What one face adds to the total of a report line, step by step: the forces of all faces add up to that total, and
-- each is net coefficient × pressure number × area.
use mathlib.Core.Path.{◌≡◌, sym, ap, subst, ◌∙◌}
use mathlib.Core.Bool.{Bool, cond}
use mathlib.Core.List.{List}
use Prim.Native.Nat.{ℕ, ◌+◌, ◌≤◌, ◌<◌}
use native.Mathlib.Omega.{arith}
use borrow.Author.Tests.{ne_eqb}
use lib.Dec.{eqb}
use lib.IntN.{ℤ, pos, nat_abs, ◌*ℤ◌}
use lib.ListN.{length, get_or}
use lib.Seq.{ext_get_or}
use Rattle.whole.proofs.Tests.{by-test}
use Rattle.verdict.specs.declared.Verdict.{Verdict}
use Rattle.verdict.specs.Verdict.{refusal}
use Rattle.lines.specs.Lines.{lines_in}
use Rattle.building.specs.Test.{beyond}
use Rattle.building.proofs.Accepted.{within}
use Rattle.job.specs.Carried.{Carried}
use Rattle.job.specs.InOrder.{InOrder}
use Rattle.job.specs.Walk.{Reading, Accepted}
use Rattle.job.proofs.InOrder.{accepted-in-order}
use Rattle.sheet.specs.Sheet.{reading}
use Rattle.worst.specs.declared.Side.{Side}
use Rattle.worst.specs.declared.Axis.{Axis}
use Rattle.worst.specs.declared.Extreme.{Extreme}
use Rattle.worst.specs.Shown.{total_in}
use Rattle.worst.specs.Worst.{given, six_extremes, shown_in, line_number}
use Rattle.answers.specs.declared.Extreme as host
use Rattle.answers.specs.Answers.{host_extreme, host_line}
use Rattle.sharing.specs.Column.{added_up, column}
use Rattle.sharing.specs.Fair.{IsColumn}
use Rattle.sharing.proofs.Entries.{column-length}
use Rattle.sharing.proofs.Fairly.{column-is}
use Rattle.column.specs.Column.{forces_shown}
use Rattle.column.proofs.AtChoice.{choice-length}
use Rattle.column.proofs.OfCase as case
use Rattle.column.proofs.ReportLines.{line-is}
use Rattle.account.specs.declared.Account.{Account}
use Rattle.account.specs.Account.{no_account, face_account, account_on, account_of}
use Rattle.account.proofs.Product.{is-product}
use Rattle.account.proofs.Shown as shown
use Rattle.claims.specs.Contract.{Always, Call}
use Rattle.claims.specs.Fault.{Faultless, GetsFault}
use Rattle.claims.specs.Shown.{Shows}
use Rattle.claims.proofs.Contracts as of
use Rattle.claims.proofs.Fault as fault
use Rattle.claims.proofs.Item9.{no_line}
use Rattle.claims.proofs.Shown.{extreme-is-shown, shows-unique}

-- ---- the statements

-- whatever the call answers
abbrev pub IsProduct : Type 0
IsProduct = Always of.aral-share.Post (λ κ a r s. r.force ≡ r.net *ℤ r.pressure *ℤ r.area)

-- the call for face k, counted from 0, answers this force and these newtons
abbrev pub Shared : List ℕ → ℤ → ℕ → ℤ → ℤ → Type 0
Shared sheet line k force newtons =
    Call of.aral-share.Post {X = List ℕ × ℤ × ℤ} {Y = ℤ × ℤ} (λ κ a. (a.0.now, a.1.0, a.1.1.0))
    (λ κ r. (r.force, r.newtons)) (sheet, line, pos (k + 1)) (force, newtons)

-- where a sheet is accepted, and these are the answers for its faces in order: the forces add up to the total that the
-- line shows, and the newtons are their column
abbrev pub SharesAddUp : Type 0
SharesAddUp = (sheet : List ℕ) (c : Carried) → reading sheet ≡ Accepted c → (axis : Axis) (side : Side)
    → (forces newtons : List ℤ) → length forces ≡ length c.faces → length newtons ≡ length c.faces
    → ((k : ℕ) → k < length c.faces
    → Shared sheet (pos (line_number axis side)) k (get_or forces k (pos 0)) (get_or newtons k (pos 0)))
    → ((e : Extreme) → Shows c axis side e → added_up forces ≡ total_in e) × IsColumn forces newtons

pub record SharesRefused : Type 0 where
  -- the sheet's own
  pub own : GetsFault of.aral-share.Post (λ κ a. lines_in a.0.now) (λ κ a v. no_account v)
  -- then 3, line 0, for a report line other than 1 to 6
  pub line : Always of.aral-share.Post (λ κ a r s. Faultless (lines_in a.0.now)
      → ((axis : Axis) (side : Side) → a.1.0 ≡ pos (line_number axis side) → ⊥) → r ≡ no_account (refusal 3 0))
  -- then 9, line 0, for no such face
  pub face : Always of.aral-share.Post (λ κ a r s. (c : Carried) → reading a.0.now ≡ Accepted c
      → (axis : Axis) (side : Side) → a.1.0 ≡ pos (line_number axis side)
      → ((k : ℕ) → 1 ≤ k → k ≤ length c.faces → a.1.1.0 ≡ pos k → ⊥) → r ≡ no_account (refusal 9 0))

-- ---- the proofs

pub is-a-product : IsProduct
is-a-product κ a r s p =
    subst (λ (x : Account). x.force ≡ x.net *ℤ x.pressure *ℤ x.area) (sym p)
    (is-product (reading a.0.now) a.1.0 a.1.1.0)

-- a call's answer is the account
answer-is : (sheet : List ℕ) (line : ℤ) (k : ℕ) {force newtons : ℤ} → Shared sheet line k force newtons
    → let x = account_of (reading sheet) line (pos (k + 1)) in (x.force ≡ force) × (x.newtons ≡ newtons)
answer-is sheet line k q =
    let given = q.5 in
    let back = q.6 in
    let e = sym (ap (λ (g : List ℕ × ℤ × ℤ). account_of (reading g.0) g.1 g.2) given) ∙ sym q.4 in (
      ap (λ (x : Account). x.force) e ∙ ap (λ (b : ℤ × ℤ). b.0) back,
      ap (λ (x : Account). x.newtons) e ∙ ap (λ (b : ℤ × ℤ). b.1) back,
    )

module _ (sheet : List ℕ) (c : Carried) (e : reading sheet ≡ Accepted c) (axis : Axis) (side : Side) where
  o : InOrder c
  unfolding reading
  o = accepted-in-order (lines_in sheet) c e

  abbrev line : ℤ
  line = pos (line_number axis side)

  abbrev own : List ℤ
  own = forces_shown axis (given c) (shown.e c o axis side)

  own_is : own ≡ case.own c o axis side
  own_is = case.shown-own c o axis side

  long : length own ≡ length c.faces
  long = ap length own_is ∙ choice-length _ c.faces _ (omega (arith, case.all-chosen c o axis side))

  account-is : (k : ℕ) → k < length c.faces
      → account_of (reading sheet) line (pos (k + 1)) ≡ face_account c line (shown.e c o axis side) (k + 1)
  account-is k h =
      ap (λ (r : Reading). account_of r line (pos (k + 1))) e ∙ shown.account-there c o axis side k h

  module _ (forces newtons : List ℤ) (sized : length forces ≡ length c.faces)
      (counted : length newtons ≡ length c.faces)
      (each : (k : ℕ) → k < length c.faces → Shared sheet line k (get_or forces k (pos 0)) (get_or newtons k (pos 0)))
    where
      forces-are : forces ≡ own
      forces-are =
          ext_get_or (pos 0) forces own (sized ∙ sym long)
          (λ k h. let t : k < length c.faces = omega (arith, sized) in
          sym (answer-is sheet line k (each k t)).0 ∙ ap (λ (x : Account). x.force) (account-is k t)
          ∙ shown.own-force c o axis side k t)

      newtons-are : newtons ≡ column own
      newtons-are =
          ext_get_or (pos 0) newtons (column own) (counted ∙ sym (column-length own ∙ long))
          (λ k h. let t : k < length c.faces = omega (arith, counted) in
          sym (answer-is sheet line k (each k t)).1 ∙ ap (λ (x : Account). x.newtons) (account-is k t)
          ∙ shown.own-newtons c o axis side k)

pub shares-add-up : SharesAddUp
shares-add-up sheet c e axis side forces newtons sized counted each =
    let in_order = o sheet c e axis side in
    let fs = forces-are sheet c e axis side forces newtons sized counted each in
    let ns = newtons-are sheet c e axis side forces newtons sized counted each in (
      λ x s. ap added_up (fs ∙ own_is sheet c e axis side) ∙ case.own-total c in_order axis side
          ∙ ap total_in (shows-unique c axis side (extreme-is-shown c axis side in_order) s),
      subst (λ (p : List ℤ × List ℤ). IsColumn p.0 p.1) (λ i. (sym fs i, sym ns i))
          (column-is (own sheet c e axis side)),
    )

-- ---- the refusals

module _ (c : Carried) (line face : ℤ) where
  abbrev e : host.Extreme
  e = host_line c.year (six_extremes c) line

  no-such-line : ((axis : Axis) (side : Side) → line ≡ pos (line_number axis side) → ⊥)
      → account_of (Accepted c) line face ≡ no_account (refusal 3 0)
  unfolding account_of
  no-such-line n =
      let three = no_line c.year (six_extremes c) line n in
      let some = ne_eqb e.verdict.number 0 (λ z. omega (arith, z, ap (λ (v : Verdict). v.number) three)) in
      ap (λ (t : Bool). cond t (account_on c line e face) (no_account e.verdict)) some ∙ ap no_account three

  no-such-face : (axis : Axis) (side : Side) → line ≡ pos (line_number axis side)
      → ((k : ℕ) → 1 ≤ k → k ≤ length c.faces → face ≡ pos k → ⊥)
      → account_of (Accepted c) line face ≡ no_account (refusal 9 0)
  unfolding account_of
  no-such-face axis side is n =
      let shown = ap (host_line c.year (six_extremes c)) is ∙ line-is c.year (six_extremes c) axis side in
      let own = face_account c line (host_extreme c.year (shown_in (six_extremes c) axis side)) (nat_abs face) in
      ap (λ (x : host.Extreme). cond (eqb x.verdict.number 0) (account_on c line x face)
      (no_account x.verdict)) shown
      ∙ by-test (beyond (pos 1) (pos (length c.faces)) face)
      (λ t. ap (λ (b : Bool). cond b (no_account (refusal 9 0)) own) t)
      (λ t. let w = within 1 (length c.faces) face t in absurd (n (nat_abs face) w.from w.to (sym w.plain)))

pub shares-refused : SharesRefused
unfolding account_of
shares-refused =
    record {
      own = λ κ a r s p v f.
          p ∙ ap (λ (x : Reading). account_of x a.1.0 a.1.1.0) (fault.sheet-faulty a.0.now f);
      line = λ κ a r s p f n.
          let t = fault.sheet-faultless a.0.now f in
          p ∙ ap (λ (x : Reading). account_of x a.1.0 a.1.1.0) t.1
          ∙ no-such-line t.0 a.1.0 a.1.1.0 n;
      face = λ κ a r s p c e axis side is n.
          p ∙ ap (λ (x : Reading). account_of x a.1.0 a.1.1.0) e
          ∙ no-such-face c a.1.0 a.1.1.0 axis side is n;
    }
