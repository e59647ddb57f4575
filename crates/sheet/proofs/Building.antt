-- The line of a building in order is short: its numbers have no sign, and at most 5, 5, 5, 4, 1 and 4 digits.
use Prim.Native.Nat.{ℕ, zero, suc, ◌*◌, ◌≤◌, ◌<◌, ◌^◌}
use mathlib.Core.Path.{◌≡◌}
use mathlib.Core.Bool.{false, cond}
use mathlib.Core.List.{List}
use native.Mathlib.Nat.{mul-le-mul_right}
use native.Mathlib.Omega.{arith}
use lib.IntN.{ℤ, pos, nat_abs}
use lib.Dec.{leb, leb→le}
use lib.ListN.{length}
use Rattle.whole.proofs.Size.{nat_abs-neg}
use Rattle.whole.proofs.Tests.{by-test}
use Rattle.whole.proofs.Table.{all-at}
use Rattle.field.specs.declared.Field.{Field}
use Rattle.field.specs.declared.Field.TheVariants.{Plus}
use Rattle.lines.specs.Lines.{field_text}
use Rattle.whole.proofs.Digits.{digits-length}
use Rattle.building.specs.declared.Building.{Building}
use Rattle.building.specs.Roof.{Roof, roof, roofs, roof_of}
use Rattle.building.specs.Building.{building_fault}
use Rattle.building.proofs.Accepted.{good-fields, in_order}
use Rattle.entry.specs.Says.{number, building_of}
use Rattle.rules.specs.declared.FieldForm.TheVariants.{Number}
use Rattle.rules.specs.Form.{number_forms}
use Rattle.rules.proofs.Form.{Formed, plus, minus, AllFormed, none, more}
use Rattle.sheet.proofs.Bytes.{field_bytes}

-- ---- each number by itself

-- a field that is 0 or more has no sign
plain : {f : Field} (m : ℕ) → Formed Number f → pos m ≡ number f → f ≡ Plus m
plain m (plus h) e = cc
plain m (minus {m = zero} p h) e = absurd (omega arith)
plain m (minus {m = suc n} p h) e = absurd (let q : ◌≡◌ {A = ℕ} 0 1 = cc in omega arith)

-- and so has as many bytes as digits; another has one more
pub short : {f : Field} (k : ℕ) → Formed Number f → pos (nat_abs (number f)) ≡ number f
    → nat_abs (number f) < 10 ^ suc k → length (field_text f) ≤ suc k
short {f} k s e h = rw (plain (nat_abs (number f)) s e) (digits-length k (nat_abs (number f)) h)

pub signed : {f : Field} (k : ℕ) → Formed Number f → nat_abs (number f) < 10 ^ suc k
    → length (field_text f) ≤ suc (suc k)
signed k (plus {m = m} h) l = omega (arith, digits-length k m l)
signed k (minus {m = m} p h) l = omega (arith, digits-length k m (omega (arith, nat_abs-neg (pos m))))

-- ---- x, which the roof limits further

-- at most 900, or 200 thousandths of h
roof-x : (r : Roof) (h x : ℕ) → r.greatest ≤ cond r.by_height 200 900 → h ≤ 30000
    → cond r.by_height (1000 * x) x ≤ r.greatest * cond r.by_height h 1 → x ≤ 6000
roof-x r h x g l u =
    by-test r.by_height
    (λ e.
    let v : 1000 * x ≤ r.greatest * h = rw e at u in
    let w : r.greatest ≤ 200 = rw e at g in
    omega (arith, mul-le-mul_right h w))
    (λ e.
    let v : x ≤ r.greatest * 1 = rw e at u in
    let w : r.greatest ≤ 900 = rw e at g in
    omega arith)

roof-most : (kind : ℕ) → (roof_of kind).greatest ≤ cond (roof_of kind).by_height 200 900
unfolding roof_of
roof-most kind =
    leb→le _ _ (all-at (λ r. leb r.greatest (cond r.by_height 200 900)) roofs (roof 0 0 false) tt tt kind)

x-most : (year : ℤ) (g : Building) → building_fault year g ≡ 0 → nat_abs g.x ≤ 6000
x-most year g z =
    roof-x (roof_of (nat_abs g.kind)) (nat_abs g.h) (nat_abs g.x) (roof-most (nat_abs g.kind))
    (good-fields year g z).h.to (in_order year g z).x-to

-- ---- the line

pub building-bytes : (year : ℤ) {fs : List Field} → AllFormed (number_forms 6) fs
    → building_fault year (building_of fs) ≡ 0
    → field_bytes fs ≤ 30
building-bytes year {fs} (more h (more a (more b (more density (more kind (more x none)))))) z =
    let n = good-fields year (building_of fs) z in
    omega (
      arith,
      short 4 h n.h.plain (omega (arith, n.h.to)),
      short 4 a n.a.plain (omega (arith, n.a.to)),
      short 4 b n.b.plain (omega (arith, n.b.to)),
      short 3 density n.density.plain (omega (arith, n.density.to)),
      short 0 kind n.kind.plain (omega (arith, n.kind.to)),
      short 3 x n.x.plain (omega (arith, x-most year (building_of fs) z)),
    )
