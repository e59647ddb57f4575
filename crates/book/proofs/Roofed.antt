-- The roof of a building in order: its part of the tables, the rows that x lies between, and how large a value is.
use mathlib.Core.Path.{◌≡◌, refl, sym, ap, ◌∙◌, subst, subst₂}
use mathlib.Core.Bool.{true}
use mathlib.Core.List.{List, [], ◌∷◌}
use Prim.Native.Nat.{ℕ, ◌+◌, ◌-◌, ◌*◌, ◌≤◌, ◌<◌}
use native.Mathlib.Omega.{arith}
use lib.Dec.{eqb}
use lib.IntN.{ℤ, pos, nat_abs, ◌*ℤ◌}
use lib.ListN.{length, get_or}
use borrow.Author.Tests.{eqb-true, eqb-false, eq-eqb, ne_eqb}
use Rattle.whole.specs.Lists.{Every}
use Rattle.whole.proofs.Tests.{by-test}
use Rattle.whole.proofs.Lists.{every-at}
use Rattle.building.specs.declared.Sizes.{Sizes}
use Rattle.building.specs.Roof.{roof_of}
use Rattle.building.specs.Order.{SizesInOrder}
use Rattle.building.proofs.Places.{among-yes}
use Rattle.book.specs.Row.{Row, hundredths, Standing}
use Rattle.book.specs.Line.{Way, way_in, value_at}
use Rattle.book.specs.Interpolated.{LiesAt}
use Rattle.book.specs.NoHalf.{NoHalfOn}
use Rattle.book.specs.Gable.{gable_parts, block_of}
use Rattle.book.specs.Roofs.{flat_roof, part_of, roof_table, last_number, roof_way}
use Rattle.book.proofs.Ways.{way-rows, Proper, way-proper, way-small}
use Rattle.book.proofs.Walked.{last_at, lies-walked, lies-only}
use Rattle.book.proofs.Tables.{SmallRow, SmallZones, Listed, Part, gable-part, flat-part, gable-small}
use Rattle.book.proofs.Tables.{single-part, single-small, flat-small, flat-f-rows}
use Rattle.book.proofs.Rows.{block_of-most}
use Rattle.book.proofs.Between.{line_on, line_small}
use Rattle.book.proofs.Slopes.{gable-no-half}

abbrev No-half-in : List Standing → Type 0
No-half-in rows = (x : ℕ) (w : Way) → LiesAt rows x 1 w → NoHalfOn w

-- the fraction of the way is one
pub way-is : (s : Sizes) → Proper (roof_way s)
unfolding roof_way
way-is s = way-proper (part_of s) s.along s.across

module _ (s : Sizes) (o : SizesInOrder s) (roofed : 0 < s.kind) where
  pub part-is : Part (roof_table s.kind) (last_number s.kind) (roof_of s.kind) (part_of s)
  part-is =
      by-test (eqb s.kind 1)
      (λ e.
      let block = block_of-most s.h s.b o.h-over-b in
      rw (e, eqb-true s.kind 1 e) (gable-part (block_of s.h s.b) (omega arith)))
      (λ e. by-test (eqb s.kind 6)
      (λ f. rw (e, f, eqb-true s.kind 6 f) single-part)
      (λ f. let q = eqb-false s.kind 1 e in
      let t = eqb-false s.kind 6 f in
      let most = o.ranged.kind-most in
      let two : s.kind - 2 + 2 ≡ s.kind = omega arith in
      rw (e, f) (rw two at (flat-part (s.kind - 2) (omega arith)))))

  pub way-few : (roof_way s).whole ≤ 27000001
  unfolding roof_way
  way-few =
      let w = way-small 900 (part_of s) s.along s.across part-is.most in
      let m = o.ranged.across-most in
      omega arith

  -- what holds of each row of the part holds of the two
  way-rows-of : (P : Row → Type 0) → Every (λ (r : Standing). P r.row) (part_of s)
      → P (roof_way s).lower × P (roof_way s).upper
  unfolding roof_way
  way-rows-of P h = way-rows P (part_of s) s.along s.across part-is.some h

  pub rows-listed : let w = roof_way s in
      Listed (roof_table s.kind) (last_number s.kind) w.lower
      × Listed (roof_table s.kind) (last_number s.kind) w.upper
  rows-listed = way-rows-of (Listed (roof_table s.kind) (last_number s.kind)) part-is.listed

  pub rows-small : SmallRow 250 (roof_way s).lower × SmallRow 250 (roof_way s).upper
  rows-small = way-rows-of (SmallRow 250) part-is.small

  -- x lies there, and nowhere else
  lies_so : (rows : List Standing) → 0 < length rows → s.along ≤ last_at rows * s.across
      → LiesAt rows s.along s.across (way_in rows s.along s.across)
  lies_so [] some to = absurd (omega arith)
  lies_so (r ∷ rows) some to = lies-walked s.along s.across o.ranged.across-least r rows to

  pub roof-lies : LiesAt (part_of s) s.along s.across (roof_way s)
  unfolding roof_way
  roof-lies =
      lies_so (part_of s) part-is.some
      (subst (λ (n : ℕ). s.along ≤ n * s.across) (sym part-is.ends) o.x-to)

  pub roof-only : {w : Way} → LiesAt (part_of s) s.along s.across w → w ≡ roof_way s
  unfolding roof_way
  roof-only = lies-only s.along s.across o.ranged.across-least (part_of s) part-is.rises

  -- on a gable no half comes up
  pub roof-no-half : s.kind ≡ 1 → NoHalfOn (roof_way s)
  unfolding roof_of
  roof-no-half e =
      let block = block_of-most s.h s.b o.h-over-b in
      let plain : s.across ≡ 1 = o.x-over ∙ rw e refl in
      let rows : part_of s ≡ get_or gable_parts (block_of s.h s.b) [] = rw (eq-eqb s.kind 1 e) in
      every-at No-half-in gable_parts [] (block_of s.h s.b) (omega arith) gable-no-half s.along (roof_way s)
      (subst₂ (λ (l : List Standing) (d : ℕ). LiesAt l s.along d (roof_way s)) rows plain roof-lies)

  -- the value is small
  value-small : (k col : ℕ) → nat_abs (hundredths (roof_way s).lower col) ≤ k
      → nat_abs (hundredths (roof_way s).upper col) ≤ k → nat_abs (value_at (roof_way s) col) ≤ k * 10
  value-small k col h g =
      let w = roof_way s in
      line_small (hundredths w.lower col) (hundredths w.upper col) w.part w.whole (way-is s).within
      (way-is s).some k h g

  pub roof_value-small : (col : ℕ) → nat_abs (value_at (roof_way s) col) ≤ 2500
  roof_value-small col = value-small 250 col (rows-small.0.at col) (rows-small.1.at col)

  -- a zone's: any column of a gable or a single slope, and a flat roof's E and F
  pub gable_value-small : s.kind ≡ 1 → (col : ℕ) → nat_abs (value_at (roof_way s) col) ≤ 1200
  gable_value-small e col =
      let small : Every (λ (r : Standing). SmallRow 120 r.row) (part_of s) =
      rw (eq-eqb s.kind 1 e) (gable-small (block_of s.h s.b)) in
      let r = way-rows-of (SmallRow 120) small in
      value-small 120 col (r.0.at col) (r.1.at col)

  pub single_value-small : s.kind ≡ 6 → (col : ℕ) → nat_abs (value_at (roof_way s) col) ≤ 1200
  single_value-small e col =
      let small : Every (λ (r : Standing). SmallRow 120 r.row) (part_of s) =
      rw (ne_eqb s.kind 1 (λ p. omega arith), eq-eqb s.kind 6 e) single-small in
      let r = way-rows-of (SmallRow 120) small in
      value-small 120 col (r.0.at col) (r.1.at col)

  pub flat_value-small : flat_roof s.kind ≡ true → (col : ℕ) → col < 2 → nat_abs (value_at (roof_way s) col) ≤ 1200
  flat_value-small f col h =
      let k = among-yes 2 5 s.kind f in
      let small : Every (λ (r : Standing). SmallZones 120 r.row) (part_of s) =
      rw (ne_eqb s.kind 1 (λ e. omega arith), ne_eqb s.kind 6 (λ e. omega arith)) (flat-small (s.kind - 2)) in
      let r = way-rows-of (SmallZones 120) small in
      value-small 120 col (r.0.at col h) (r.1.at col h)

  -- zone F of a flat roof is 0.200, wherever x lies
  pub flat-f : flat_roof s.kind ≡ true → value_at (roof_way s) 1 ≡ pos 200
  flat-f f =
      let k = among-yes 2 5 s.kind f in
      let rows : Every (λ (r : Standing). hundredths r.row 1 ≡ pos 20) (part_of s) =
      rw (ne_eqb s.kind 1 (λ e. omega arith), ne_eqb s.kind 6 (λ e. omega arith)) (flat-f-rows (s.kind - 2)) in
      let r = way-rows-of (λ (q : Row). hundredths q 1 ≡ pos 20) rows in
      let w = roof_way s in
      line_on (hundredths w.lower 1) (hundredths w.upper 1) w.part w.whole (way-is s).within
      (way-is s).some (r.0 ∙ sym r.1)
      ∙ ap (λ (z : ℤ). z *ℤ pos 10) r.0
