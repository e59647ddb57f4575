-- The tables as the code has them are the printed ones.
use mathlib.Core.Path.{◌≡◌, refl, sym, ap, ◌∙◌, subst}
use mathlib.Core.Bool.{Bool, true}
use mathlib.Core.List.{List, [], ◌∷◌, ◌++◌, map}
use Prim.Native.Nat.{ℕ, zero, suc, ◌+◌, ◌-◌, ◌^◌, ◌≤◌, ◌<◌}
use native.Mathlib.Omega.{arith}
use lib.Dec.{T, leb, ltb, eqb, leb→le, lit<}
use lib.IntN.{ℤ, pos, nat_abs}
use lib.ListN.{length, get_or, take, drop, get_or-map, get_or-append}
use lib.Seq.{get_or-take, get_or-drop, get_or-append-add}
use mir.Syntax.{w16}
use mir.Val.{hbits}
use borrow.Author.Tests.{eqb-true, eq-eqb, ne_eqb}
use Rattle.whole.proofs.Size.{Num, back}
use Rattle.whole.proofs.Tests.{is_true}
use Rattle.whole.proofs.Table.{both, both_left, both_right, Each, each_at}
use Rattle.whole.specs.Lists.{joined}
use Rattle.whole.proofs.Joined.{begins, joined_at}
use Rattle.book.specs.declared.roofs.Row as coded-rows
use Rattle.book.specs.declared.roofs.Slope as coded-slopes
use Rattle.book.specs.Row.{Row, no_row, hundredths, row_numbered, Standing, rows_of}
use Rattle.book.specs.Gable.{gable_parts, gable_table}
use Rattle.book.specs.Flat.{flat_parts, flat_table}
use Rattle.book.specs.SingleSlope.{single_slope, single_table}
use Rattle.book.specs.Spot.{roof_parts}
use Rattle.book.specs.Walls.{Wall}
use Rattle.book.specs.Held.{coded_wall, coded_row, held_row, coded_slope, held_slope}
use Rattle.book.proofs.Ways.{no_standing}

-- a number of a table as the machine has it, z, is the printed one, v
abbrev pub entry : {z v : ℤ} {k : ℕ} → z ≡ v → nat_abs v ≤ k → T (ltb k (2 ^ hbits w16)) → Num
entry {z} {v} {k} e h t = back w16 (record { has = z; is = v; most = k; same = e; small = h }) t

-- ---- a row of walls: a number of its columns, from wind 0, wind 90 or the local

module _ (r : Wall) (col : ℕ) where
  pub wind-0 : col < 4 → get_or (coded_wall r).4 col (pos 0) ≡ hundredths r.row col
  wind-0 h = get_or-take 4 r.row.cells col (pos 0) h

  pub wind-90 : 4 ≤ col → col < 8 → get_or (coded_wall r).5 (col - 4) (pos 0) ≡ hundredths r.row col
  wind-90 g h =
      let e : 4 + (col - 4) ≡ col = omega arith in
      get_or-take 4 (drop 4 r.row.cells) (col - 4) (pos 0) (omega arith)
      ∙ get_or-drop 4 r.row.cells (col - 4) (pos 0)
      ∙ ap (λ (n : ℕ). get_or r.row.cells n (pos 0)) e

  pub local : col ≡ 8 → (coded_wall r).6 ≡ hundredths r.row col
  local e = ap (λ (n : ℕ). get_or r.row.cells n (pos 0)) (sym e)

-- ---- the roofs' rows, part after part: a row's number, the number at which it stands, and its hundredths

-- those of the gables and the flat roofs, which one table of the code holds
abbrev parts : List (List Standing)
parts = gable_parts ++ flat_parts

abbrev pub part : ℕ → List Standing
part k = get_or roof_parts k []

held-among : (k : ℕ) → k < 7 → part k ≡ get_or parts k []
held-among k h = get_or-append parts (single_slope ∷ []) [] k h

pub gable-among : (k : ℕ) → k < 3 → part k ≡ get_or gable_parts k []
gable-among k h = held-among k (omega arith) ∙ get_or-append gable_parts flat_parts [] k h

pub flat-among : (kind : ℕ) → 2 ≤ kind → kind ≤ 5 → part (kind + 1) ≡ get_or flat_parts (kind - 2) []
flat-among kind h g =
    let e : kind + 1 ≡ 3 + (kind - 2) = omega arith in
    held-among (kind + 1) (omega arith) ∙ rw e (get_or-append-add gable_parts flat_parts (kind - 2) [])

-- every part has rows
abbrev Some-rows : ℕ → Type 0
Some-rows k = 0 < length (part k)

pub some-rows : (k : ℕ) → k < 8 → Some-rows k
some-rows =
    each_at Some-rows 8 (lit< tt, (lit< tt, (lit< tt, (lit< tt, (lit< tt, (lit< tt, (lit< tt, (lit< tt, tt))))))))

-- where the parts begin, and where the last ends
abbrev firsts : List ℕ
firsts = 0 ∷ 7 ∷ 14 ∷ 22 ∷ 23 ∷ 26 ∷ 29 ∷ 33 ∷ []

pub record Placed (k : ℕ) : Type 0 where
  pub begun : get_or firsts k 0 ≡ begins parts k
  pub ended : get_or firsts (k + 1) 0 ≡ get_or firsts k 0 + length (part k)
  pub most : get_or firsts (k + 1) 0 ≤ 33

place : (k : ℕ) → get_or firsts k 0 ≡ begins parts k → get_or firsts (k + 1) 0 ≡ get_or firsts k 0 + length (part k)
    → T (leb (get_or firsts (k + 1) 0) 33) → Placed k
place k begun ended most = record { begun = begun; ended = ended; most = leb→le _ 33 most }

pub placed : (k : ℕ) → k < 7 → Placed k
placed =
    each_at Placed 7 (
      place 6 refl refl tt,
      (place 5 refl refl tt, (place 4 refl refl tt, (place 3 refl refl tt, three))),
    )
  where
    three : Each Placed 3
    three = (place 2 refl refl tt, (place 1 refl refl tt, (place 0 refl refl tt, tt)))

pub row_is : (k i : ℕ) → k < 7 → i < length (part k)
    → held_row (get_or firsts k 0 + i) ≡ coded_row (get_or (part k) i no_standing)
row_is k i h g =
    let held = held-among k h in
    get_or-map coded_row (joined parts) (get_or firsts k 0 + i) no_standing
    ∙ ap coded_row
    (ap (λ (n : ℕ). get_or (joined parts) (n + i) no_standing) (placed k h).begun
    ∙ joined_at parts k i no_standing (subst (λ (rows : List Standing). i < length rows) held g)
    ∙ ap (λ (rows : List Standing). get_or rows i no_standing) (sym held))

-- the rows of single slopes, which another table holds
pub slope-is : (i : ℕ) → held_slope i ≡ coded_slope (get_or single_slope i no_standing)
slope-is i = get_or-map coded_slope single_slope i no_standing

pub slope-number : (i : ℕ) → i < 5 → i + 1 ≡ (get_or single_slope i no_standing).row.number
slope-number =
    each_at (λ (i : ℕ). i + 1 ≡ (get_or single_slope i no_standing).row.number) 5
    (refl, (refl, (refl, (refl, (refl, tt)))))

-- a number of a row, as a contract has it
pub number_in : (f : Standing → ℕ) → f no_standing ≡ 0 → (k i : ℕ)
    → get_or (map f (part k)) i 0 ≡ f (get_or (part k) i no_standing)
number_in f none k i = ap (get_or (map f (part k)) i) (sym none) ∙ get_or-map f (part k) i no_standing

-- ---- the rows of a table by their numbers

-- rows that are numbered n, n + 1, ..
abbrev run : ℕ → List Row → Bool
run n [] = true
run n (r ∷ rows) = both (eqb r.number n) (run (n + 1) rows)

run_at : (n i : ℕ) (rows rest : List Row) → T (run n rows) → i < length rows
    → row_numbered (n + i) (rows ++ rest) ≡ get_or rows i no_row
run_at n i [] rest t h = absurd (omega arith)
run_at n zero (r ∷ rows) rest t h =
    let e = eqb-true r.number n (is_true _ (both_left (eqb r.number n) (run (n + 1) rows) t)) in
    rw (eq-eqb r.number (n + 0) (omega arith))
run_at n (suc i) (r ∷ rows) rest t h =
    let e = eqb-true r.number n (is_true _ (both_left (eqb r.number n) (run (n + 1) rows) t)) in
    let next : n + suc i ≡ n + 1 + i = omega arith in
    rw (ne_eqb r.number (n + suc i) (λ f. omega arith))
    (subst (λ (k : ℕ). row_numbered k (rows ++ rest) ≡ get_or rows i no_row) (sym next)
    (run_at (n + 1) i rows rest (both_right (eqb r.number n) (run (n + 1) rows) t) (omega arith)))

-- among all rows, those of the table begin after those before it
module _ (before rows after rest : List Row) (runs : T (run 1 rows))
    (all-rows : map (λ (s : Standing). s.row) (joined parts) ≡ before ++ (rows ++ after)) where
  cell-is : (i col : ℕ) → 0 < i → i ≤ length rows
      → get_or (held_row (length before + (i - 1))).2 col (pos 0) ≡ hundredths (row_numbered i (rows ++ rest)) col
  cell-is i col from to =
      let n = length before + (i - 1) in
      let e : 1 + (i - 1) ≡ i = omega arith in
      let found : get_or (before ++ (rows ++ after)) n no_row ≡ get_or rows (i - 1) no_row =
      get_or-append-add before (rows ++ after) (i - 1) no_row ∙ get_or-append rows after no_row (i - 1) (omega arith) in
      ap (λ (r : coded-rows.Row). get_or r.2 col (pos 0)) (get_or-map coded_row (joined parts) n no_standing)
      ∙ ap (λ (r : Row). hundredths r col)
      (sym (get_or-map (λ (s : Standing). s.row) (joined parts) n no_standing)
      ∙ ap (λ (l : List Row). get_or l n no_row) all-rows
      ∙ found
      ∙ sym (rw e at (run_at 1 (i - 1) rows rest runs (omega arith))))

pub gable-cell : (i col : ℕ) → 0 < i → i ≤ 22
    → get_or (held_row (i - 1)).2 col (pos 0) ≡ hundredths (row_numbered i gable_table) col
unfolding gable_table
gable-cell i col from to =
    let e : 0 + (i - 1) ≡ i - 1 = omega arith in
    rw e at (cell-is [] (rows_of gable_parts) (rows_of flat_parts) [] tt refl i col from to)

pub flat-cell : (i col : ℕ) → 0 < i → i ≤ 10
    → get_or (held_row (i + 21)).2 col (pos 0) ≡ hundredths (row_numbered i flat_table) col
unfolding flat_table
flat-cell i col from to =
    let e : 22 + (i - 1) ≡ i + 21 = omega arith in
    let rows = rows_of flat_parts in
    rw e at (cell-is (rows_of gable_parts) (take 10 rows) (drop 10 rows) (drop 10 rows) tt refl i col from to)

pub single-cell : (i col : ℕ) → 0 < i → i ≤ 5
    → get_or (held_slope (i - 1)).1 col (pos 0) ≡ hundredths (row_numbered i single_table) col
unfolding single_table
single-cell i col from to =
    let n = i - 1 in
    let e : 1 + n ≡ i = omega arith in
    let rows = map (λ (s : Standing). s.row) single_slope in
    ap (λ (r : coded-slopes.Slope). get_or r.1 col (pos 0)) (slope-is n)
    ∙ ap (λ (r : Row). hundredths r col)
    (sym (get_or-map (λ (s : Standing). s.row) single_slope n no_standing)
    ∙ sym (rw e at (run_at 1 n rows [] tt (omega arith))))
