-- The printed tables: their rows are numbered in the book's order, and each part's are as its roof wants them. Each
-- by one test over the whole of them.
use mathlib.Core.Path.{◌≡◌, refl, subst}
use mathlib.Core.Bool.{Bool, true}
use mathlib.Core.List.{List, [], ◌∷◌, map}
use Prim.Native.Nat.{ℕ, zero-le, ◌+◌, ◌≤◌, ◌<◌}
use lib.Dec.{T, leb, ltb, eqb, leb→le, ltb→lt, le→leb}
use lib.IntN.{ℤ, pos, nat_abs}
use lib.ListN.{length, get_or, take}
use lib.Seq.{get_or-take}
use Rattle.whole.specs.Lists.{Every}
use Rattle.whole.proofs.Table.{both, both_left, both_right, all, all-at, each_at}
use Rattle.whole.proofs.Tests.{by-test, is_true}
use Rattle.whole.proofs.Lists.{every-by}
use Rattle.building.specs.Test.{is}
use Rattle.building.specs.Roof.{Roof, roof_of}
use Rattle.building.proofs.Machine.{is_same}
use Rattle.book.specs.Row.{Row, hundredths, row_numbered, Standing}
use Rattle.book.specs.Interpolated.{Rising}
use Rattle.book.specs.Walls.{Wall, no_wall, walls, wall_table}
use Rattle.book.specs.Gable.{low, middle, tall, gable_parts, gable_table}
use Rattle.book.specs.Flat.{straight, parapet, curved, mansard, flat_parts, flat_table}
use Rattle.book.specs.SingleSlope.{single_slope, single_table}
use Rattle.book.proofs.Walked.{last_at}

-- ---- the rows in the book's order

abbrev numbers : List Standing → List ℕ
numbers rows = map (λ (r : Standing). r.row.number) rows

pub walls-in-order : map (λ (r : Wall). r.row.number) walls ≡ (1 ∷ 2 ∷ 3 ∷ 4 ∷ 5 ∷ 6 ∷ [])
walls-in-order = refl

pub gable-in-order : map numbers gable_parts
    ≡ ((1 ∷ 2 ∷ 3 ∷ 4 ∷ 5 ∷ 6 ∷ 7 ∷ [])
    ∷ (8 ∷ 9 ∷ 10 ∷ 11 ∷ 12 ∷ 13 ∷ 14 ∷ [])
    ∷ (15 ∷ 16 ∷ 17 ∷ 18 ∷ 19 ∷ 20 ∷ 21 ∷ 22 ∷ [])
    ∷ [])
gable-in-order = refl

-- straight eaves again at the end of the mansard's
pub flat-in-order : map numbers flat_parts
    ≡ ((1 ∷ []) ∷ (2 ∷ 3 ∷ 4 ∷ []) ∷ (5 ∷ 6 ∷ 7 ∷ []) ∷ (8 ∷ 9 ∷ 10 ∷ 1 ∷ []) ∷ [])
flat-in-order = refl

pub single-in-order : numbers single_slope ≡ (1 ∷ 2 ∷ 3 ∷ 4 ∷ 5 ∷ [])
single-in-order = refl

-- ---- a test of each row

pub passed : {A : Type 0} (f : A → Bool) (l : List A) → T (all f l) → Every (λ x. T (f x)) l
passed f [] t = tt
passed f (x ∷ l) t = (both_left (f x) (all f l) t, passed f l (both_right (f x) (all f l) t))

-- none of a row's numbers is above k in size
abbrev small : ℕ → ℤ → Bool
small k z = leb (nat_abs z) k

pub record SmallRow (k : ℕ) (r : Row) : Type 0 where
  pub at : (col : ℕ) → nat_abs (hundredths r col) ≤ k

small_row : (k : ℕ) (r : Row) → T (all (small k) r.cells) → SmallRow k r
small_row k r t =
    record { at = λ col. leb→le _ k (all-at (small k) r.cells (pos 0) (le→leb 0 k zero-le) t col) }

-- nor any of its first two, the columns E and F of a flat roof
pub record SmallZones (k : ℕ) (r : Row) : Type 0 where
  pub at : (col : ℕ) → col < 2 → nat_abs (hundredths r col) ≤ k

small-zones : (k : ℕ) (r : Row) → T (all (small k) (take 2 r.cells)) → SmallZones k r
small-zones k r t =
    record {
      at = λ col h.
          subst (λ (z : ℤ). nat_abs z ≤ k) (get_or-take 2 r.cells col (pos 0) h)
          (leb→le _ k (all-at (small k) (take 2 r.cells) (pos 0) (le→leb 0 k zero-le) t col));
    }

-- ---- the walls' rows

pub wall-small : (i : ℕ) → SmallRow 120 (get_or walls i no_wall).row
wall-small i =
    small_row 120 _ (all-at (λ (r : Wall). all (small 120) r.row.cells) walls no_wall tt tt i)

-- the number of a row of walls
pub wall-number : (i : ℕ) → i < 6 → (get_or walls i no_wall).row.number ≡ i + 1
wall-number =
    each_at (λ (i : ℕ). (get_or walls i no_wall).row.number ≡ i + 1) 6
    (refl, (refl, (refl, (refl, (refl, (refl, tt))))))

pub wall-listed : (i : ℕ) → i < 6
    → row_numbered (get_or walls i no_wall).row.number wall_table ≡ (get_or walls i no_wall).row
unfolding wall_table
wall-listed =
    each_at (λ (i : ℕ). row_numbered (get_or walls i no_wall).row.number wall_table ≡ (get_or walls i no_wall).row) 6
    (refl, (refl, (refl, (refl, (refl, (refl, tt))))))

-- ---- the parts of the roofs' tables

-- a row that a table lists under its number, which is one of the first n
pub record Listed (table : List Row) (n : ℕ) (r : Row) : Type 0 where
  pub found : row_numbered r.number table ≡ r
  pub from : 0 < r.number
  pub to : r.number ≤ n

-- a part of a table, for a roof
pub record Part (table : List Row) (n : ℕ) (roof : Roof) (rows : List Standing) : Type 0 where
  pub some : 0 < length rows
  pub few : length rows ≤ 8
  pub rises : Rising rows
  pub ends : last_at rows ≡ roof.greatest
  pub most : Every (λ s. s.at ≤ 900) rows
  pub listed : Every (λ s. Listed table n s.row) rows
  pub small : Every (λ s. SmallRow 250 s.row) rows

abbrev rising : List Standing → Bool
rising [] = true
rising (r ∷ []) = true
rising (r ∷ s ∷ rows) = both (ltb r.at s.at) (rising (s ∷ rows))

rises_by : (rows : List Standing) → T (rising rows) → Rising rows
rises_by [] t = tt
rises_by (r ∷ []) t = tt
rises_by (r ∷ s ∷ rows) t =
    let a = ltb r.at s.at in
    let b = rising (s ∷ rows) in
    (ltb→lt r.at s.at (both_left a b t), rises_by (s ∷ rows) (both_right a b t))

-- the tests of one row of a part
abbrev numbered : ℕ → Standing → Bool
numbered n s = both (ltb 0 s.row.number) (leb s.row.number n)

abbrev entered : Standing → Bool
entered s = both (leb s.at 900) (all (small 250) s.row.cells)

listed_by : (table : List Row) (n : ℕ) (rows : List Standing) → T (all (numbered n) rows)
    → map (λ (s : Standing). row_numbered s.row.number table) rows ≡ map (λ (s : Standing). s.row) rows
    → Every (λ s. Listed table n s.row) rows
listed_by table n [] t e = tt
listed_by table n (s ∷ rows) t e =
    let here = both_left (numbered n s) (all (numbered n) rows) t in
    let a = ltb 0 s.row.number in
    let b = leb s.row.number n in (
      record { found = cc; from = ltb→lt 0 _ (both_left a b here); to = leb→le _ n (both_right a b here) },
      listed_by table n rows (both_right (numbered n s) (all (numbered n) rows) t) cc,
    )

module _ (table : List Row) (n : ℕ) (roof : Roof) (rows : List Standing) where
  part_by : T (ltb 0 (length rows)) → T (leb (length rows) 8) → T (rising rows) → T (all (numbered n) rows)
      → T (all entered rows) → last_at rows ≡ roof.greatest
      → map (λ (s : Standing). row_numbered s.row.number table) rows ≡ map (λ (s : Standing). s.row) rows
      → Part table n roof rows
  part_by some few rises numbers fine ends listed =
      let each = passed entered rows fine in
      record {
        some = ltb→lt 0 (length rows) some;
        few = leb→le (length rows) 8 few;
        rises = rises_by rows rises;
        ends = ends;
        most = every-by (λ s t. leb→le s.at 900 (both_left (leb s.at 900) (all (small 250) s.row.cells) t))
            rows each;
        listed = listed_by table n rows numbers listed;
        small = every-by
            (λ s t. small_row 250 s.row (both_right (leb s.at 900) (all (small 250) s.row.cells) t)) rows
            each;
      }

pub gable-part : (k : ℕ) → k < 3 → Part gable_table 22 (roof_of 1) (get_or gable_parts k [])
unfolding gable_table roof_of
gable-part =
    each_at (λ (k : ℕ). Part gable_table 22 (roof_of 1) (get_or gable_parts k [])) 3 (
      part_by _ _ _ tall tt tt tt tt tt refl refl,
      (part_by _ _ _ middle tt tt tt tt tt refl refl, (part_by _ _ _ low tt tt tt tt tt refl refl, tt)),
    )

pub flat-part : (k : ℕ) → k < 4 → Part flat_table 10 (roof_of (k + 2)) (get_or flat_parts k [])
unfolding flat_table roof_of
flat-part =
    each_at (λ (k : ℕ). Part flat_table 10 (roof_of (k + 2)) (get_or flat_parts k [])) 4 (
      part_by _ _ _ mansard tt tt tt tt tt refl refl,
      (
        part_by _ _ _ curved tt tt tt tt tt refl refl,
        (
          part_by _ _ _ parapet tt tt tt tt tt refl refl,
          (part_by _ _ _ straight tt tt tt tt tt refl refl, tt),
        ),
      ),
    )

pub single-part : Part single_table 5 (roof_of 6) single_slope
unfolding single_table roof_of
single-part = part_by _ _ _ single_slope tt tt tt tt tt refl refl

-- a row of a table, whatever its number
numbered-small : (k i : ℕ) (table : List Row) → T (all (λ (r : Row). all (small k) r.cells) table)
    → SmallRow k (row_numbered i table)
numbered-small k i [] t = record { at = λ col. zero-le }
numbered-small k i (r ∷ table) t =
    let a = all (small k) r.cells in
    let b = all (λ (r : Row). all (small k) r.cells) table in
    by-test (eqb r.number i) (λ e. rw e (small_row k r (both_left a b t)))
    (λ e. rw e (numbered-small k i table (both_right a b t)))

pub gable-row-small : (i : ℕ) → SmallRow 250 (row_numbered i gable_table)
unfolding gable_table
gable-row-small i = numbered-small 250 i gable_table tt

pub flat-row-small : (i : ℕ) → SmallRow 250 (row_numbered i flat_table)
unfolding flat_table
flat-row-small i = numbered-small 250 i flat_table tt

pub single-row-small : (i : ℕ) → SmallRow 250 (row_numbered i single_table)
unfolding single_table
single-row-small i = numbered-small 250 i single_table tt

-- no coefficient of a zone is above 1.20: none of a gable or a single slope, and none of the columns E and F
abbrev every : Standing → Bool
every s = all (small 120) s.row.cells

abbrev first_two : Standing → Bool
first_two s = all (small 120) (take 2 s.row.cells)

gable-test : (k : ℕ) → T (all every (get_or gable_parts k []))
gable-test = all-at (all every) gable_parts [] tt tt

pub gable-small : (k : ℕ) → Every (λ s. SmallRow 120 s.row) (get_or gable_parts k [])
gable-small k =
    every-by (λ (s : Standing) t. small_row 120 s.row t) (get_or gable_parts k [])
    (passed every (get_or gable_parts k []) (gable-test k))

pub single-small : Every (λ s. SmallRow 120 s.row) single_slope
single-small = every-by (λ (s : Standing) t. small_row 120 s.row t) single_slope (passed every single_slope tt)

flat-test : (k : ℕ) → T (all first_two (get_or flat_parts k []))
flat-test = all-at (all first_two) flat_parts [] tt tt

pub flat-small : (k : ℕ) → Every (λ s. SmallZones 120 s.row) (get_or flat_parts k [])
flat-small k =
    every-by (λ (s : Standing) t. small-zones 120 s.row t) (get_or flat_parts k [])
    (passed first_two (get_or flat_parts k []) (flat-test k))

-- zone F is the same in every row of theirs
abbrev f-test : Standing → Bool
f-test s = is (pos 20) (hundredths s.row 1)

pub flat-f-rows : (k : ℕ) → Every (λ s. hundredths s.row 1 ≡ pos 20) (get_or flat_parts k [])
flat-f-rows k =
    every-by (λ (s : Standing) t. is_same (pos 20) (hundredths s.row 1) (is_true (f-test s) t)) (get_or flat_parts k [])
    (passed f-test (get_or flat_parts k []) (all-at (all f-test) flat_parts [] tt tt k))
