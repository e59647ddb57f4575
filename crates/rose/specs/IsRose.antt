-- What it is to be the rose of lines, said by itself: which are counted, in which cells, and which one is refused.
use Rattle.std.specs.Prelude.{ℕ, ◌+◌, ◌≤◌, ◌<◌, ◌≡◌, cond, List, [], ◌∷◌, eqb, length, get_or, take}
use Rattle.verdict.specs.Verdict.{accepted, refusal}
use Rattle.field.specs.declared.Field.{Field}
use Rattle.rose.specs.Observation.{Said}
use Rattle.std.specs.Prelude.{Ok, Err}
use Rattle.rose.specs.declared.Misread.TheVariants.{OutOfForm, OutOfRange}
use Rattle.rose.specs.declared.Rose.{Rose}
use Rattle.rose.specs.Observation.{line_says}
use Rattle.rose.specs.Rose.{fault_after}

unfoldable pub cell_sum : List ℕ → ℕ
cell_sum [] = 0
cell_sum (x ∷ xs) = x + cell_sum xs

-- 1 for a line that says cell k
abbrev pub in_cell : ℕ → Said → ℕ
in_cell k (Err OutOfForm) = 0
in_cell k (Err OutOfRange) = 0
in_cell k (Ok j) = cond (eqb j k) 1 0

-- how many lines say cell k
unfoldable pub count_in : ℕ → List (List Field) → ℕ
count_in k [] = 0
count_in k (l ∷ ls) = in_cell k (line_says l) + count_in k ls

-- the fault of the line that i others stand before, 0 if it has none
abbrev pub fault_at : List (List Field) → ℕ → ℕ
fault_at ls i = fault_after i (line_says (get_or ls i []))

pub record IsRose (ls : List (List Field)) (r : Rose) : Type 0 where
  -- the accepted lines have no fault
  pub within : r.accepted ≤ length ls
  pub good : (i : ℕ) → i < r.accepted → fault_at ls i ≡ 0
  -- a line behind them is refused with its fault, and its line is counted from 1
  pub some : r.accepted < length ls → 0 < fault_at ls r.accepted
  pub first : r.accepted < length ls → r.verdict ≡ refusal (fault_at ls r.accepted) (r.accepted + 1)
  pub none : r.accepted ≡ length ls → r.verdict ≡ accepted
  -- each is counted once, in its cell
  pub size : length r.cell ≡ 208
  pub each : (k : ℕ) → k < 208 → get_or r.cell k 0 ≡ count_in k (take r.accepted ls)
  pub sum : cell_sum r.cell ≡ r.accepted
