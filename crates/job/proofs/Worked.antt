-- Worked sheets: paper 01's sheet with one line changed, and the number and line that it then gets.
use Prim.Native.Nat.{ℕ, ◌-◌}
use mathlib.Core.Path.{◌≡◌, refl}
use mathlib.Core.List.{List, [], ◌∷◌, ◌++◌, map}
use lib.ListN.{set, take}
use Rattle.verdict.specs.Verdict.{refusal}
use Rattle.field.specs.declared.Field.{Field}
use Rattle.field.specs.declared.Field.TheVariants.{Bad, Plus, Minus, Letter, Dash}
use Rattle.building.specs.Building.{out_of_range, out_of_walls, out_of_roof}
use Rattle.building.specs.Roof.{roof_of}
use Rattle.building.specs.Places.{zone_on, knows}
use Rattle.building.specs.Test.{beyond, too_long}
use Rattle.rules.specs.Form.{has_form, in_form}
use Rattle.rules.specs.Sections.{line_fault}
use Rattle.job.specs.Walk.{walk, verdict, read_lines}

abbrev paper : List (List Field)
paper =
    (Letter 66 ∷ Plus 1 ∷ [])
    ∷ (Plus 500 ∷ Plus 1200 ∷ Plus 1000 ∷ Plus 1250 ∷ Plus 2 ∷ Plus 0 ∷ [])
    ∷ (Letter 87 ∷ Plus 1 ∷ [])
    ∷ (Plus 0 ∷ Plus 400 ∷ [])
    ∷ (Letter 73 ∷ Plus 2 ∷ [])
    ∷ (Plus 20 ∷ [])
    ∷ (Minus 30 ∷ [])
    ∷ (Letter 70 ∷ Plus 3 ∷ [])
    ∷ (Letter 65 ∷ Plus 0 ∷ Plus 1000 ∷ Plus 0 ∷ Plus 0 ∷ [])
    ∷ (Letter 66 ∷ Dash ∷ Minus 1000 ∷ Plus 0 ∷ Plus 0 ∷ [])
    ∷ (Letter 70 ∷ Plus 0 ∷ Plus 0 ∷ Plus 0 ∷ Minus 2000 ∷ [])
    ∷ []

-- lines, and the number and line that they get
record Case : Type 0 where
  lines : List (List Field)
  number : ℕ
  line : ℕ

-- the line of this number changed
abbrev with : ℕ → List Field → ℕ → ℕ → Case
with at x number line = record { lines = set paper (at - 1) x; number = number; line = line }

abbrev cases : List Case
cases =
    record { lines = paper; number = 0; line = 0 }
    ∷ record { lines = []; number = 1; line = 1 }
    -- a line missing, a line extra
    ∷ record { lines = take 10 paper; number = 1; line = 11 }
    ∷ record { lines = paper ++ ((Bad ∷ []) ∷ []); number = 1; line = 12 }
    -- counts; a field more; a letter that is not called for
    ∷ with 1 (Letter 66 ∷ Plus 2 ∷ []) 2 1
    ∷ with 1 (Letter 66 ∷ Minus 1 ∷ []) 2 1
    ∷ with 3 (Letter 87 ∷ Plus 0 ∷ []) 2 3
    ∷ with 3 (Letter 87 ∷ Plus 9 ∷ []) 2 3
    ∷ with 5 (Letter 73 ∷ Plus 5 ∷ []) 2 5
    ∷ with 8 (Letter 70 ∷ Plus 25 ∷ []) 2 8
    ∷ with 8 (Letter 70 ∷ Plus 3 ∷ Plus 3 ∷ []) 1 8
    ∷ with 8 (Letter 73 ∷ Plus 25 ∷ []) 1 8
    -- the building: out of form, a number out of range and no ratio looked at, a square plan, x
    ∷ with 2 (Bad ∷ Plus 1000 ∷ Plus 1000 ∷ Plus 1250 ∷ Plus 2 ∷ Plus 0 ∷ []) 1 2
    ∷ with 2 (Plus 99 ∷ Plus 1000 ∷ Plus 1000 ∷ Plus 1250 ∷ Plus 2 ∷ Plus 0 ∷ []) 3 2
    ∷ with 2 (Plus 500 ∷ Plus 1000 ∷ Plus 1000 ∷ Plus 1250 ∷ Plus 2 ∷ Plus 1 ∷ []) 4 2
    ∷ with 2 (Plus 500 ∷ Plus 1200 ∷ Plus 1000 ∷ Plus 1250 ∷ Plus 2 ∷ Plus 1 ∷ []) 5 2
    -- a direction, a speed, an internal coefficient
    ∷ with 4 (Minus 90 ∷ Plus 400 ∷ []) 3 4
    ∷ with 4 (Dash ∷ Plus 0 ∷ []) 1 4
    ∷ with 4 (Plus 90 ∷ Plus 1001 ∷ []) 3 4
    ∷ with 7 (Minus 101 ∷ []) 3 7
    -- a mark, a zone that is no zone, a zone not on the building, and an area out of range beside it
    ∷ with 9 (Letter 65 ∷ Minus 90 ∷ Plus 0 ∷ Plus 0 ∷ Plus 0 ∷ []) 3 9
    ∷ with 9 (Letter 73 ∷ Plus 45 ∷ Plus 0 ∷ Plus 0 ∷ Plus 0 ∷ []) 1 9
    ∷ with 9 (Letter 71 ∷ Plus 0 ∷ Plus 0 ∷ Plus 0 ∷ Plus 0 ∷ []) 6 9
    ∷ with 9 (Letter 71 ∷ Plus 0 ∷ Plus 100001 ∷ Plus 0 ∷ Plus 0 ∷ []) 3 9
    ∷ []

cases-right : map (λ c. verdict (read_lines c.lines)) cases ≡ map
    (λ c. refusal c.number c.line) cases
unfolding read_lines walk line_fault in_form has_form out_of_range out_of_walls out_of_roof roof_of too_long beyond
    zone_on
    knows
cases-right = refl
