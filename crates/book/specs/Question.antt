-- The question about one zone or local: its column, its coefficient and, less the internal coefficient, its net.
use Rattle.std.specs.Prelude.{Ok, Err}
use Rattle.std.specs.Prelude.{Bool, cond, ◌&&◌, ◌||◌, ℕ, ◌+◌, ◌-◌, ℤ, pos, neg_ℤ, nat_abs, ◌-ℤ◌, ◌*ℤ◌, leb, eqb}
use Rattle.verdict.specs.Verdict.{refusal}
use Rattle.building.specs.declared.Building.{Building}
use Rattle.building.specs.declared.Sizes.{Sizes}
use Rattle.building.specs.Test.{beyond}
use Rattle.building.specs.Places.{A, E, F, G, L1, wall_local, wall_place}
use Rattle.building.specs.Question.{Question, asked_of}
use Rattle.book.specs.declared.Cited.{Cited}
use Rattle.book.specs.declared.Values.{Values}
use Rattle.book.specs.declared.Values.TheVariants.{One, Two}
use Rattle.book.specs.Line.{Way, value_at}
use Rattle.book.specs.Walls.{wall_way}
use Rattle.book.specs.Roofs.{flat_roof, roof_way}
use Rattle.book.specs.Answer.{Answer, cites}

-- ---- the coefficient

-- which column of the walls' table, of the gable's, of the single slope's, of the flat roof's
unfoldable pub wall_column : ℕ → ℕ → ℕ
wall_column wind place = cond (eqb place wall_local) 8 (cond (eqb wind 0) (place - A) (4 + (place - A)))

-- E,F before G,H; or E,G before F,H
abbrev pub half_of : ℕ → ℕ
half_of zone = cond (leb zone F) 0 1

abbrev pub flank_of : ℕ → ℕ
flank_of zone = cond (eqb zone E || eqb zone G) 0 1

unfoldable pub gable_column : ℕ → ℕ → ℕ
gable_column wind zone = cond (eqb wind 0) (half_of zone) (2 + flank_of zone)

unfoldable pub single_column : ℕ → ℕ → ℕ
single_column wind zone =
    cond (eqb wind 0) (half_of zone)
    (cond (eqb wind 45) (2 + half_of zone)
    (cond (eqb wind 90) (4 + flank_of zone)
    (cond (eqb wind 135) (6 + half_of zone) (8 + half_of zone))))

unfoldable pub flat_column : ℕ → ℕ
flat_column place = cond (eqb place E) 0 (cond (eqb place F) 1 (cond (eqb place L1) 2 3))

-- which column of the table of a roof of a kind
unfoldable pub roof_column : ℕ → ℕ → ℕ → ℕ
roof_column kind wind place =
    cond (eqb kind 1) (gable_column wind place) (cond (eqb kind 6) (single_column wind place) (flat_column place))

-- a place has both signs of its value: zone F of a flat roof
unfoldable pub two_signs : ℕ → ℕ → Bool
two_signs kind place = flat_roof kind && eqb place F

-- the value of a column; or both signs of it, first plus, second minus
abbrev pub one_at : Way → ℕ → Cited
one_at w col = cites (One (value_at w col)) w

abbrev pub both_signs : Way → ℕ → Cited
both_signs w col = cites (Two (value_at w col) (neg_ℤ (value_at w col))) w

unfoldable pub coefficient_of : Sizes → ℕ → ℕ → Cited
coefficient_of s wind place =
    let col = roof_column s.kind wind place in
    cond (wall_place place) (one_at (wall_way s) (wall_column wind place))
    (cond (two_signs s.kind place) (both_signs (roof_way s) col) (one_at (roof_way s) col))

-- ---- the question

-- what is refused stays refused
abbrev pub answer_to : Question → ℕ → ℕ → Answer
answer_to (Ok s) wind place = Ok (coefficient_of s wind place)
answer_to (Err v) wind place = Err v

unfoldable pub outside_of : ℤ → Building → ℤ → ℕ → Answer
outside_of year g direction place = answer_to (asked_of year g direction place) (nat_abs direction) place

-- net = outside minus internal, which is in hundredths
abbrev pub net : ℤ → ℤ → ℤ
net outside internal = outside -ℤ internal *ℤ pos 10

abbrev pub minus : Values → ℤ → Values
minus (One v) internal = One (net v internal)
minus (Two v w) internal = Two (net v internal) (net w internal)

-- with the rows and the fraction of the outside coefficient
abbrev pub net_cited : Cited → ℤ → Cited
net_cited c internal =
    record {
      values = minus c.values internal;
      lower = c.lower;
      upper = c.upper;
      part = c.part;
      whole = c.whole;
    }

-- beyond 1 in size, in hundredths
abbrev pub too_great : ℤ → Bool
too_great internal = beyond (neg_ℤ (pos 100)) (pos 100) internal

-- the internal coefficient is judged once the rest is in order
abbrev pub net_to : Answer → ℤ → Answer
net_to (Ok c) internal = cond (too_great internal) (Err (refusal 3 0)) (Ok (net_cited c internal))
net_to (Err v) internal = Err v

unfoldable pub net_of : ℤ → Building → ℤ → ℕ → ℤ → Answer
net_of year g direction place internal = net_to (outside_of year g direction place) internal
