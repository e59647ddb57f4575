-- An answer: the rows that its values cite, and a zone's alternatives in order.
use Rattle.std.specs.Prelude.{◌≡◌, true, List, [], ◌∷◌, ℕ, ◌≤◌, ℤ, nat_abs, Result, Ok, Err}
use Rattle.verdict.specs.declared.Verdict.{Verdict}
use Rattle.building.specs.Places.{F}
use Rattle.book.specs.declared.Values.{Values}
use Rattle.book.specs.declared.Values.TheVariants.{One, Two}
use Rattle.book.specs.declared.Cited.{Cited}
use Rattle.book.specs.Line.{Way}
use Rattle.book.specs.Roofs.{flat_roof}

-- a coefficient; or the refusal
abbrev pub Answer : Type 0
Answer = Result Cited Verdict

-- values that lie on a way, with the numbers of its rows
abbrev pub cites : Values → Way → Cited
cites values w =
    record {
      values = values;
      lower = w.lower.number;
      upper = w.upper.number;
      part = w.part;
      whole = w.whole;
    }

abbrev pub values_in : Values → List ℤ
values_in (One v) = v ∷ []
values_in (Two v w) = v ∷ w ∷ []

abbrev pub values_of : Answer → List ℤ
values_of (Ok c) = values_in c.values
values_of (Err v) = []

-- the alternatives of a place on a roof of a kind, none above k in size: two only in zone F of a flat roof
pub data Alternatives (k kind place : ℕ) : List ℤ → Type 0 where
  one : {v : ℤ} → nat_abs v ≤ k → Alternatives k kind place (v ∷ [])
  two : {v w : ℤ} → nat_abs v ≤ k → nat_abs w ≤ k → place ≡ F → flat_roof kind ≡ true
      → Alternatives k kind place (v ∷ w ∷ [])
