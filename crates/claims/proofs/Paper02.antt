-- Sentences of paper 02, item by item.
use mathlib.Core.Path.{◌≡◌, refl, sym, ◌∙◌}
use mathlib.Core.Bool.{true, false}
use Prim.Native.Nat.{ℕ}
use lib.IntN.{ℤ, nat_abs}
use Rattle.std.specs.Prelude.{Ok}
use Rattle.building.specs.declared.Building.{Building}
use Rattle.building.specs.declared.Sizes.{Sizes}
use Rattle.building.specs.Building.{sizes}
use Rattle.building.specs.Places.{wall_place}
use Rattle.building.proofs.Accepted.{in_order}
use Rattle.building.proofs.Places.{needs-roof, place-there}
use Rattle.book.specs.declared.Cited.{Cited}
use Rattle.book.specs.Line.{Way}
use Rattle.book.specs.Interpolated.{LiesAt}
use Rattle.book.specs.Walls.{wall_way}
use Rattle.book.specs.Roofs.{part_of}
use Rattle.book.specs.Answer.{cites}
use Rattle.book.specs.Question.{outside_of}
use Rattle.book.specs.Coefficient.{IsCoefficient, on_wall, on_roof, on_f}
use Rattle.book.specs.ByHand.{table_for, column_for, ByHand}
use Rattle.book.proofs.Coefficients.{coefficient-only}
use Rattle.book.proofs.Redone.{redone}
use Rattle.claims.specs.Contract.{Always}
use Rattle.claims.proofs.Contracts as of
use Rattle.claims.proofs.Question.{clash, faultless, answered-so}

-- ---- item 3, the statements

-- "A coefficient question now also answers the two rows it lay between and the exact fraction of the way, in lowest
-- terms; on a row itself .. both are that row and the fraction is 0 over 1."
abbrev pub AnswersCiteRows : Type 0
AnswersCiteRows = Always of.outside.Post (λ κ a r s. (c : Cited) → r ≡ Ok c → wall_place a.1.1.0 ≡ false
    → let b = sizes a.0.building in
    (w : Way) × LiesAt (part_of b) b.along b.across w × (c ≡ cites c.values w))

-- "or where the table has nothing to interpolate": on a wall, the row that its building has
abbrev pub WallsCiteTheirRow : Type 0
WallsCiteTheirRow = Always of.outside.Post (λ κ a r s. (c : Cited) → r ≡ Ok c → wall_place a.1.1.0 ≡ true
    → c ≡ cites c.values (wall_way (sizes a.0.building)))

-- "Students ask where 0.303 came from": the answer, the printed table and the column are enough to work it out again.
abbrev pub AnswersCanBeRedone : Type 0
AnswersCanBeRedone = Always of.outside.Post (λ κ a r s. (c : Cited) → r ≡ Ok c → let b = sizes a.0.building in
    ByHand (table_for b a.1.1.0) (column_for b (nat_abs a.1.0) a.1.1.0) c)

-- ---- the proofs

module _ (s : Sizes) (wind place : ℕ) where
  on-roof : {c : Cited} → IsCoefficient s wind place c → wall_place place ≡ false
      → (w : Way) × LiesAt (part_of s) s.along s.across w × (c ≡ cites c.values w)
  on-roof (on_wall e n) f = clash e f
  on-roof (on_roof {w} e k p r) f = (w, r.lies, refl)
  on-roof (on_f {w} e k p r) f = (w, r.lies, refl)

  on-wall : {c : Cited} → IsCoefficient s wind place c → wall_place place ≡ true → c ≡ cites c.values (wall_way s)
  on-wall (on_wall e n) f = refl
  on-wall (on_roof e k p r) f = clash f e
  on-wall (on_f e k p r) f = clash f e

pub answers-cite-rows : AnswersCiteRows
answers-cite-rows κ a r s p c e =
    let i = (answered-so a.0.year a.0.building a.1.0 a.1.1.0 (sym p ∙ e)).1 in
    on-roof (sizes a.0.building) (nat_abs a.1.0) a.1.1.0 i

pub walls-cite-their-row : WallsCiteTheirRow
walls-cite-their-row κ a r s p c e =
    let i = (answered-so a.0.year a.0.building a.1.0 a.1.1.0 (sym p ∙ e)).1 in
    on-wall (sizes a.0.building) (nat_abs a.1.0) a.1.1.0 i

again : (year : ℤ) (g : Building) (direction : ℤ) (place : ℕ) {c : Cited}
    → outside_of year g direction place ≡ Ok c
    → ByHand (table_for (sizes g) place) (column_for (sizes g) (nat_abs direction) place) c
again year g direction place h =
    let answered = answered-so year g direction place h in
    let q = answered.0 in
    let o = in_order year g (faultless year g direction place q).none in
    rw (coefficient-only (sizes g) o (nat_abs direction) place answered.1)
    (redone (sizes g) o (nat_abs direction) place (λ w. needs-roof g.kind place w (place-there
    g.kind direction place q.there)))

pub answers-can-be-redone : AnswersCanBeRedone
answers-can-be-redone κ a r s p c e = again a.0.year a.0.building a.1.0 a.1.1.0 (sym p ∙ e)
