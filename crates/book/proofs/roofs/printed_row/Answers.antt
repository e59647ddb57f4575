-- `roofs::printed_row`: the tables of the code are those of the definitions, the gable's before the flat roofs'.
-- the rows of parts, as the code has them
use Prim.Native.Nat.{ℕ, ◌+◌, ◌-◌, ◌<◌}
use mathlib.Core.Path.{◌≡◌, sym, ap, ◌∙◌}
use mathlib.Core.List.{List, [], ◌∷◌, ◌++◌, map}
use native.Mathlib.Omega.{arith}
use lib.ListN.{length, get_or, get_or-append}
use lib.Seq.{get_or-append-add}
use Rattle.book.specs.declared.roofs.Row as coded-rows
use Rattle.book.specs.Row.{Standing}
use Rattle.book.specs.Gable.{low, middle, tall}
use Rattle.book.specs.Flat.{flat_parts}
use Rattle.book.specs.Held.{standing_in, coded_row, held_row}
use Rattle.book.proofs.roofs.printed_row.Goals as goal

abbrev coded : List (List Standing) → List coded-rows.Row
coded parts = map coded_row (standing_in parts)

-- row n of the second of three parts
in-part : (before part after : List coded-rows.Row) (n : ℕ) → n < length part
    → get_or part n (0, 0, []) ≡ get_or (before ++ (part ++ after)) (length before + n) (0, 0, [])
in-part before part after n h =
    sym (get_or-append-add before (part ++ after) n (0, 0, []) ∙ get_or-append part after (0, 0, []) n h)

pub returns-then-n-ge22 : goal.returns-then-n-ge22
returns-then-n-ge22 c =
    let n = c.args.n in
    let q : 22 + (n - 22) ≡ n = omega (arith, c.if-n-ge22.true) in
    c.printed_flat.ensures ∙ ap held_row q

pub returns-then-n-lt7 : goal.returns-then-n-lt7
returns-then-n-lt7 c =
    let rest = coded (middle ∷ tall ∷ flat_parts) in
    sym (get_or-append (coded (low ∷ [])) rest (0, 0, []) c.args.n c.if-n-lt7.true)

pub returns-then-n-lt14 : goal.returns-then-n-lt14
returns-then-n-lt14 c =
    let n = c.args.n in
    let q : 7 + (n - 7) ≡ n = omega (arith, c.if-n-lt7.false) in
    in-part (coded (low ∷ [])) (coded (middle ∷ [])) (coded (tall ∷ flat_parts)) (n - 7)
    (omega (arith, c.if-n-lt7.false, c.if-n-lt14.true))
    ∙ ap held_row q

pub returns : goal.returns
returns c =
    let n = c.args.n in
    let q : 14 + (n - 14) ≡ n = omega (arith, c.if-n-lt14.false) in
    in-part (coded (low ∷ middle ∷ [])) (coded (tall ∷ [])) (coded flat_parts) (n - 14)
    (omega (arith, c.if-n-lt14.false, c.if-n-ge22.false))
    ∙ ap held_row q
