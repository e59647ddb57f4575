-- Worked texts: what each is mended to, and the changes as line, kind and place.
use Prim.Native.String.{String}
use mathlib.Core.Path.{◌≡◌, refl}
use mathlib.Core.List.{List, [], ◌∷◌, map}
use Rattle.whole.proofs.Quoted.{bytes}
use Rattle.mend.specs.Mended.{left, pass, spaces_on, digits_on, leads, fates, final, mended}
use Rattle.mend.specs.Changes.{Change, change, changes_from, changes}
use Rattle.mend.specs.Restored.{undone, restored}

record Case : Type 0 where
  text : String
  becomes : String
  by : List Change

abbrev case : String → String → List Change → Case
case text becomes by = record { text = text; becomes = becomes; by = by }

abbrev unchanged : String → Case
unchanged text = case text text []

abbrev cases : List Case
cases =
    -- what stays: nothing, a doubled plus, a minus with a zero, a lone plus, a plus next to a minus
    unchanged ""
    ∷ unchanged "++5\n"
    ∷ unchanged "-0\n"
    ∷ unchanged "+\n"
    ∷ unchanged "+-5\n"
    ∷ unchanged "-+5\n"
    -- zeros in a field that has other bytes than digits behind one minus
    ∷ unchanged "00A\n"
    ∷ unchanged "--07\n"
    ∷ unchanged "0\n"
    -- a plus before a digit, and leading zeros, behind a plus too
    ∷ case "+5\n" "5\n" (change 1 3 1 ∷ [])
    ∷ case "+5A\n" "5A\n" (change 1 3 1 ∷ [])
    ∷ case "007\n" "7\n" (change 1 4 1 ∷ change 1 4 2 ∷ [])
    ∷ case "-007\n" "-7\n" (change 1 4 2 ∷ change 1 4 3 ∷ [])
    ∷ case "-00\n" "-0\n" (change 1 4 2 ∷ [])
    ∷ case "+00\n" "0\n" (change 1 3 1 ∷ change 1 4 2 ∷ [])
    -- spaces: the first of two stays, and none before a line's end; one at a line's start does
    ∷ case "A  0\n" "A 0\n" (change 1 2 3 ∷ [])
    ∷ case "A 0  \n" "A 0\n" (change 1 2 4 ∷ change 1 2 5 ∷ [])
    ∷ case " \n A\n" "\n A\n" (change 1 2 1 ∷ [])
    -- returns, which part nothing: a byte before and a byte behind one stand next to each other
    ∷ case "5\r\n6\r\n" "5\n6\n" (change 1 1 2 ∷ change 2 1 2 ∷ [])
    ∷ case "+\r5\n" "5\n" (change 1 3 1 ∷ change 1 1 2 ∷ [])
    ∷ case "A \r 1\n" "A 1\n" (change 1 1 3 ∷ change 1 2 4 ∷ [])
    -- an end, one past the last byte received; and none to nothing
    ∷ case "7" "7\n" (change 1 5 2 ∷ [])
    ∷ case "5\n7 \r" "5\n7\n" (change 2 2 2 ∷ change 2 1 3 ∷ change 2 5 4 ∷ [])
    ∷ case " \r " "" (change 1 2 1 ∷ change 1 1 2 ∷ change 1 2 3 ∷ [])
    ∷ []

texts-right : map (λ c. mended (bytes c.text)) cases ≡ map (λ c. bytes c.becomes) cases
unfolding mended fates pass left final spaces_on digits_on leads
texts-right = refl

lists-right : map (λ c. changes (bytes c.text)) cases ≡ map (λ c. c.by) cases
unfolding changes changes_from fates pass left final spaces_on digits_on leads
lists-right = refl

-- and undone again
undone-right : map (λ c. restored (bytes c.becomes) c.by) cases ≡ map (λ c. bytes c.text) cases
unfolding restored undone
undone-right = refl
