-- The four passes in one walk, byte by byte, as the code has it: what each pass has met so far stands for all that is
-- before. Only contracts of private functions cite it.
use Rattle.std.specs.Prelude.{ℕ, zero, suc, ◌+◌, Bool, true, false, cond, ◌&&◌, ◌||◌, List, [], ◌∷◌, eqb}
use Rattle.whole.specs.Digits.{is_digit}
use Rattle.mend.specs.declared.walk.Seen.{Seen}
use Rattle.mend.specs.declared.tally.Tally.{Tally}
use Rattle.mend.specs.declared.fill.Position.{Position}
use Rattle.mend.specs.Mended.{Fate, stays, goes, parts_fields, spaces_on, digits_on, next}
use Rattle.mend.specs.Changes.{next_line, next_place}

-- ---- what stands ahead

-- a text without its returns
unfoldable pub clean : List ℕ → List ℕ
clean [] = []
clean (b ∷ s) = cond (eqb b 13) (clean s) (b ∷ clean s)

-- digits up to the field's end, or spaces up to the line's
abbrev pub runs_on : Bool → List ℕ → Bool
runs_on true s = digits_on s
runs_on false s = spaces_on s

abbrev pub ends_run : Bool → ℕ → Bool
ends_run digits b = cond digits (parts_fields b) (eqb b 10)

abbrev pub in_run : Bool → ℕ → Bool
in_run digits b = eqb b 13 || cond digits (is_digit b) (eqb b 32)

-- ---- a byte more

abbrev pub at_start : Seen
at_start = record { two = 10; three = 10; four = 10; lead = true; zeros = false; kind = 0 }

-- behind a byte that every pass has met and that stays
abbrev pub staying : ℕ → Bool → Seen
staying b lead = record { two = b; three = b; four = b; lead = lead; zeros = false; kind = 0 }

abbrev pub return_out : Seen → Seen
return_out w =
    record { two = w.two; three = w.three; four = w.four; lead = w.lead; zeros = w.zeros; kind = 1 }

abbrev pub space_out : Seen → Seen
space_out w = record { two = 32; three = w.three; four = w.four; lead = w.lead; zeros = w.zeros; kind = 2 }

abbrev pub plus_out : Seen → Seen
plus_out w = record { two = 43; three = 43; four = w.four; lead = w.lead; zeros = w.zeros; kind = 3 }

-- whether only digits stand up to the field's end is asked at its first zero, and kept for the others
abbrev pub zero_met : Bool → ℕ → Seen
zero_met zeros kind = record { two = 48; three = 48; four = 48; lead = true; zeros = zeros; kind = kind }

unfoldable pub at_space : Seen → List ℕ → Seen
at_space w s = cond (eqb w.two 32 || spaces_on s) (space_out w) (staying 32 true)

unfoldable pub at_plus : Seen → List ℕ → Seen
at_plus w s = cond (parts_fields w.three && is_digit (next s)) (plus_out w) (staying 43 false)

unfoldable pub at_leading_zero : Bool → List ℕ → Seen
at_leading_zero zeros s = zero_met zeros (cond (zeros && is_digit (next s)) 4 0)

unfoldable pub at_zero : Seen → List ℕ → Seen
at_zero w s =
    cond w.lead (at_leading_zero (cond (eqb w.two 48) w.zeros (digits_on s)) s) (staying 48 false)

-- behind a byte, before a text that has no returns
unfoldable pub seen_with : Seen → ℕ → List ℕ → Seen
seen_with w b s =
    cond (eqb b 13) (return_out w)
    (cond (eqb b 32) (at_space w s)
    (cond (eqb b 43) (at_plus w s)
    (cond (eqb b 48) (at_zero w s)
    (cond (eqb b 45) (staying 45 (parts_fields w.four)) (staying b (parts_fields b))))))

abbrev pub fate_of : ℕ → ℕ → Fate
fate_of b zero = stays b
fate_of b (suc k) = goes (suc k) b

unfoldable pub fates_from : Seen → List ℕ → List Fate
fates_from w [] = []
fates_from w (b ∷ s) = fate_of b (seen_with w b (clean s)).kind ∷ fates_from (seen_with w b (clean s)) s

-- ---- counting and writing

-- how many bytes stay and go, and the last that stays, behind those that came before
unfoldable pub tallied : Tally → List Fate → Tally
tallied t [] = t
tallied t (stays b ∷ fs) = tallied (record { kept = t.kept + 1; taken = t.taken; last = b }) fs
tallied t (goes kind b ∷ fs) = tallied (record { kept = t.kept; taken = t.taken + 1; last = t.last }) fs

abbrev pub nothing_tallied : Tally
nothing_tallied = record { kept = 0; taken = 0; last = 10 }

abbrev pub tally_with : Tally → ℕ → ℕ → Tally
tally_with t b kind =
    cond (eqb kind 0) (record { kept = t.kept + 1; taken = t.taken; last = b })
    (record { kept = t.kept; taken = t.taken + 1; last = t.last })

abbrev pub tally_ended : Tally → Tally
tally_ended t = cond (eqb t.last 10) t (record { kept = t.kept + 1; taken = t.taken + 1; last = t.last })

-- what a byte adds to the text and to the list
abbrev pub added_text : ℕ → ℕ → List ℕ
added_text b kind = cond (eqb kind 0) (b ∷ []) []

abbrev pub added_numbers : Position → ℕ → List ℕ
added_numbers p kind = cond (eqb kind 0) [] (p.line ∷ kind ∷ p.place ∷ [])

abbrev pub onward : Position → ℕ → Position
onward p b = record { line = next_line b p.line; place = next_place b p.place }
