-- A text mended: the slips taken out in four passes, each over what the last one left, and an end added where there
-- is none.
use Rattle.std.specs.Prelude.{ℕ, Bool, true, cond, not, ◌&&◌, ◌||◌, List, [], ◌∷◌, ◌++◌, map, eqb, get_or}
use Rattle.whole.specs.Digits.{is_digit}

-- ---- what becomes of a byte received

-- it stays, or it goes, and the change has a kind
pub data Fate : Type 0 where
  stays : ℕ → Fate
  goes : (kind byte : ℕ) → Fate

unfoldable pub left : List Fate → List ℕ
left [] = []
left (stays b ∷ fs) = b ∷ left fs
left (goes kind b ∷ fs) = left fs

-- whether a byte is a slip, by what stands before it, nearest first, the byte itself, and what stands behind it
abbrev pub Slip : Type 0
Slip = List ℕ → ℕ → List ℕ → Bool

-- a pass takes the slips of one kind out of what is left
unfoldable pub pass : ℕ → Slip → List ℕ → List Fate → List Fate
pass kind slip before [] = []
pass kind slip before (stays b ∷ fs) =
    cond (slip before b (left fs)) (goes kind b) (stays b) ∷ pass kind slip (b ∷ before) fs
pass kind slip before (goes k b ∷ fs) = goes k b ∷ pass kind slip before fs

-- ---- which byte is a slip

-- the byte before, at a text's start as if behind an LF; and the byte behind
abbrev pub last : List ℕ → ℕ
last before = get_or before 0 10

abbrev pub next : List ℕ → ℕ
next behind = get_or behind 0 0

-- a space and an LF part fields
abbrev pub parts_fields : ℕ → Bool
parts_fields b = eqb b 32 || eqb b 10

-- only spaces up to the line's end
unfoldable pub spaces_on : List ℕ → Bool
spaces_on [] = true
spaces_on (b ∷ behind) = eqb b 10 || (eqb b 32 && spaces_on behind)

-- only digits up to the field's end
unfoldable pub digits_on : List ℕ → Bool
digits_on [] = true
digits_on (b ∷ behind) = parts_fields b || (is_digit b && digits_on behind)

-- nothing but zeros, or not even those, since the field opened or since the minus that opened it
unfoldable pub leads : List ℕ → Bool
leads [] = true
leads (b ∷ before) = cond (eqb b 48) (leads before) (parts_fields b || (eqb b 45 && parts_fields (last before)))

-- every carriage return
abbrev pub stray_return : Slip
stray_return before b behind = eqb b 13

-- every space that follows a space or has only spaces up to its line's end
abbrev pub needless_space : Slip
needless_space before b behind = eqb b 32 && (eqb (last before) 32 || spaces_on behind)

-- a plus that opens a field and stands directly before a digit
abbrev pub needless_plus : Slip
needless_plus before b behind = eqb b 43 && (parts_fields (last before) && is_digit (next behind))

-- in a field of digits with at most one minus before them, every leading zero with a digit after it
abbrev pub needless_zero : Slip
needless_zero before b behind = eqb b 48 && (leads before && (digits_on behind && is_digit (next behind)))

-- ---- the mended text

unfoldable pub fates : List ℕ → List Fate
fates s =
    pass 4 needless_zero [] (pass 3 needless_plus [] (pass 2 needless_space [] (pass 1 stray_return [] (map stays s))))

-- the last byte of a text, d where there is none
unfoldable pub final : ℕ → List ℕ → ℕ
final d [] = d
final d (b ∷ s) = final b s

-- it is not empty and does not end in LF
abbrev pub lacks_end : List ℕ → Bool
lacks_end s = not (eqb (final 10 s) 10)

abbrev pub with_end : Bool → List ℕ → List ℕ
with_end added s = s ++ cond added (10 ∷ []) []

abbrev pub ended : List ℕ → List ℕ
ended s = with_end (lacks_end s) s

unfoldable pub mended : List ℕ → List ℕ
mended s = ended (left (fates s))
