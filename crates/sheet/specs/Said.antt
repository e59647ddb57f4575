-- What a line says as numbers, and how a plain one stands in a text. Only contracts of private functions cite it.
use Rattle.std.specs.Prelude.{ℕ, zero, suc, ◌+◌, ◌-◌, ◌*◌, ◌^◌, ◌≤◌, ◌<◌, ◌≡◌, Bool, true, false, List, [], ◌∷◌, ◌++◌}
use Rattle.std.specs.Prelude.{map, ℤ, pos, negsuc, nat_abs, length, get_or, drop, Result, Ok, Err}
use Rattle.std.proofs.lemmas.List.Edits.{sets}
use Rattle.whole.specs.Lists.{Every}
use Rattle.whole.specs.Digits.{digits, decimal}
use Rattle.field.specs.declared.Field.{Field}
use Rattle.field.specs.declared.Field.TheVariants.{Plus, Minus}
use Rattle.lines.specs.declared.Line.{Line}
use Rattle.lines.specs.Lines.{field_text, line_text, InForm}
use Rattle.lines.specs.Held.{held, line_at}
use Rattle.building.specs.Year.{has_heights}
use Rattle.building.specs.declared.Building.{Building}
use Rattle.entry.specs.declared.Wind.{Wind}
use Rattle.entry.specs.declared.Step.{Step}
use Rattle.entry.specs.Says.{number, size, mark, letter, at, face_of}
use Rattle.entry.specs.Flat.{per_face, numbers_of}
use Rattle.rules.specs.declared.Before.{Before}
use Rattle.rules.specs.declared.Section.{Section}
use Rattle.rules.specs.declared.Section.TheVariants.{«V», B, W, I, P, F}
use Rattle.rules.specs.declared.Kind.TheVariants.{Count, Entry}
use Rattle.rules.specs.declared.FieldForm.TheVariants.{Mark}
use Rattle.rules.specs.Form.{has_form, in_form}
use Rattle.rules.specs.Sections.{forms, line_fault}
use Rattle.sheet.specs.declared.plainly.Numbers.{Numbers}
use Rattle.sheet.specs.declared.plainly.FaceLine.{FaceLine}
use Rattle.sheet.specs.declared.said.Counted.{Counted}

-- the numbers of a line's six fields, 0 for one that it has not
abbrev pub six_numbers : List Field → List ℤ
six_numbers fs =
    number (at fs 0)
    ∷ number (at fs 1)
    ∷ number (at fs 2)
    ∷ number (at fs 3)
    ∷ number (at fs 4)
    ∷ number (at fs 5)
    ∷ []

-- those of an entry: of a face in the order in which faces are laid
abbrev pub says_of : Section → Bool → List Field → List ℤ
says_of «V» heights fs = six_numbers fs
says_of B heights fs = six_numbers fs
says_of W heights fs = six_numbers fs
says_of I heights fs = six_numbers fs
says_of P heights fs = six_numbers fs
says_of F heights fs = numbers_of (face_of heights fs)

-- the building, the wind and the step that numbers say
abbrev pub building_in : List ℤ → Building
building_in v =
    record {
      h = get_or v 0 (pos 0);
      a = get_or v 1 (pos 0);
      b = get_or v 2 (pos 0);
      density = get_or v 3 (pos 0);
      kind = get_or v 4 (pos 0);
      x = get_or v 5 (pos 0);
    }

abbrev pub wind_in : List ℤ → Wind
wind_in v = record { direction = get_or v 0 (pos 0); speed = get_or v 1 (pos 0) }

abbrev pub step_in : List ℤ → Step
step_in v = record { height = get_or v 0 (pos 0); factor = get_or v 1 (pos 0) }

-- what is said where no fault is, and the fault where one is
abbrev pub unless : {A : Type 0} → ℕ → A → Result A ℕ
unless zero x = Ok x
unless (suc fault) x = Err (suc fault)

-- what a line says as an entry of a section, and as its count line
abbrev pub entry_said : Section → Before → Line → Result Numbers ℕ
entry_said t b x =
    unless (line_fault (Entry t) b (held x))
    (record { next = x.next; number = says_of t (has_heights b.year) (held x) })

abbrev pub count_said : Section → Before → Line → Result Counted ℕ
count_said t b x =
    unless (line_fault (Count t) b (held x)) (record { next = x.next; count = size (at (held x) 1) })

-- ---- a plain line in a text

-- a number as a field, and one of at most seven digits
abbrev pub number_field : ℤ → Field
number_field (pos n) = Plus n
number_field (negsuc n) = Minus (suc n)

abbrev pub Short : ℤ → Type 0
Short z = nat_abs z < 10 ^ 7

-- every byte of it but the last has one behind it
abbrev pub Ended : List ℕ → Type 0
Ended s = get_or s (length s - 1) 0 ≡ 10

-- the digits of n at a place, the byte x behind them, and then the rest; the text goes on where x is no LF
pub record DigitsStand (s : List ℕ) (from n x next : ℕ) : Type 0 where
  pub within : next ≤ length s
  pub text : drop from s ≡ digits n ++ (x ∷ drop next s)
  pub goes_on : (x ≡ 10 → ⊥) → next < length s

-- the number z at a place, the byte x behind it, and then the rest
pub record NumberStands (s : List ℕ) (from : ℕ) (z : ℤ) (x next : ℕ) : Type 0 where
  pub within : next ≤ length s
  pub short : Short z
  pub text : drop from s ≡ decimal z ++ (x ∷ drop next s)
  pub goes_on : (x ≡ 10 → ⊥) → next < length s

-- the mark z of a face, a dash or a number, and a space behind it
pub record MarkStands (s : List ℕ) (from : ℕ) (z : ℤ) (next : ℕ) : Type 0 where
  pub field : Field
  pub formed : InForm field
  pub marks : has_form Mark field ≡ true
  pub says : mark field ≡ z
  pub text : drop from s ≡ field_text field ++ (32 ∷ drop next s)
  pub goes_on : next < length s

-- its height, where faces have one
abbrev pub HeightStands : Bool → List ℕ → ℕ → ℤ → ℕ → Type 0
HeightStands true s from z next = NumberStands s from z 32 next
HeightStands false s from z next = (from ≡ next) × (z ≡ pos 0)

-- from a place on stand these numbers, and then the line ends
abbrev pub NumbersStand : List ℕ → ℕ → List ℤ → ℕ → Type 0
NumbersStand s from zs next =
    (drop from s ≡ line_text (map number_field zs) ++ (10 ∷ drop next s)) × Every Short zs

-- a line in form that begins at a place and says these numbers
abbrev pub PlainLine : Section → Bool → List ℕ → ℕ → Numbers → Type 0
PlainLine t heights s from w =
    ((line_at s from).next ≡ w.next)
    × (in_form (forms heights (Entry t)) (held (line_at s from)) ≡ true)
    × (w.number ≡ says_of t heights (held (line_at s from)))
    × (letter (at (held (line_at s from)) 0) ≤ 90)

-- a face line in form that begins at a place
abbrev pub PlainFace : Bool → List ℕ → ℕ → FaceLine → Type 0
PlainFace heights s from r =
    ((line_at s from).next ≡ r.next)
    × (in_form (forms heights (Entry F)) (held (line_at s from)) ≡ true)
    × (r.face ≡ face_of heights (held (line_at s from)))

-- so many face lines in order from a place on, and their faces put into a list behind the first n
abbrev pub FacesRead : List ℕ → Before → ℕ → ℕ → ℕ → List ℤ → ℕ → List ℤ → Type 0
FacesRead s b zero from n list next after = (from ≡ next) × (list ≡ after)
FacesRead s b (suc k) from n list next after =
    (0 ≡ line_fault (Entry F) b (held (line_at s from)))
    × FacesRead s b k (line_at s from).next (n + 1)
    (sets list (per_face * n) (numbers_of (face_of (has_heights b.year) (held (line_at s from))))) next after
