-- Lines that are accepted hold at least one field each, and every field is in form: `lines` gives them back from
-- their text, and their text from them.
use Prim.Native.Nat.{ℕ, zero, suc, ◌+◌, ◌≤◌, ◌<◌}
use mathlib.Core.Path.{◌≡◌, subst, sym}
use mathlib.Core.Bool.{false, cond, not}
use mathlib.Core.List.{List, [], ◌∷◌, ◌++◌}
use native.Mathlib.Omega.{arith}
use lib.ListN.{length}
use borrow.Author.Tests.{not-false}
use Rattle.whole.specs.Lists.{Every}
use Rattle.whole.proofs.Lists.{every-by}
use Rattle.field.specs.declared.Field.{Field}
use Rattle.field.specs.declared.Field.TheVariants.{Bad, Plus, Minus, Letter, Dash}
use Rattle.lines.specs.Lines.{NotBad, InForm, LinesInForm}
use Rattle.building.specs.Places.{A, H}
use Rattle.building.specs.Test.{among}
use Rattle.building.proofs.Places.{among-yes}
use Rattle.rules.specs.declared.Before.{Before}
use Rattle.rules.specs.declared.FieldForm.TheVariants.{Number, Mark}
use Rattle.rules.specs.declared.Section.{Section}
use Rattle.rules.specs.declared.Section.TheVariants.{«V», B, W, I, P, F}
use Rattle.rules.specs.declared.Kind.{Kind}
use Rattle.rules.specs.declared.Kind.TheVariants.{Count, Entry}
use Rattle.job.specs.Carried.{Carried, nothing, before, most_faces}
use Rattle.building.specs.Year.{has_heights}
use Rattle.entry.specs.Says as say
use Rattle.entry.specs.Says.{at}
use Rattle.rules.specs.Form.{number_forms}
use Rattle.rules.specs.Sections.{about, forms_by, line_fault}
use Rattle.job.specs.Walk.{calls, learn, Accepted, walk, opening, sheet, read_lines}
use Rattle.rules.proofs.Form.{Formed, letter, plus, minus, dash, mark, AllFormed, none, more}
use Rattle.rules.proofs.Line.{in_order}
use Rattle.job.proofs.Walk.{accepted-line, accepted-next, accepted-no-more}
use Rattle.job.proofs.Sections.{count-says}
use Rattle.job.proofs.Room.{most-roomed}

-- a line of at least one field, each in form
abbrev LineInForm : List Field → Type 0
LineInForm x = (0 < length x) × Every InForm x

number-form : {f : Field} → Formed Number f → InForm f
number-form (plus h) = omega arith
number-form (minus p h) = (p, omega arith)

numbers-form : (n : ℕ) {fs : List Field} → AllFormed (number_forms n) fs → Every InForm fs
numbers-form zero none = tt
numbers-form (suc n) (more h a) = (number-form h, numbers-form n a)

mark-form : {f : Field} → Formed Mark f → InForm f
mark-form dash = tt
mark-form (mark h) = number-form h

face-form : (b : Before) {x : List Field} → AllFormed (forms_by b (Entry F)) x
    → not (among A H (say.letter (at x 0))) ≡ false → LineInForm x
face-form b (more (letter {b = l}) (more m a)) e =
    let t = among-yes A H l (not-false _ e) in
    (omega arith, ((t.0, omega (arith, t.1)), (mark-form m, numbers-form (cond (has_heights b.year) 4 3) a)))

some_number : (n : ℕ) {fs : List Field} → AllFormed (number_forms (suc n)) fs → LineInForm fs
some_number n (more h a) = (omega arith, numbers-form (suc n) (more h a))

letter-form : (s : Section) → InForm (Letter (about s).letter)
letter-form «V» = (omega arith, omega arith)
letter-form B = (omega arith, omega arith)
letter-form W = (omega arith, omega arith)
letter-form I = (omega arith, omega arith)
letter-form P = (omega arith, omega arith)
letter-form F = (omega arith, omega arith)

line-form : (k : Kind) (b : Before) (x : List Field) → line_fault k b x ≡ 0 → LineInForm x
line-form (Count s) b x z =
    let t = count-says s b x z in
    let few : t.count ≤ most_faces = omega (arith, t.counted.high, most-roomed b.year s) in
    subst LineInForm (sym t.is) (omega arith, (letter-form s, (omega (arith, few), tt)))
line-form (Entry «V») b x z = some_number 0 (in_order (Entry «V») b x z).formed
line-form (Entry B) b x z = some_number 5 (in_order (Entry B) b x z).formed
line-form (Entry W) b x z = some_number 1 (in_order (Entry W) b x z).formed
line-form (Entry I) b x z = some_number 0 (in_order (Entry I) b x z).formed
line-form (Entry P) b x z = some_number 1 (in_order (Entry P) b x z).formed
line-form (Entry F) b x z = let o = in_order (Entry F) b x z in face-form b o.formed o.none.0

walk-form : (ks : List Kind) (c e : Carried) (line : ℕ) (xs : List (List Field)) → walk ks c line xs ≡ Accepted e
    → LinesInForm xs
walk-form ks c e line [] a = tt
walk-form [] c e line (x ∷ xs) a = absurd (accepted-no-more c e line x xs a)
walk-form (k ∷ ks) c e line (x ∷ xs) a = (
  line-form k (before c) x (accepted-line k ks c line x xs a),
  walk-form (calls k x ++ ks) (learn k x c) e (line + 1) xs (accepted-next k ks c line x xs a),
)

pub accepted-in-form : (xs : List (List Field)) (c : Carried) → read_lines xs ≡ Accepted c → LinesInForm xs
unfolding read_lines
accepted-in-form xs c a = walk-form (sheet (opening xs)) nothing c 1 xs a

form-not-bad : (f : Field) → InForm f → NotBad f
form-not-bad Bad h = h
form-not-bad (Plus n) h = tt
form-not-bad (Minus n) h = tt
form-not-bad (Letter b) h = tt
form-not-bad Dash h = tt

pub accepted-not-bad : (xs : List (List Field)) (c : Carried) → read_lines xs ≡ Accepted c → Every (Every NotBad) xs
accepted-not-bad xs c a = every-by (λ x h. every-by form-not-bad x h.1) xs (accepted-in-form xs c a)
