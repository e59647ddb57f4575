-- How many bytes a line has, by its fields: each with a space or the LF after it, and at most 8 where it is in form.
use Prim.Native.Nat.{ℕ, suc, ◌+◌, ◌*◌, ◌≤◌, ◌<◌}
use mathlib.Core.Path.{◌≡◌, refl, ap, ◌∙◌, sym}
use mathlib.Core.Logic.{◌⊎◌, ⊎_elim, inl, inr}
use mathlib.Core.List.{List, [], ◌∷◌, map}
use native.Mathlib.Omega.{arith}
use lib.Dec.{eqb}
use lib.ListN.{length, get_or, length-map}
use Rattle.whole.proofs.Tests.{by-test}
use Rattle.field.specs.declared.Field.{Field}
use Rattle.field.specs.declared.Field.TheVariants.{Bad, Plus, Minus, Letter, Dash}
use Rattle.field.specs.Field.{field_from}
use Rattle.whole.specs.Lists.{Every}
use Rattle.lines.specs.Lines.{onto, split, fields_of, field_text, NotBad}
use Rattle.lines.proofs.Round.{field_back, field-form, field-length}

-- ---- the parts of a line

-- each part with one byte after it
abbrev spread : List (List ℕ) → ℕ
spread [] = 0
spread (p ∷ ps) = length p + 1 + spread ps

spread-onto : (x : ℕ) (ps : List (List ℕ)) → 0 < spread ps → spread (onto x ps) ≡ suc (spread ps)
spread-onto x [] h = absurd (omega arith)
spread-onto x (p ∷ ps) h = omega arith

split-spread : (b : ℕ) (s : List ℕ) → spread (split b s) ≡ length s + 1
unfolding split
split-spread b [] = refl
split-spread b (x ∷ s) =
    let r = split-spread b s in
    by-test (eqb x b) (λ t. rw t (omega arith)) (λ t. rw t (spread-onto x (split b s) (omega arith) ∙ omega arith))

-- the same by the fields that they are, where all are in form
abbrev pub field_bytes : List Field → ℕ
field_bytes [] = 0
field_bytes (f ∷ fs) = length (field_text f) + 1 + field_bytes fs

parts-bytes : (ps : List (List ℕ)) → Every NotBad (map field_from ps) → spread ps ≡ field_bytes (map field_from ps)
parts-bytes [] a = refl
parts-bytes (p ∷ ps) a = omega (arith, ap length (field_back p a.0), parts-bytes ps a.1)

pub line-bytes : (l : List ℕ) → Every NotBad (fields_of l) → length l + 1 ≡ field_bytes (fields_of l)
unfolding fields_of
line-bytes l a = sym (split-spread 32 l) ∙ parts-bytes (split 32 l) a

-- ---- a line in form

-- a place of a list of fields that is out of form
pub record BadAt (fs : List Field) : Type 0 where
  pub place : ℕ
  pub within : place < length fs
  pub bad : get_or fs place Bad ≡ Bad

is-bad : (f : Field) → (f ≡ Bad) ⊎ NotBad f
is-bad Bad = inl refl
is-bad (Plus n) = inr tt
is-bad (Minus n) = inr tt
is-bad (Letter b) = inr tt
is-bad Dash = inr tt

parts-short : (ps : List (List ℕ)) → BadAt (map field_from ps) ⊎ (spread ps ≤ 9 * length ps)
parts-short [] = inr (omega arith)
parts-short (p ∷ ps) =
    ⊎_elim (λ b. inl (record { place = 0; within = omega arith; bad = b }))
    (λ n. ⊎_elim (λ b. inl (record { place = suc b.place; within = omega (arith, b.within); bad = b.bad }))
    (λ r. inr (omega (arith, ap length (field_back p n), field-length (field_from p) (field-form p n))))
    (parts-short ps))
    (is-bad (field_from p))

-- a line has a field out of form, or at most 8 bytes for each and one more between them
pub line-short : (l : List ℕ) → BadAt (fields_of l) ⊎ (length l + 1 ≤ 9 * length (fields_of l))
unfolding fields_of
line-short l =
    ⊎_elim inl (λ r. inr (omega (arith, split-spread 32 l, length-map (split 32 l) field_from)))
    (parts-short (split 32 l))
