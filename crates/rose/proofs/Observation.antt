-- Laws of a line: what stands on both sides of its first space says all, and its cell is one of 208; and of the
-- Beaufort table.
use Prim.Native.Nat.{ℕ, suc, ◌+◌, ◌≤◌, ◌<◌}
use mathlib.Core.Path.{◌≡◌, refl, ap, ◌∙◌, sym}
use mathlib.Core.List.{List, [], ◌∷◌, map}
use native.Mathlib.Numerals.{add-one}
use native.Mathlib.Omega.{arith}
use lib.Dec.{ltb, leb}
use lib.ListN.{length, get_or, take, drop, drop_of_length-le}
use lib.Seq.{drop-cons}
use borrow.Author.Tests.{le-leb, lt-leb, ltb-true, ltb-false}
use Rattle.whole.proofs.Tests.{by-test}
use Rattle.field.specs.declared.Field.{Field}
use Rattle.field.specs.declared.Field.TheVariants.{Bad, Plus, Minus, Letter, Dash}
use Rattle.field.specs.Field.{field_from}
use Rattle.lines.specs.Lines.{fields_of, NotBad, field_text}
use Rattle.lines.specs.Held.{until}
use Rattle.lines.proofs.Lines.{Free, split-until, split-more, split-last}
use Rattle.lines.proofs.Round.{field_back, field-form, field-free}
use Rattle.rose.specs.Observation.{Said}
use Rattle.std.specs.Prelude.{Ok, Err}
use Rattle.rose.specs.declared.Misread.TheVariants.{OutOfForm, OutOfRange}
use Rattle.rose.specs.Observation.{top_speeds, exceeded, beaufort, cell_number}
use Rattle.rose.specs.Observation.{field_says, together, line_says, cell_in}

-- ---- fields

-- a field in form has no space
field-whole : (s : List ℕ) → NotBad (field_from s) → Free 32 s
field-whole s h =
    let f : Free 32 (field_text (field_from s)) = field-free (field_from s) 32 (omega arith) (field-form s h) in
    rw (field_back s h) at f

bad-says : (top : ℕ) (f : Field) → (NotBad f → ⊥) → field_says top f ≡ Err OutOfForm
bad-says top Bad h = refl
bad-says top (Plus n) h = absurd (h tt)
bad-says top (Minus n) h = absurd (h tt)
bad-says top (Letter b) h = refl
bad-says top Dash h = refl

spaced-says : (top : ℕ) (s : List ℕ) → until 32 s < length s → field_says top (field_from s) ≡ Err OutOfForm
spaced-says top s h = bad-says top (field_from s) (λ n. omega (arith, field-whole s n))

-- ---- lines

together-form : (x : Said) → together x (Err OutOfForm) ≡ Err OutOfForm
together-form (Err OutOfForm) = refl
together-form (Err OutOfRange) = refl
together-form (Ok d) = refl

fields-more : (l : List ℕ) → until 32 l < length l
    → fields_of l ≡ field_from (take (until 32 l) l) ∷ fields_of (drop (suc (until 32 l)) l)
unfolding fields_of
fields-more l h = ap (map field_from) (split-more 32 l h)

fields-last : (l : List ℕ) → length l ≤ until 32 l → fields_of l ≡ field_from l ∷ []
unfolding fields_of
fields-last l h = ap (map field_from) (split-last 32 l h)

fields-some : (l : List ℕ) → (f : Field) × (fs : List Field) × (fields_of l ≡ f ∷ fs)
unfolding fields_of
fields-some l = (_, _, ap (map field_from) (split-until 32 l))

two-say : (d : Field) (q : List ℕ)
    → line_says (d ∷ fields_of q) ≡ together (field_says 359 d) (field_says 1000 (field_from q))
two-say d q =
    by-test (ltb (until 32 q) (length q))
    (λ t.
    let h : until 32 q < length q = ltb-true _ _ t in
    let more = fields-some (drop (suc (until 32 q)) q) in
    ap (λ (fs : List Field). line_says (d ∷ fs))
    (fields-more q h ∙ ap (λ (fs : List Field). field_from (take (until 32 q) q) ∷ fs) more.2)
    ∙ sym (ap (together (field_says 359 d)) (spaced-says 1000 q h) ∙ together-form (field_says 359 d)))
    (λ t. ap (λ (fs : List Field). line_says (d ∷ fs)) (fields-last q (ltb-false _ _ t)))

-- a line with a space, and one without
pub spaced-line : (l : List ℕ) → until 32 l < length l
    → line_says (fields_of l)
    ≡ together (field_says 359 (field_from (take (until 32 l) l)))
    (field_says 1000 (field_from (drop (suc (until 32 l)) l)))
spaced-line l h = ap line_says (fields-more l h) ∙ two-say (field_from (take (until 32 l) l)) (drop (suc
    (until 32 l)) l)

pub one-field-line : (l : List ℕ) → length l ≤ until 32 l → line_says (fields_of l) ≡ Err OutOfForm
one-field-line l h = ap line_says (fields-last l h)

-- ---- the table

module _ (v : ℕ) (ts : List ℕ) (i : ℕ) where
  pub exceeded-here : i < length ts → v ≤ get_or ts i 0 → exceeded v (drop i ts) ≡ 0
  unfolding exceeded
  exceeded-here h e = rw (drop-cons ts i 0) (simp (le-leb _ _ e))

  pub exceeded-on : i < length ts → get_or ts i 0 < v → exceeded v (drop i ts) ≡ suc (exceeded v (drop (i + 1) ts))
  unfolding exceeded
  exceeded-on h e = rw (add-one, drop-cons ts i 0) (simp (lt-leb _ _ e))

  pub exceeded-end : length ts ≤ i → exceeded v (drop i ts) ≡ 0
  unfolding exceeded
  exceeded-end h = rw (drop_of_length-le ts h)

exceeded-le : (v : ℕ) (ts : List ℕ) → exceeded v ts ≤ length ts
unfolding exceeded
exceeded-le v [] = omega arith
exceeded-le v (t ∷ ts) = by-test (leb v t) (λ e. rw e (omega arith)) (λ e. rw e (omega (arith, exceeded-le v ts)))

pub beaufort-small : (v : ℕ) → beaufort v ≤ 12
unfolding beaufort top_speeds
beaufort-small v = exceeded-le v top_speeds

-- ---- cells

cell-small : (d v : ℕ) → cell_number d v < 208
cell-small d v = omega (arith, beaufort-small v)

pub together-small : (x y : Said) → cell_in (together x y) < 208
together-small (Err OutOfForm) y = omega arith
together-small (Err OutOfRange) (Err OutOfForm) = omega arith
together-small (Err OutOfRange) (Err OutOfRange) = omega arith
together-small (Err OutOfRange) (Ok v) = omega arith
together-small (Ok d) (Err OutOfForm) = omega arith
together-small (Ok d) (Err OutOfRange) = omega arith
together-small (Ok d) (Ok v) = cell-small d v

pub line_small : (fs : List Field) → cell_in (line_says fs) < 208
line_small [] = omega arith
line_small (d ∷ []) = omega arith
line_small (d ∷ v ∷ []) = together-small (field_says 359 d) (field_says 1000 v)
line_small (d ∷ v ∷ f ∷ fs) = omega arith
