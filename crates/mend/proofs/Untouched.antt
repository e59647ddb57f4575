-- A sheet whose every line is in form is not changed.
use Prim.Native.Nat.{ℕ, zero, suc, ◌+◌, ◌≤◌, ◌<◌}
use mathlib.Core.Path.{◌≡◌, refl, ap, ◌∙◌, subst}
use mathlib.Core.Bool as bool
use mathlib.Core.Bool.{true, false}
use mathlib.Core.List.{List, [], ◌∷◌, ◌++◌, append_assoc}
use native.Mathlib.Omega.{arith}
use lib.Dec.{eqb, leb}
use lib.ListN.{length}
use borrow.Author.Tests.{ne_eqb, leb-true}
use Rattle.whole.specs.Lists.{Every}
use Rattle.whole.proofs.Tests.{by-test, and-true}
use Rattle.whole.specs.Digits.{is_digit, all_digits, digits}
use Rattle.whole.proofs.Digits.{digits-all, digits-begin, digits-lead}
use Rattle.field.specs.declared.Field.{Field}
use Rattle.field.specs.declared.Field.TheVariants.{Bad, Plus, Minus, Letter, Dash}
use Rattle.lines.specs.Lines.{lines_in, field_text, line_text, text_of_lines, InForm, LinesInForm, NotBad}
use Rattle.lines.proofs.Round.{rows-text, rows-form}
use Rattle.job.specs.Carried.{Carried}
use Rattle.job.specs.Walk.{Accepted}
use Rattle.job.proofs.InForm.{accepted-not-bad}
use Rattle.sheet.specs.Sheet.{reading}
use Rattle.mend.specs.Mended.{Slip, last, spaces_on, digits_on, leads, stray_return}
use Rattle.mend.specs.Mended.{needless_space, needless_plus, needless_zero, final, mended}
use Rattle.mend.specs.Changes.{changes}
use Rattle.mend.proofs.Quiet.{Quiet, Still, still-mended}

-- ---- the bytes of a field

pub record InField (b : ℕ) : Type 0 where
  pub return : eqb b 13 ≡ false
  pub plus : eqb b 43 ≡ false
  pub space : eqb b 32 ≡ false
  pub lf : eqb b 10 ≡ false

in-field-from : (b : ℕ) → 45 ≤ b → InField b
in-field-from b h =
    record {
      return = ne_eqb b 13 (λ e. omega arith);
      plus = ne_eqb b 43 (λ e. omega arith);
      space = ne_eqb b 32 (λ e. omega arith);
      lf = ne_eqb b 10 (λ e. omega arith);
    }

digit_low : (b : ℕ) → is_digit b ≡ true → 48 ≤ b
digit_low b t = leb-true 48 b (and-true (leb 48 b) (leb b 57) t).0

in-field-digits : (s : List ℕ) → all_digits s ≡ true → Every InField s
unfolding all_digits
in-field-digits [] a = tt
in-field-digits (b ∷ s) a =
    let e = and-true (is_digit b) (all_digits s) a in
    (in-field-from b (omega (arith, digit_low b e.0)), in-field-digits s e.1)

field-bytes : (f : Field) → InForm f → Every InField (field_text f)
field-bytes Bad h = absurd h
field-bytes (Plus n) h = in-field-digits (digits n) (digits-all n)
field-bytes (Minus n) h = (in-field-from 45 (omega arith), in-field-digits (digits n) (digits-all n))
field-bytes (Letter b) h = (in-field-from b (omega (arith, h.0)), tt)
field-bytes Dash h = (in-field-from 45 (omega arith), tt)

field-some : (f : Field) → InForm f → 0 < length (field_text f)
field-some Bad h = absurd h
field-some (Plus n) h = let b = digits-begin n in omega (arith, ap length b.is)
field-some (Minus n) h = omega arith
field-some (Letter b) h = omega arith
field-some Dash h = omega arith

-- ---- piece by piece

-- what stands before a byte behind a piece
behind_piece : List ℕ → List ℕ → List ℕ
behind_piece [] b = b
behind_piece (x ∷ p) b = behind_piece p (x ∷ b)

-- a piece that has none of the bytes that are taken for slips
module _ (tested : Slip) (P : ℕ → Type 0) (guard : (b : List ℕ) (x : ℕ) (s : List ℕ) → P x → tested b x s ≡ false) where
  quiet-piece : (b p q : List ℕ) → Every P p → Quiet tested (behind_piece p b) q → Quiet tested b (p ++ q)
  unfolding Quiet behind_piece
  quiet-piece b [] q a h = h
  quiet-piece b (x ∷ p) q a h = (guard b x (p ++ q) a.0, quiet-piece (x ∷ b) p q a.1 h)

piece-space : (p b : List ℕ) → 0 < length p → Every InField p → eqb (last (behind_piece p b)) 32 ≡ false
unfolding behind_piece
piece-space [] b h a = absurd (omega arith)
piece-space (x ∷ []) b h a = a.0.space
piece-space (x ∷ y ∷ p) b h a = piece-space (y ∷ p) (x ∷ b) (omega arith) a.1

not-spaces : (p q : List ℕ) → 0 < length p → Every InField p → spaces_on (p ++ q) ≡ false
unfolding spaces_on
not-spaces [] q h a = absurd (omega arith)
not-spaces (x ∷ p) q h a = rw (a.0.lf, a.0.space)

line-not-spaces : (f : Field) (fs : List Field) (q : List ℕ) → InForm f → spaces_on (line_text (f ∷ fs) ++ q) ≡ false
unfolding line_text
line-not-spaces f [] q h = not-spaces (field_text f) q (field-some f h) (field-bytes f h)
line-not-spaces f (g ∷ fs) q h = rw append_assoc (not-spaces (field_text f) _ (field-some f h) (field-bytes f h))

-- ---- from fields to the text

module _ (tested : Slip)
    (field : (f : Field) (b : List ℕ) (sep : ℕ) (q : List ℕ) → InForm f → is_digit sep ≡ false
    → Quiet tested (behind_piece (field_text f) b) (sep ∷ q) → Quiet tested b (field_text f ++ (sep ∷ q)))
    (space : (f : Field) (b s : List ℕ) → InForm f → spaces_on s ≡ false
    → tested (behind_piece (field_text f) b) 32 s ≡ false)
    (lf : (b s : List ℕ) → tested b 10 s ≡ false) where
  line_quiet : (f : Field) (fs : List Field) (b q : List ℕ) → Every InForm (f ∷ fs)
      → ((c : List ℕ) → Quiet tested (10 ∷ c) q) → Quiet tested b (line_text (f ∷ fs) ++ (10 ∷ q))
  unfolding Quiet line_text
  line_quiet f [] b q a k = field f b 10 q a.0 refl (lf _ q, k _)
  line_quiet f (g ∷ fs) b q a k =
      rw append_assoc
      (field f b 32 (line_text (g ∷ fs) ++ (10 ∷ q)) a.0 refl (
        space f b (line_text (g ∷ fs) ++ (10 ∷ q)) a.0 (line-not-spaces g fs (10 ∷ q) a.1.0),
        line_quiet g fs (32 ∷ behind_piece (field_text f) b) q a.1 k,
      ))

  text-quiet : (xs : List (List Field)) (b : List ℕ) → LinesInForm xs → Quiet tested b (text_of_lines xs)
  unfolding Quiet text_of_lines
  text-quiet [] b a = tt
  text-quiet ([] ∷ xs) b a = absurd (omega (arith, a.0.0))
  text-quiet ((f ∷ fs) ∷ xs) b a = line_quiet f fs b (text_of_lines xs) a.0.1 (λ c. text-quiet xs (10 ∷ c) a.1)

-- ---- zeros

-- digits behind which no zero leads
digits-quiet : (b p q : List ℕ) → leads b ≡ false → all_digits p ≡ true → Quiet needless_zero (behind_piece p b) q
    → Quiet needless_zero b (p ++ q)
unfolding Quiet behind_piece all_digits leads
digits-quiet b [] q l a h = h
digits-quiet b (x ∷ p) q l a h =
    let e = and-true (is_digit x) (all_digits p) a in
    let d = digit_low x e.0 in
    let m : eqb x 45 ≡ false = ne_eqb x 45 (λ z. omega arith) in
    let i = in-field-from x (omega arith) in (
      rw l (bool.and-false (eqb x 48)),
      digits-quiet (x ∷ b) p q (by-test (eqb x 48) (λ t. rw t l) (λ t. rw (t, i.space, i.lf, m))) e.1 h,
    )

number-quiet : (n : ℕ) (b q : List ℕ) → 0 < n → Quiet needless_zero (behind_piece (digits n) b) q
    → Quiet needless_zero b (digits n ++ q)
unfolding Quiet behind_piece leads all_digits
number-quiet n b q h k =
    let g = digits-lead n h in
    let e = g.is in
    let z : eqb g.head 48 ≡ false = ne_eqb g.head 48 (λ z. omega (arith, g.least)) in
    let m : eqb g.head 45 ≡ false = ne_eqb g.head 45 (λ z. omega (arith, g.least)) in
    let i = in-field-from g.head (omega (arith, g.least)) in
    let a : all_digits g.rest ≡ true =
    (and-true (is_digit g.head) (all_digits g.rest) (rw e at (digits-all n))).1 in
    rw e (rw z, digits-quiet (g.head ∷ b) g.rest q (rw (z, i.space, i.lf, m)) a (rw e at k))

zeros-field : (f : Field) (b : List ℕ) (sep : ℕ) (q : List ℕ) → InForm f → is_digit sep ≡ false
    → Quiet needless_zero (behind_piece (field_text f) b) (sep ∷ q) → Quiet needless_zero b (field_text f ++ (sep ∷ q))
unfolding Quiet behind_piece digits
zeros-field Bad b sep q h d k = absurd h
zeros-field (Plus zero) b sep q h d k = (rw (d, bool.and-false (digits_on (sep ∷ q))) (bool.and-false (leads b)), k)
zeros-field (Plus (suc n)) b sep q h d k = number-quiet (suc n) b (sep ∷ q) (omega arith) k
zeros-field (Minus n) b sep q h d k = (refl, number-quiet n (45 ∷ b) (sep ∷ q) h.0 k)
zeros-field (Letter c) b sep q h d k = (rw (ne_eqb c 48 (λ e. omega (arith, h.0))), k)
zeros-field Dash b sep q h d k = (refl, k)

-- ---- the whole

text-final : (xs : List (List Field)) → final 10 (text_of_lines xs) ≡ 10
unfolding text_of_lines final
text-final xs = go xs 10 refl
  where
    past : (p : List ℕ) (d : ℕ) (q : List ℕ) → final d (p ++ (10 ∷ q)) ≡ final 10 q
    past [] d q = refl
    past (x ∷ p) d q = past p x q

    go : (ys : List (List Field)) (d : ℕ) → d ≡ 10 → final d (text_of_lines ys) ≡ 10
    go [] d e = e
    go (y ∷ ys) d e = past (line_text y) d (text_of_lines ys) ∙ go ys 10 refl

text-still : (xs : List (List Field)) → LinesInForm xs → Still (text_of_lines xs)
text-still xs a =
    record {
      returns =
          text-quiet stray_return
          (λ f b sep q h d k. quiet-piece stray_return InField (λ b x s p. p.return) b (field_text f) (sep ∷ q)
          (field-bytes f h) k)
          (λ f b s h n. refl) (λ b s. refl) xs [] a;
      spaces =
          text-quiet needless_space
          (λ f b sep q h d k. quiet-piece needless_space InField (λ b x s p. rw p.space) b (field_text f) (sep ∷ q)
          (field-bytes f h) k)
          (λ f b s h n. rw (piece-space (field_text f) b (field-some f h) (field-bytes f h), n)) (λ b s. refl) xs [] a;
      pluses =
          text-quiet needless_plus
          (λ f b sep q h d k. quiet-piece needless_plus InField (λ b x s p. rw p.plus) b (field_text f) (sep ∷ q)
          (field-bytes f h) k)
          (λ f b s h n. refl) (λ b s. refl) xs [] a;
      zeros = text-quiet needless_zero zeros-field (λ f b s h n. refl) (λ b s. refl) xs [] a;
      end = text-final xs;
    }

-- the text of lines in form is the same, with an empty list
pub written-unchanged : (xs : List (List Field)) → LinesInForm xs → (mended (text_of_lines xs) ≡ text_of_lines xs)
    × (changes (text_of_lines xs) ≡ [])
written-unchanged xs a = still-mended (text_of_lines xs) (text-still xs a)

-- a sheet whose every line is in form is the same, with an empty list
pub in-form-unchanged : (s : List ℕ) → Every (Every NotBad) (lines_in s) → (mended s ≡ s) × (changes s ≡ [])
in-form-unchanged s a =
    subst (λ (t : List ℕ). (mended t ≡ t) × (changes t ≡ [])) (rows-text s a)
    (written-unchanged (lines_in s) (rows-form s a))

-- and so is an accepted sheet
pub accepted-unchanged : (s : List ℕ) (c : Carried) → reading s ≡ Accepted c → (mended s ≡ s) × (changes s ≡ [])
unfolding reading
accepted-unchanged s c a = in-form-unchanged s (accepted-not-bad (lines_in s) c a)
