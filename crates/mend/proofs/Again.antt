-- A mended text mended again is the same, with an empty list.
use Prim.Native.Nat.{ℕ}
use mathlib.Core.Path.{◌≡◌, refl, ◌∙◌}
use mathlib.Core.Bool.{false}
use mathlib.Core.List.{List, [], ◌∷◌, ◌++◌, append-nil}
use lib.Dec.{eqb}
use borrow.Author.Tests.{eqb-true}
use Rattle.whole.proofs.Tests.{by-test}
use Rattle.whole.specs.Digits.{is_digit}
use Rattle.mend.specs.Mended.{left, Slip, next, spaces_on, digits_on, fates, final, ended, mended}
use Rattle.mend.specs.Mended.{stray_return, needless_space, needless_plus, needless_zero}
use Rattle.mend.specs.Changes.{changes}
use Rattle.mend.proofs.Sifted.{sift, left-pass, left-stays}
use Rattle.mend.proofs.Quiet.{Quiet, Still, still-mended}
use Rattle.mend.proofs.QuietPasses.{spaces-through, pluses-through, plus-digit, plus-own, zero-digit, zero-next}
use Rattle.mend.proofs.QuietPasses.{zero-own, returns_through, return-own, space-own}

-- ---- an end added

module _ (tested : Slip) (same : (b : List ℕ) (x : ℕ) (s : List ℕ) → tested b x (s ++ (10 ∷ [])) ≡ tested b x s)
    (none : (b : List ℕ) → tested b 10 [] ≡ false) where
  quiet-end : (b s : List ℕ) → Quiet tested b s → Quiet tested b (s ++ (10 ∷ []))
  unfolding Quiet
  quiet-end b [] q = (none b, tt)
  quiet-end b (x ∷ s) q = (same b x s ∙ q.0, quiet-end (x ∷ b) s q.1)

  quiet-ended : (s : List ℕ) → Quiet tested [] s → Quiet tested [] (ended s)
  quiet-ended s q = by-test (eqb (final 10 s) 10) (λ t. rw (t, append-nil) q) (λ t. rw t (quiet-end [] s q))

spaces-end : (s : List ℕ) → spaces_on (s ++ (10 ∷ [])) ≡ spaces_on s
unfolding spaces_on
spaces-end [] = refl
spaces-end (b ∷ s) = rw (spaces-end s)

digits-end : (s : List ℕ) → digits_on (s ++ (10 ∷ [])) ≡ digits_on s
unfolding digits_on
digits-end [] = refl
digits-end (b ∷ s) = rw (digits-end s)

next-end : (s : List ℕ) → is_digit (next (s ++ (10 ∷ []))) ≡ is_digit (next s)
next-end [] = refl
next-end (b ∷ s) = refl

final-end : (d : ℕ) (s : List ℕ) → final d (s ++ (10 ∷ [])) ≡ 10
unfolding final
final-end d [] = refl
final-end d (b ∷ s) = final-end b s

ended-final : (s : List ℕ) → final 10 (ended s) ≡ 10
ended-final s = by-test (eqb (final 10 s) 10) (λ t. rw (t, append-nil) (eqb-true _ _ t)) (λ t. rw t (final-end 10 s))

-- ---- the mended text

pub left-fates : (s : List ℕ)
    → left (fates s) ≡ sift needless_zero [] (sift needless_plus [] (sift needless_space [] (sift stray_return [] s)))
unfolding fates
left-fates s =
    rw (
      left-pass 4 needless_zero [],
      left-pass 3 needless_plus [],
      left-pass 2 needless_space [],
      left-pass 1 stray_return [],
      left-stays s,
    )

pub mended-still : (s : List ℕ) → Still (mended s)
unfolding mended
mended-still s =
    let t1 = sift stray_return [] s in
    let t2 = sift needless_space [] t1 in
    let t3 = sift needless_plus [] t2 in
    let t4 = sift needless_zero [] t3 in
    rw (left-fates s)
    (record {
      returns =
          quiet-ended stray_return (λ b x s. refl) (λ b. refl) t4
          (returns_through needless_zero t3
          (returns_through needless_plus t2 (returns_through needless_space t1 (return-own s))));
      spaces =
          quiet-ended needless_space (λ b x s. rw (spaces-end s)) (λ b. refl) t4
          (spaces-through needless_zero zero-digit t3 (spaces-through needless_plus plus-digit t2 (space-own t1)));
      pluses =
          quiet-ended needless_plus (λ b x s. rw (next-end s)) (λ b. refl) t4
          (pluses-through needless_zero zero-digit (λ b s. zero-next (43 ∷ b) s) t3 (plus-own t2));
      zeros = quiet-ended needless_zero (λ b x s. rw (digits-end s, next-end s)) (λ b. refl) t4 (zero-own t3);
      end = ended-final t4;
    })

-- a mended sheet mended again is the same, with an empty list
pub mended-again : (s : List ℕ) → (mended (mended s) ≡ mended s) × (changes (mended s) ≡ [])
mended-again s = still-mended (mended s) (mended-still s)
