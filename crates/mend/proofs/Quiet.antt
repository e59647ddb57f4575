-- What a pass does not change: a text in which it finds no slip, and what a pass leaves of one.
use Prim.Native.Nat.{ℕ}
use mathlib.Core.Path.{◌≡◌, refl, sym, ap, ◌∙◌}
use mathlib.Core.Bool.{Bool, true, false, true≢false}
use mathlib.Core.List.{List, [], ◌∷◌, map, append-nil}
use Rattle.whole.proofs.Tests.{by-test}
use Rattle.mend.specs.Mended.{Fate, stays, left, Slip, pass, fates, final, mended}
use Rattle.mend.specs.Mended.{stray_return, needless_space, needless_plus, needless_zero}
use Rattle.mend.specs.Changes.{changes_from, next_line, next_place, changes}
use Rattle.mend.proofs.Sifted.{sift, left-stays}

-- a pass takes nothing out of a text
unfoldable pub Quiet : Slip → List ℕ → List ℕ → Type 0
Quiet slip before [] = Unit
Quiet slip before (b ∷ s) = (slip before b s ≡ false) × Quiet slip (b ∷ before) s

-- a text that no pass changes, and that ends in LF if it is not empty
pub record Still (s : List ℕ) : Type 0 where
  pub returns : Quiet stray_return [] s
  pub spaces : Quiet needless_space [] s
  pub pluses : Quiet needless_plus [] s
  pub zeros : Quiet needless_zero [] s
  pub end : final 10 s ≡ 10

quiet_pass : (k : ℕ) (slip : Slip) (before s : List ℕ) → Quiet slip before s
    → pass k slip before (map stays s) ≡ map stays s
unfolding Quiet pass left
quiet_pass k slip before [] q = refl
quiet_pass k slip before (b ∷ s) q =
    rw (left-stays s, q.0) (ap (λ (l : List Fate). stays b ∷ l) (quiet_pass k slip (b ∷ before) s q.1))

nothing-listed : (line place : ℕ) (s : List ℕ) → changes_from false line place (map stays s) ≡ []
unfolding changes_from
nothing-listed line place [] = refl
nothing-listed line place (b ∷ s) = nothing-listed (next_line b line) (next_place b place) s

still-fates : (s : List ℕ) → Still s → fates s ≡ map stays s
unfolding fates
still-fates s h =
    rw (
      quiet_pass 1 stray_return [] s h.returns,
      quiet_pass 2 needless_space [] s h.spaces,
      quiet_pass 3 needless_plus [] s h.pluses,
      quiet_pass 4 needless_zero [] s h.zeros,
    )

pub still-mended : (s : List ℕ) → Still s → (mended s ≡ s) × (changes s ≡ [])
unfolding mended changes
still-mended s h = (
  rw (still-fates s h, left-stays s, h.end) (append-nil s),
  rw (still-fates s h, left-stays s, h.end) (nothing-listed 1 1 s),
)

-- ---- a pass behind another

pub falls : (x y : Bool) → (x ≡ true → y ≡ true) → y ≡ false → x ≡ false
falls true y f e = absurd (true≢false (sym (f refl) ∙ e))
falls false y f e = refl

-- What a test says between what is left before and behind a byte, it says from what stood there, if the two sides are
-- kept alike.
module _ (slip tested : Slip) (Alike : List ℕ → List ℕ → List ℕ → Type 0)
    (on : (c b : List ℕ) (x : ℕ) (s : List ℕ) → Alike c b (x ∷ s) → slip b x s ≡ false → Alike (x ∷ c) (x ∷ b) s)
    (past : (c b : List ℕ) (x : ℕ) (s : List ℕ) → Alike c b (x ∷ s) → slip b x s ≡ true → Alike c (x ∷ b) s)
    (calm : (c b : List ℕ) (x : ℕ) (s : List ℕ) → Alike c b (x ∷ s) → slip b x s ≡ false → tested b x s ≡ false
    → tested c x (sift slip (x ∷ b) s) ≡ false) where
  pub quiet_through : (c b s : List ℕ) → Alike c b s → Quiet tested b s → Quiet tested c (sift slip b s)
  unfolding sift Quiet
  quiet_through c b [] a q = tt
  quiet_through c b (x ∷ s) a q =
      by-test (slip b x s) (λ t. rw t (quiet_through c (x ∷ b) s (past c b x s a t) q.1))
      (λ t. rw t (calm c b x s a t q.0, quiet_through (x ∷ c) (x ∷ b) s (on c b x s a t) q.1))

module _ (slip : Slip) (Alike : List ℕ → List ℕ → List ℕ → Type 0)
    (on : (c b : List ℕ) (x : ℕ) (s : List ℕ) → Alike c b (x ∷ s) → slip b x s ≡ false → Alike (x ∷ c) (x ∷ b) s)
    (past : (c b : List ℕ) (x : ℕ) (s : List ℕ) → Alike c b (x ∷ s) → slip b x s ≡ true → Alike c (x ∷ b) s)
    (calm : (c b : List ℕ) (x : ℕ) (s : List ℕ) → Alike c b (x ∷ s) → slip b x s ≡ false
    → slip c x (sift slip (x ∷ b) s) ≡ false) where
  pub quiet-own : (c b s : List ℕ) → Alike c b s → Quiet slip c (sift slip b s)
  unfolding sift Quiet
  quiet-own c b [] a = tt
  quiet-own c b (x ∷ s) a =
      by-test (slip b x s) (λ t. rw t (quiet-own c (x ∷ b) s (past c b x s a t)))
      (λ t. rw t (calm c b x s a t, quiet-own (x ∷ c) (x ∷ b) s (on c b x s a t)))
