-- Whether one of a list has something: gone through one by one, and because one has it.
use mathlib.Core.Path.{◌≡◌, refl, sym, ap, ◌∙◌}
use mathlib.Core.Logic.{⊎_elim}
use mathlib.Core.Bool.{Bool, true, false, ◌||◌}
use mathlib.Core.List.Memᴰ
use mathlib.Core.List.{List, [], ◌∷◌, ◌++◌, Memᴰ}
use Prim.Native.Nat.{ℕ, ◌+◌, ◌<◌}
use lib.ListN.{length, take, get_or}
use Rattle.std.proofs.lemmas.List.{take_more}
use Rattle.whole.proofs.Tests.{or-none, or_assoc}
use Rattle.plain.specs.Plain.{any_of}

module _ {A : Type 0} (has : A → Bool) where
  any-snoc : (l : List A) (x : A) → any_of has (l ++ (x ∷ [])) ≡ (any_of has l || has x)
  unfolding any_of
  any-snoc [] x = sym (or-none (has x))
  any-snoc (y ∷ l) x = ap (λ t. has y || t) (any-snoc l x) ∙ or_assoc (has y) (any_of has l) (has x)

  -- the one at place i, after those before it
  pub any_next : (l : List A) (d : A) (i : ℕ) → i < length l
      → any_of has (take (i + 1) l) ≡ (any_of has (take i l) || has (get_or l i d))
  any_next l d i h = ap (any_of has) (take_more l i d h) ∙ any-snoc (take i l) (get_or l i d)

  pub any-member : (l : List A) (x : A) → Memᴰ x l → has x ≡ true → any_of has l ≡ true
  unfolding any_of
  any-member [] x m e = absurd (Memᴰ.not-nil m)
  any-member (y ∷ l) x m e =
      ⊎_elim (λ q. here (ap has (sym q) ∙ e)) (λ n. there (has y) (any-member l x n e)) (Memᴰ.cases_cons m)
    where
      here : has y ≡ true → (has y || any_of has l) ≡ true
      here t = rw t

      there : (t : Bool) → any_of has l ≡ true → (t || any_of has l) ≡ true
      there true q = refl
      there false q = q
