-- The forces at a choice: one face more, what stands for the faces, and that they add up to the choice's total.
use mathlib.Core.Path.{◌≡◌, refl, sym, ap, ◌∙◌}
use mathlib.Core.List.{List, [], ◌∷◌, ◌++◌, map, Memᴰ}
use Prim.Native.Nat.{ℕ, suc, ◌+◌, ◌≤◌, ◌<◌}
use native.Mathlib.Omega.{arith}
use lib.IntN.{ℤ, pos, ◌+ℤ◌}
use lib.ListN.{length, get_or, set}
use Rattle.whole.specs.Lists.{first_of}
use Rattle.whole.proofs.Lists.{first_of-length, first_of-more}
use Rattle.whole.proofs.FirstOf.{first_of-next}
use Rattle.worst.specs.Cases.{total, Chosen}
use Rattle.sharing.specs.Column.{added_up}
use Rattle.column.specs.Column.{at_choice}

module _ {F A : Type 0} (force : F → A → ℤ) where
  pub choice-length : (fs : List F) (ks : List A) → length fs ≤ length ks → length (at_choice force fs ks) ≡ length fs
  unfolding at_choice
  choice-length [] ks h = refl
  choice-length (f ∷ fs) [] h = absurd (omega arith)
  choice-length (f ∷ fs) (k ∷ ks) h = omega (arith, choice-length fs ks (omega arith))

  choice-snoc : (f : F) (k : A) (fs : List F) (ks : List A) → length fs ≡ length ks
      → at_choice force fs ks ++ (force f k ∷ []) ≡ at_choice force (fs ++ (f ∷ [])) (ks ++ (k ∷ []))
  unfolding at_choice
  choice-snoc f k [] [] e = refl
  choice-snoc f k [] (a ∷ ks) e = absurd (omega arith)
  choice-snoc f k (g ∷ fs) [] e = absurd (omega arith)
  choice-snoc f k (g ∷ fs) (a ∷ ks) e = ap (λ l. force g a ∷ l) (choice-snoc f k fs ks (omega arith))

  -- alternatives past the last face count for nothing
  pub choice-past : (fs : List F) (ks more : List A) → length fs ≡ length ks
      → at_choice force fs (ks ++ more) ≡ at_choice force fs ks
  unfolding at_choice
  choice-past [] [] more e = refl
  choice-past [] (k ∷ ks) more e = refl
  choice-past (f ∷ fs) [] more e = absurd (omega arith)
  choice-past (f ∷ fs) (k ∷ ks) more e = ap (λ l. force f k ∷ l) (choice-past fs ks more (omega arith))

  -- in arrays, gone through one by one
  module _ (df : F) (dk : A) (fs : List F) (ks : List A) where
    abbrev pub up_to : ℕ → List ℤ
    up_to i = at_choice force (first_of df i fs) (first_of dk i ks)

    pub choice-next : (n i : ℕ) → i < n
        → set (first_of (pos 0) n (up_to i)) i (force (get_or fs i df) (get_or ks i dk)) ≡ first_of (pos 0) n (up_to
        (i + 1))
    choice-next n i h =
        let x = first_of-length df i fs in
        let y = first_of-length dk i ks in
        let long : length (up_to i) ≡ i = choice-length (first_of df i fs) (first_of dk i ks) (omega (arith, x, y))
        ∙ x in
        let one = force (get_or fs i df) (get_or ks i dk) in
        ap (λ k. set (first_of (pos 0) n (up_to i)) k one) (sym long)
        ∙ sym (first_of-more (pos 0) n (up_to i) one (omega (arith, long)))
        ∙ ap (first_of (pos 0) n)
        (choice-snoc (get_or fs i df) (get_or ks i dk) (first_of df i fs) (first_of dk i ks) (omega (arith, x, y))
        ∙ (λ j. at_choice force (first_of-next df fs i j) (first_of-next dk ks i j)))

-- what stands for the faces has their forces
module _ {F G A : Type 0} (h : F → G) (a : F → List A) (force : F → A → ℤ) (value : G → A → ℤ) where
  pub choice-map : (fs : List F)
      → ((f : F) → Memᴰ f fs → (k : A) → Memᴰ k (a f) → force f k ≡ value (h f) k)
      → (ks : List A) → Chosen a fs ks → at_choice force fs ks ≡ at_choice value (map h fs) ks
  unfolding at_choice
  choice-map [] e ks c = refl
  choice-map (f ∷ fs) e [] c = refl
  choice-map (f ∷ fs) e (k ∷ ks) c =
      λ j. e f (Memᴰ.head refl) k c.0 j ∷ choice-map fs (λ g m. e g (Memᴰ.tail m)) ks c.1 j

-- a choice has an alternative for each face
pub chosen-length : {F A : Type 0} (a : F → List A) (fs : List F) (ks : List A) → Chosen a fs ks → length fs ≡ length ks
chosen-length a [] [] c = refl
chosen-length a [] (k ∷ ks) c = absurd c
chosen-length a (f ∷ fs) [] c = absurd c
chosen-length a (f ∷ fs) (k ∷ ks) c = ap suc (chosen-length a fs ks c.1)

-- the forces at a choice add up to its total
pub total-added : {F A : Type 0} (force : F → A → ℤ) (fs : List F) (ks : List A)
    → total force fs ks ≡ added_up (at_choice force fs ks)
unfolding total added_up at_choice
total-added force [] ks = refl
total-added force (f ∷ fs) [] = refl
total-added force (f ∷ fs) (k ∷ ks) = ap (λ z. force f k +ℤ z) (total-added force fs ks)
