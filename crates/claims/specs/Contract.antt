-- What is asked of a contract: that it asks nothing of its caller, that it leaves no choice, that a refused call
-- changes nothing, and what whatever it allows must be.
use Rattle.std.specs.Prelude.{◌≡◌, List, ℤ, pos, length, replicate, Ok, Err}
use Rattle.page.specs.Writing.{Writing}

-- Asked κ a is what a caller would have to show, as the checker reads it off the source, at the lifetimes κ and the
-- arguments a
abbrev pub AsksNothing : {L : Type 0} {A : L → Type 0} → ((κ : L) → A κ → Type 0) → Type 0
AsksNothing {L} {A} Asked = (κ : L) (a : A κ) → Asked κ a

-- Post κ a r s is the contract, read so: at the lifetimes κ, the arguments a, the result r and the parameters at exit
-- s.
-- The first argument is a.0, the second a .1 .0, the third a .1 .1 .0; what a lent buffer holds is `now` of it.
module _ {L : Type 0} {A R S : L → Type 0} (Post : (κ : L) → A κ → R κ → S κ → Type 0) where
  -- whatever the contract allows is so
  abbrev pub Always : ((κ : L) → A κ → R κ → S κ → Type 0) → Type 0
  Always So = (κ : L) (a : A κ) (r : R κ) (s : S κ) → Post κ a r s → So κ a r s

  -- one call, by whatever the contract allows: handed x, it answers y
  abbrev pub Call : {X Y : Type 0} → ((κ : L) → A κ → X) → ((κ : L) → R κ → Y) → X → Y → Type 0
  Call given back x y =
      (κ : L) × (a : A κ) × (r : R κ) × (s : S κ) × Post κ a r s × (given κ a ≡ x) × (back κ r ≡ y)

  abbrev pub OneAnswer : Type 0
  OneAnswer = (κ : L) (a : A κ) (r r' : R κ) (s s' : S κ) → Post κ a r s → Post κ a r' s' → r ≡ r'

  -- the same where a buffer is lent; `buffer` picks what it holds at exit
  abbrev pub OneAnswerAndBuffer : {B : Type 0} → ((κ : L) → S κ → B) → Type 0
  OneAnswerAndBuffer buffer = (κ : L) (a : A κ) (r r' : R κ) (s s' : S κ)
      → Post κ a r s → Post κ a r' s' → (r ≡ r') × (buffer κ s ≡ buffer κ s')

  -- where a call is refused, what the lent buffer holds after it is what it held before; `refused` tells it by the
  -- result
  abbrev pub RefusedUnchanged : {B : Type 0} → ((κ : L) → R κ → Type 0) → ((κ : L) → A κ → B) → ((κ : L) → S κ → B)
      → Type 0
  RefusedUnchanged refused before after = Always (λ κ a r s. refused κ r → after κ s ≡ before κ a)

  -- a list that is lent for the work alone, which a refused call leaves all zero
  abbrev pub RefusedCleared : ((κ : L) → R κ → Type 0) → ((κ : L) → A κ → List ℤ) → ((κ : L) → S κ → List ℤ) → Type 0
  RefusedCleared refused before after =
      Always (λ κ a r s. refused κ r → after κ s ≡ replicate (length (before κ a)) (pos 0))

abbrev pub IsRefused : Writing → Type 0
IsRefused (Ok n) = ⊥
IsRefused (Err v) = Unit
