-- Laws of places: the byte behind a byte stands later, so the changes of a list stand in order.
use Prim.Native.Nat.{ℕ, ◌+◌, ◌≤◌, ◌<◌}
use mathlib.Core.Path.{◌≡◌, refl}
use mathlib.Core.Logic.{◌⊎◌, inl, inr}
use mathlib.Core.Bool.{Bool, true, false}
use mathlib.Core.Bool as bool
use mathlib.Core.List.{List, [], ◌∷◌, ◌++◌}
use native.Mathlib.Omega.{arith}
use lib.Dec.{eqb}
use borrow.Author.Tests.{eq-eqb, ne_eqb}
use Rattle.whole.specs.Lists.{Every}
use Rattle.whole.proofs.Tests.{by-test}
use Rattle.whole.proofs.Lists.{every-by}
use Rattle.mend.specs.Mended.{Fate, stays, goes, left, fates, lacks_end}
use Rattle.mend.specs.Changes.{Change, change, next_line, next_place, changes_from, changes}
use Rattle.mend.specs.Told.{line_after, place_after, Precedes, PlacesRise, stands_at, names}

-- there or later
abbrev pub From : (line place : ℕ) → Change → Type 0
From line place c = (line < c.line) ⊎ ((line ≡ c.line) × (place ≤ c.place))

module _ (line kind place : ℕ) (c : Change) where
  -- what stands from behind a byte on stands after the byte
  pub from-behind : (b : ℕ) → From (next_line b line) (next_place b place) c → Precedes (change line kind place) c
  from-behind b f = by-test (eqb b 10) (λ t. lf (rw t at f)) (λ t. other (rw t at f))
    where
      lf : From (line + 1) 1 c → Precedes (change line kind place) c
      lf (inl h) = inl (omega arith)
      lf (inr h) = inl (omega (arith, h.0))

      other : From line (place + 1) c → Precedes (change line kind place) c
      other (inl h) = inl h
      other (inr h) = inr (h.0, omega (arith, h.1))

  pub precedes-from : Precedes (change line kind place) c → From line place c
  precedes-from (inl h) = inl h
  precedes-from (inr h) = inr (h.0, omega (arith, h.1))

  -- and neither stands where the other does
  pub precedes-apart : Precedes (change line kind place) c
      → (stands_at c line place ≡ false) × (stands_at (change line kind place) c.line c.place ≡ false)
  precedes-apart (inl h) =
      (rw (ne_eqb c.line line (λ e. omega arith)), rw (ne_eqb line c.line (λ e. omega arith)))
  precedes-apart (inr h) = (
    rw (ne_eqb c.place place (λ e. omega (arith, h.1))) (bool.and-false (eqb c.line line)),
    rw (ne_eqb place c.place (λ e. omega (arith, h.1))) (bool.and-false (eqb line c.line)),
  )

pub stands-there : (c : Change) → stands_at c c.line c.place ≡ true
stands-there c = rw (eq-eqb c.line c.line refl, eq-eqb c.place c.place refl)

pub names-none : (line kind place : ℕ) (cs : List Change) → Every (Precedes (change line kind place)) cs
    → names cs line place ≡ false
unfolding names
names-none line kind place [] a = refl
names-none line kind place (c ∷ cs) a =
    rw (precedes-apart line kind place c a.0).0 (names-none line kind place cs a.1)

-- ---- behind a text

pub behind-from : (p : List ℕ) (line kind place : ℕ)
    → From line place (change (line_after p line) kind (place_after p place))
unfolding line_after place_after
behind-from [] line kind place = inr (refl, omega arith)
behind-from (b ∷ p) line kind place =
    let c = change (line_after p (next_line b line)) kind (place_after p (next_place b place)) in
    precedes-from line kind place c
    (from-behind line kind place c b (behind-from p (next_line b line) kind (next_place b place)))

pub line-more : (p : List ℕ) (b line : ℕ) → line_after (p ++ (b ∷ [])) line ≡ next_line b (line_after p line)
unfolding line_after
line-more [] b line = refl
line-more (x ∷ p) b line = line-more p b (next_line x line)

pub place-more : (p : List ℕ) (b place : ℕ) → place_after (p ++ (b ∷ [])) place ≡ next_place b (place_after p place)
unfolding place_after
place-more [] b place = refl
place-more (x ∷ p) b place = place-more p b (next_place x place)

-- ---- a list in order

all-behind : (line kind place b : ℕ) (cs : List Change) → Every (From (next_line b line) (next_place b place)) cs
    → Every (Precedes (change line kind place)) cs
all-behind line kind place b = every-by (λ c. from-behind line kind place c b)

all_from : (line place b : ℕ) (cs : List Change) → Every (From (next_line b line) (next_place b place)) cs
    → Every (From line place) cs
all_from line place b = every-by (λ c f. precedes-from line 0 place c (from-behind line 0 place c b f))

module _ (added : Bool) where
  listed-from : (line place : ℕ) (fs : List Fate) → Every (From line place) (changes_from added line place fs)
  unfolding changes_from
  listed-from line place [] = by-test added (λ t. rw t (inr (refl, omega arith), tt)) (λ t. rw t tt)
  listed-from line place (stays b ∷ fs) =
      all_from line place b (changes_from added (next_line b line) (next_place b place) fs)
      (listed-from (next_line b line) (next_place b place) fs)
  listed-from line place (goes kind b ∷ fs) = (
    inr (refl, omega arith),
    all_from line place b (changes_from added (next_line b line) (next_place b place) fs)
        (listed-from (next_line b line) (next_place b place) fs),
  )

  pub listed-behind : (line kind place b : ℕ) (fs : List Fate)
      → Every (Precedes (change line kind place)) (changes_from added (next_line b line) (next_place b place) fs)
  listed-behind line kind place b fs =
      all-behind line kind place b (changes_from added (next_line b line) (next_place b place) fs)
      (listed-from (next_line b line) (next_place b place) fs)

  listed-rise : (line place : ℕ) (fs : List Fate) → PlacesRise (changes_from added line place fs)
  unfolding changes_from PlacesRise
  listed-rise line place [] = by-test added (λ t. rw t (tt, tt)) (λ t. rw t tt)
  listed-rise line place (stays b ∷ fs) = listed-rise (next_line b line) (next_place b place) fs
  listed-rise line place (goes kind b ∷ fs) =
      (listed-behind line kind place b fs, listed-rise (next_line b line) (next_place b place) fs)

-- line and place rise strictly in the order of the list
pub places-rise : (s : List ℕ) → PlacesRise (changes s)
unfolding changes
places-rise s = listed-rise (lacks_end (left (fates s))) 1 1 (fates s)
