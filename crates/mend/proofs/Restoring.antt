-- The mended text and the list give back the text received.
use Prim.Native.Nat.{ℕ}
use mathlib.Core.Path.{◌≡◌, refl, ap, ◌∙◌}
use mathlib.Core.Bool.{Bool, false}
use mathlib.Core.List.{List, [], ◌∷◌, ◌++◌, map, append_assoc}
use lib.Dec.{eqb}
use Rattle.whole.specs.Lists.{Every}
use Rattle.whole.proofs.Tests.{by-test}
use Rattle.mend.specs.Mended.{Fate, stays, goes, left, fates, lacks_end, with_end, mended}
use Rattle.mend.specs.Changes.{change, next_line, next_place, changes_from, changes}
use Rattle.mend.specs.Told.{line_after, place_after, StandsHere, return, space, plus, zero}
use Rattle.mend.specs.Restored.{byte_of, put_back, undone, restored}
use Rattle.mend.proofs.Again.{mended-again}
use Rattle.mend.proofs.Places.{from-behind, precedes-apart, stands-there, behind-from, line-more, place-more}
use Rattle.mend.proofs.Received.{received, Fair, fates-received, fates-fair}

-- a change is undone at its place
undone-here : (line kind place : ℕ) (q : List ℕ)
    → undone (change line kind place) line place q ≡ put_back (change line kind place) q
unfolding undone
undone-here line kind place [] = rw (stands-there (change line kind place))
undone-here line kind place (b ∷ q) = rw (stands-there (change line kind place))

undone-behind : (p : List ℕ) (line kind place : ℕ) (q : List ℕ)
    → let c = change (line_after p line) kind (place_after p place) in undone c line place (p ++ q) ≡ p ++ put_back c q
unfolding undone line_after place_after
undone-behind [] line kind place q = undone-here line kind place q
undone-behind (b ∷ p) line kind place q =
    let c = change (line_after p (next_line b line)) kind (place_after p (next_place b place)) in
    rw
    (precedes-apart line kind place c
    (from-behind line kind place c b (behind-from p (next_line b line) kind (next_place b place)))
    ).0
    (ap (λ (l : List ℕ). b ∷ l) (undone-behind p (next_line b line) kind (next_place b place) q))

-- the byte put back is the byte taken out
stands-byte : {kind b : ℕ} {q : List ℕ} → StandsHere kind (b ∷ q) → (byte_of kind ≡ b) × (eqb kind 5 ≡ false)
stands-byte (return q) = (refl, refl)
stands-byte (space q) = (refl, refl)
stands-byte (plus q) = (refl, refl)
stands-byte (zero q) = (refl, refl)

-- p has been given back, and the fates are those of what comes behind it
module _ (added : Bool) where
  abbrev GivenBack : List ℕ → List Fate → Type 0
  GivenBack p fs =
      restored (p ++ with_end added (left fs)) (changes_from added (line_after p 1) (place_after p 1) fs)
      ≡ p ++ map received fs

  -- one byte more
  given-more : (p : List ℕ) (b : ℕ) (fs : List Fate) → GivenBack (p ++ (b ∷ [])) fs
      → restored (p ++ (b ∷ with_end added (left fs)))
      (changes_from added (next_line b (line_after p 1)) (next_place b (place_after p 1)) fs)
      ≡ p ++ (b ∷ map received fs)
  given-more p b fs g =
      rw (
        append_assoc p (b ∷ []) (with_end added (left fs)),
        append_assoc p (b ∷ []) (map received fs),
        line-more p b 1,
        place-more p b 1,
      ) at g

  given-fates : (p : List ℕ) (fs : List Fate) → Every Fair fs → GivenBack p fs
  unfolding restored changes_from left received Fair
  given-fates p [] a =
      by-test added (λ t. rw t (undone-behind p 1 5 1 (10 ∷ []))) (λ t. rw t)
  given-fates p (stays b ∷ fs) a = given-more p b fs (given-fates (p ++ (b ∷ [])) fs a.1)
  given-fates p (goes kind b ∷ fs) a =
      let e = stands-byte (a.0 []) in
      let rest = changes_from added (next_line b (line_after p 1)) (next_place b (place_after p 1)) fs in
      let c = change (line_after p 1) kind (place_after p 1) in
      let u : undone c 1 1 (p ++ with_end added (left fs)) ≡ p ++ (b ∷ with_end added (left fs)) =
      undone-behind p 1 kind 1 (with_end added (left fs)) ∙ rw (e.1, e.0) in
      ap (λ (t : List ℕ). restored t rest) u ∙ given-more p b fs (given-fates (p ++ (b ∷ [])) fs a.1)

-- the text received, byte for byte
pub restored-received : (s : List ℕ) → restored (mended s) (changes s) ≡ s
unfolding mended changes line_after place_after
restored-received s = given-fates (lacks_end (left (fates s))) [] (fates s) (fates-fair s) ∙ fates-received s

-- so the list is empty exactly if the text is the same
pub no-changes : (s : List ℕ) → changes s ≡ [] → mended s ≡ s
unfolding restored
no-changes s e = rw e at (restored-received s)

pub no_change : (s : List ℕ) → mended s ≡ s → changes s ≡ []
no_change s e = rw e at (mended-again s).1
