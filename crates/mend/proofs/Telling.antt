-- What the list tells: each change stands at its byte of the text received, and what stays is that text without the
-- bytes named.
use Prim.Native.Nat.{ℕ}
use mathlib.Core.Path.{◌≡◌, refl, sym, ap, ◌∙◌}
use mathlib.Core.Logic.{inr}
use mathlib.Core.Bool.{Bool, true, false}
use mathlib.Core.List.{List, [], ◌∷◌, ◌++◌, map, append_assoc}
use native.Mathlib.Omega.{arith}
use Rattle.whole.specs.Lists.{Every}
use Rattle.whole.proofs.Tests.{by-test}
use Rattle.mend.specs.Mended.{Fate, stays, goes, left, fates, lacks_end, ended, mended}
use Rattle.mend.specs.Changes.{Change, change, next_line, next_place, changes_from, changes}
use Rattle.mend.specs.Told.{line_after, place_after, end, Tells, names, unnamed}
use Rattle.mend.proofs.Places.{From, from-behind, precedes-from, precedes-apart, stands-there, names-none}
use Rattle.mend.proofs.Places.{line-more, place-more, listed-behind}
use Rattle.mend.proofs.Received.{received, Fair, fates-received, fates-fair}

-- ---- each change

module _ (added : Bool) (s : List ℕ) where
  tells_more : (p : List ℕ) (b : ℕ) (fs : List Fate)
      → Every (Tells s) (changes_from added (line_after (p ++ (b ∷ [])) 1) (place_after (p ++ (b ∷ [])) 1) fs)
      → Every (Tells s) (changes_from added (next_line b (line_after p 1)) (next_place b (place_after p 1)) fs)
  tells_more p b fs a = rw (line-more p b 1, place-more p b 1) at a

  tells-from : (p : List ℕ) (fs : List Fate) → s ≡ p ++ map received fs → Every Fair fs
      → Every (Tells s) (changes_from added (line_after p 1) (place_after p 1) fs)
  unfolding changes_from received Fair
  tells-from p [] e a =
      by-test added
      (λ t. rw t (record { before = p; from = []; text = e; line = refl; place = refl; stands = end }, tt))
      (λ t. rw t tt)
  tells-from p (stays b ∷ fs) e a =
      tells_more p b fs
      (tells-from (p ++ (b ∷ [])) fs (e ∙ sym (append_assoc p (b ∷ []) (map received fs))) a.1)
  tells-from p (goes kind b ∷ fs) e a =
      let rest = map received fs in (
        record { before = p; from = b ∷ rest; text = e; line = refl; place = refl; stands = a.0 rest },
        tells_more p b fs (tells-from (p ++ (b ∷ [])) fs (e ∙ sym (append_assoc p (b ∷ []) rest)) a.1),
      )

-- each stands at its byte, and an end behind the last
pub changes-tell : (s : List ℕ) → Every (Tells s) (changes s)
unfolding changes line_after place_after
changes-tell s =
    tells-from (lacks_end (left (fates s))) s [] (fates s) (sym (fates-received s)) (fates-fair s)

-- ---- what is not named

-- from a line and a place on, cs names what the fates from there on list
module _ (added : Bool) (cs : List Change) where
  unnamed-left : (line place : ℕ) (fs : List Fate)
      → ((c : Change) → From line place c
      → names cs c.line c.place ≡ names (changes_from added line place fs) c.line c.place)
      → unnamed cs line place (map received fs) ≡ left fs
  unfolding unnamed received left changes_from names
  unnamed-left line place [] h = refl
  unnamed-left line place (stays b ∷ fs) h =
      let n : names cs line place ≡ false =
      h (change line 0 place) (inr (refl, omega arith))
      ∙ names-none line 0 place (changes_from added (next_line b line) (next_place b place) fs)
      (listed-behind added line 0 place b fs) in
      rw n
      (ap (λ (l : List ℕ). b ∷ l)
      (unnamed-left (next_line b line) (next_place b place) fs
      (λ c f. h c (precedes-from line 0 place c (from-behind line 0 place c b f)))))
  unnamed-left line place (goes kind b ∷ fs) h =
      let n : names cs line place ≡ true =
      h (change line kind place) (inr (refl, omega arith)) ∙ rw (stands-there (change line kind place)) in
      rw n
      (unnamed-left (next_line b line) (next_place b place) fs
      (λ c f.
      let q = from-behind line kind place c b f in
      h c (precedes-from line kind place c q) ∙ rw (precedes-apart line kind place c q).1))

-- what stays is what was received, in its order, without the bytes named
pub mended-unnamed : (s : List ℕ) → mended s ≡ ended (unnamed (changes s) 1 1 s)
unfolding mended changes
mended-unnamed s =
    let e : unnamed (changes s) 1 1 s ≡ left (fates s) =
    ap (unnamed (changes s) 1 1) (sym (fates-received s))
    ∙ unnamed-left (lacks_end (left (fates s))) (changes s) 1 1 (fates s) (λ c f. refl) in
    sym (ap ended e)
