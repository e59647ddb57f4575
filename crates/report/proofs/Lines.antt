-- The numbers of a case, one after the other.
use mathlib.Core.Path.{◌≡◌, refl, sym, ap, ◌∙◌}
use mathlib.Core.List.{List, [], ◌∷◌, ◌++◌, append_assoc}
use Prim.Native.Nat.{ℕ, ◌+◌, ◌<◌, ◌≤◌}
use native.Mathlib.Omega.{arith}
use native.Mathlib.Numerals.{add-one}
use mathlib.Core.Bool.{true, false}
use lib.IntN.{ℤ}
use lib.ListN.{length, take, get_or, set, length-append}
use lib.Seq.{take-suc}
use Rattle.whole.specs.Digits.{digits, decimal}
use Rattle.whole.proofs.Digits.{digits-small}
use Rattle.building.specs.Year.{has_long_sheds}
use Rattle.pair.specs.declared.Pair.{Pair}
use Rattle.pair.specs.Total.{units}
use Rattle.page.specs.Writing.{Put}
use Rattle.page.proofs.Put.{put-length, then}
use Rattle.worst.specs.declared.Extreme.{Extreme}
use Rattle.worst.specs.declared.Six.{Six}
use Rattle.report.specs.Lines.{spaced, total_text, extreme_text, axis_text, six_text, x, y, z}
use Rattle.report.specs.Lines.{max, min}
use Rattle.report.specs.Short.{Printable, after_word}

pub spaced-none : spaced [] ≡ []
unfolding spaced
spaced-none = refl

pub spaced-one : (n : ℕ) → spaced (n ∷ []) ≡ (32 ∷ []) ++ digits n
unfolding spaced
spaced-one n = ap (λ (l : List ℕ). 32 ∷ l) (append-nil (digits n))
  where
    append-nil : (l : List ℕ) → l ++ [] ≡ l
    append-nil [] = refl
    append-nil (x ∷ l) = ap (λ (m : List ℕ). x ∷ m) (append-nil l)

pub spaced-append : (ns ms : List ℕ) → spaced (ns ++ ms) ≡ spaced ns ++ spaced ms
unfolding spaced
spaced-append [] ms = refl
spaced-append (n ∷ ns) ms =
    ap (λ (l : List ℕ). 32 ∷ digits n ++ l) (spaced-append ns ms)
    ∙ ap (λ (l : List ℕ). 32 ∷ l) (sym (append_assoc (digits n) (spaced ns) (spaced ms)))

pub spaced-case : (w i : ℕ) (ks : List ℕ) → spaced (w ∷ i ∷ ks) ≡ (spaced (w ∷ []) ++ spaced (i ∷ [])) ++ spaced ks
spaced-case w i ks =
    spaced-append (w ∷ i ∷ []) ks ∙ ap (λ (l : List ℕ). l ++ spaced ks) (spaced-append (w ∷ []) (i ∷ []))

-- the six lines, in the order in which they are put
module _ (year : ℤ) where
  pub six-parts : (s : Six)
      → six_text year s ≡ (axis_text year x s.x ++ axis_text year y s.y) ++ axis_text year z s.z
  unfolding six_text
  six-parts s = sym (append_assoc (axis_text year x s.x) (axis_text year y s.y) (axis_text year z s.z))

  pub six-lines : (s : Six)
      → six_text year s
      ≡ ((((extreme_text year x max s.x.greatest ++ extreme_text year x min s.x.least)
      ++ extreme_text year y max s.y.greatest) ++ extreme_text year y min s.y.least)
      ++ extreme_text year z max s.z.greatest) ++ extreme_text year z min s.z.least
  unfolding six_text axis_text
  six-lines s = simp append_assoc

  -- a total, by whether its year has long sheds
  pub long-total : has_long_sheds year ≡ true → (p : Pair)
      → total_text year p ≡ (decimal p.newtons ++ (32 ∷ [])) ++ digits p.remainder
  unfolding total_text
  long-total t p = rw t (sym (append_assoc (decimal p.newtons) (32 ∷ []) (digits p.remainder)))

  pub short-total : has_long_sheds year ≡ false → (p : Pair) → total_text year p ≡ decimal (units p)
  unfolding total_text
  short-total t p = rw t

-- a number that is a digit
pub digit-put : (l : List ℕ) (at n : ℕ) → n < 10 → at + 2 ≤ length l
    → Put l at (spaced (n ∷ [])) (set (set l at 32) (at + 1) (48 + n)) (at + 2)
digit-put l at n h room =
    rw (spaced-one n ∙ ap (λ (t : List ℕ). 32 ∷ t) (digits-small n h))
    (record { end = omega arith; bytes = ap (λ (k : ℕ). set (set l at 32) k (48 + n)) (add-one at) })

-- one number more
pub numbers_more : {l m n : List ℕ} {at r r' : ℕ} (ns : List ℕ) (i : ℕ) → i < length ns
    → Put l at (spaced (take i ns)) m r → Put m r (spaced (get_or ns i 0 ∷ [])) n r'
    → Put l at (spaced (take (i + 1) ns)) n r'
numbers_more ns i h p q =
    rw
    (ap (λ (k : ℕ). spaced (take k ns)) (add-one i) ∙ ap spaced (take-suc ns i 0 h) ∙ spaced-append (take i ns)
    (get_or ns i 0 ∷ []))
    (then p q)

-- a line put after others, s of them: its axis and word, and then the rest, for the same year
module _ {l m n : List ℕ} {r i : ℕ} {s : List ℕ} {v year : ℤ} (same : v ≡ year) (axis : ℕ) (word : List ℕ) (e : Extreme)
    (p : Put l 0 s m r) (q : Put m r (axis ∷ word) n i) where
  pub line-asks : Printable year 240 e → length (s ++ extreme_text year axis word e) ≤ length l
      → Printable v 240 e × (i + length (after_word v e) ≤ length n)
  unfolding extreme_text
  line-asks h room =
      let w = then p q in
      let k = length-append s ((axis ∷ word) ++ after_word year e) in
      let k' = length-append (axis ∷ word) (after_word year e) in
      let j = length-append s (axis ∷ word) in
      rw same (h, omega (arith, w.end, put-length w, room, k, k', j))

  pub line-put : {o : List ℕ} {j : ℕ} → Put n i (after_word v e) o j → Put l 0 (s ++ extreme_text year axis word e) o j
  unfolding extreme_text
  line-put t = then p (then q (rw same at t))

-- what leaves room for more has room
pub front : {k : ℕ} (s t : List ℕ) → length (s ++ t) ≤ k → length s ≤ k
front s t h = omega (arith, h, length-append s t)
