-- Laws of the walk over a text, and of counting.
use Prim.Native.Nat.{ℕ, zero, suc, ◌+◌, ◌*◌, ◌≤◌, ◌<◌}
use mathlib.Core.Path.{◌≡◌, refl, ◌∙◌}
use mathlib.Core.Bool.{Bool, true, false, cond}
use mathlib.Core.List.{List, [], ◌∷◌}
use native.Mathlib.Numerals.{add-one}
use native.Mathlib.Omega.{arith}
use lib.Dec.{eqb}
use lib.ListN.{length, get_or, drop, drop_of_length-le}
use lib.Seq.{drop-cons}
use borrow.Author.Tests.{ne_eqb}
use Rattle.mend.specs.declared.walk.Seen.{Seen}
use Rattle.mend.specs.declared.tally.Tally.{Tally}
use Rattle.mend.specs.Mended.{Fate, stays, goes, left, final}
use Rattle.mend.specs.Changes.{Change, changes_from, as_numbers, next_line, next_place}
use Rattle.mend.specs.OneWalk.{clean, seen_with, fate_of, fates_from, tallied, tally_with}

-- ---- the walk

module _ (s : List ℕ) (i : ℕ) (w : Seen) where
  pub fates-end : length s ≤ i → fates_from w (drop i s) ≡ []
  unfolding fates_from
  fates-end h = rw (drop_of_length-le s h)

  pub fates-next : i < length s → (v : Seen) → v ≡ seen_with w (get_or s i 0) (clean (drop (i + 1) s))
      → fates_from w (drop i s) ≡ fate_of (get_or s i 0) v.kind ∷ fates_from v (drop (i + 1) s)
  unfolding fates_from
  fates-next h v e = rw (e, add-one, drop-cons s i 0)

-- ---- counting

pub some-kind : (f : ℕ) → eqb (suc f) 0 ≡ false
some-kind f = ne_eqb (suc f) 0 (λ e. omega arith)

tallied-fate : (z : Tally) (b f : ℕ) (fs : List Fate) → tallied z (fate_of b f ∷ fs) ≡ tallied (tally_with z b f) fs
unfolding tallied
tallied-fate z b zero fs = refl
tallied-fate z b (suc f) fs = rw (some-kind f)

pub tallied-next : (s : List ℕ) (i : ℕ) (w : Seen) → i < length s → (v : Seen)
    → v ≡ seen_with w (get_or s i 0) (clean (drop (i + 1) s))
    → (z y : Tally) → y ≡ tally_with z (get_or s i 0) v.kind
    → tallied z (fates_from w (drop i s)) ≡ tallied y (fates_from v (drop (i + 1) s))
tallied-next s i w h v e z y q = rw (fates-next s i w h v e, q) (tallied-fate z (get_or s i 0) v.kind _)

pub tallied-end : (s : List ℕ) (i : ℕ) (w : Seen) → length s ≤ i → (z : Tally) → tallied z (fates_from w (drop i s)) ≡ z
unfolding tallied
tallied-end s i w h z = rw (fates-end s i w h)

pub tally-bound : (z : Tally) (b f i : ℕ) → z.kept ≤ i → z.taken ≤ i → (y : Tally) → y ≡ tally_with z b f
    → (y.kept ≤ i + 1) × (y.taken ≤ i + 1)
tally-bound z b zero i h k y e = rw e (omega arith, omega arith)
tally-bound z b (suc f) i h k y e = rw (e, some-kind f) (omega arith, omega arith)

pub tallied-kept : (z : Tally) (fs : List Fate) → (tallied z fs).kept ≡ z.kept + length (left fs)
unfolding tallied left
tallied-kept z [] = omega arith
tallied-kept z (stays b ∷ fs) =
    tallied-kept (record { kept = z.kept + 1; taken = z.taken; last = b }) fs ∙ omega arith
tallied-kept z (goes k b ∷ fs) =
    tallied-kept (record { kept = z.kept; taken = z.taken + 1; last = z.last }) fs

pub tallied-last : (z : Tally) (fs : List Fate) → (tallied z fs).last ≡ final z.last (left fs)
unfolding tallied left final
tallied-last z [] = refl
tallied-last z (stays b ∷ fs) =
    tallied-last (record { kept = z.kept + 1; taken = z.taken; last = b }) fs
tallied-last z (goes k b ∷ fs) =
    tallied-last (record { kept = z.kept; taken = z.taken + 1; last = z.last }) fs

-- a change for each byte that goes, and for an end
pub tallied-listed : (added : Bool) (z : Tally) (line place : ℕ) (fs : List Fate)
    → length (changes_from added line place fs) + z.taken ≡ (tallied z fs).taken + cond added 1 0
unfolding tallied changes_from
tallied-listed true z line place [] = omega arith
tallied-listed false z line place [] = omega arith
tallied-listed added z line place (stays b ∷ fs) =
    tallied-listed added (record { kept = z.kept + 1; taken = z.taken; last = b }) (next_line b line)
    (next_place b place) fs
tallied-listed added z line place (goes k b ∷ fs) =
    let t : Tally = record { kept = z.kept; taken = z.taken + 1; last = z.last } in
    omega (arith, tallied-listed added t (next_line b line) (next_place b place) fs)

-- three numbers for a change
pub numbers-length : (cs : List Change) → length (as_numbers cs) ≡ 3 * length cs
unfolding as_numbers
numbers-length [] = omega arith
numbers-length (c ∷ cs) = omega (arith, numbers-length cs)
