-- How `line_at` fills the six places of a line: field by field, each from where the one before it ended.
use Prim.Native.Nat.{ℕ, suc, ◌+◌, ◌-◌, ◌≤◌, ◌<◌}
use mathlib.Core.Path.{◌≡◌, refl, ap, ◌∙◌, sym}
use mathlib.Core.Bool.{cond}
use mathlib.Core.List.{List, [], ◌∷◌, ◌++◌, map}
use native.Mathlib.Nat.{zero-add}
use native.Mathlib.Numerals.{add-one}
use native.Mathlib.Omega.{arith}
use lib.Dec.{ltb, leb}
use lib.ListN.{length, get_or, take, drop, set, length-drop, length-append, take-append-drop}
use lib.Seq.{sets, drop-cons, drop-drop, length-take-le, get_or-drop}
use borrow.Author.Tests.{le-leb, lt-leb, ltb-true, ltb-false}
use Rattle.whole.proofs.Tests.{by-test}
use Rattle.field.specs.declared.Field.{Field}
use Rattle.lines.specs.declared.Slot.{Slot}
use Rattle.lines.specs.declared.Line.{Line}
use Rattle.field.specs.Field.{field_from}
use Rattle.lines.specs.Lines.{split, fields_of}
use Rattle.lines.specs.Held.{slot, blank, no_line, held_line, first_line, line_at, until, field_length}
use Rattle.lines.proofs.Lines.{Free, until-at, until-take, split-until, split-last, split-seam, split-past}
use Rattle.lines.proofs.Lines.{split_one}

-- the line that comes of k fields in their places, and more
line_from : ℕ → ℕ → List Slot → List Field → Line
line_from next k v fs =
    cond (leb (k + length fs) 6)
    (record { count = k + length fs; next = next; fields = sets v k (map slot fs) }) no_line

from_start : (next : ℕ) (fs : List Field) → held_line next fs ≡ line_from next 0 blank fs
unfolding held_line line_from
from_start next fs = rw zero-add

module _ (next k : ℕ) (v : List Slot) (f : Field) where
  from_more : (fs : List Field) → line_from next k v (f ∷ fs) ≡ line_from next (k + 1) (set v k (slot f)) fs
  unfolding line_from
  from_more fs =
      let q : k + suc (length fs) ≡ k + 1 + length fs = omega arith in
      rw (q, add-one)

  from_last : k < 6 → line_from next k v (f ∷ []) ≡ record { count = k + 1; next = next; fields = set v k (slot f) }
  unfolding line_from
  from_last h = rw (le-leb (k + 1) 6 (omega arith))

  from-full : (fs : List Field) → 6 ≤ k → line_from next k v (f ∷ fs) ≡ no_line
  unfolding line_from
  from-full fs h = rw (lt-leb (k + suc (length fs)) 6 (omega arith))

-- a seventh field
from-line-full : (next k : ℕ) (v : List Slot) (s : List ℕ) → 6 ≤ k → line_from next k v (fields_of s) ≡ no_line
unfolding fields_of
from-line-full next k v s h = rw (split-until 32 s) (from-full next k v _ _ h)

-- ---- from a place of the text on

-- the line that comes of k fields in their places, and those from a place on; the parts between LFs are those from
-- there on
pub line_on : ℕ → List Slot → ℕ → List (List ℕ) → Line
line_on k v at [] = no_line
line_on k v at (l ∷ []) = no_line
line_on k v at (l ∷ m ∷ ls) = line_from (at + length l + 1) k v (fields_of l)

pub on-start : (s : List ℕ) (at : ℕ) → line_at s at ≡ line_on 0 blank at (split 10 (drop at s))
unfolding line_at line_on first_line
on-start s at = go (split 10 (drop at s))
  where
    go : (ls : List (List ℕ)) → first_line at ls ≡ line_on 0 blank at ls
    go [] = refl
    go (l ∷ []) = refl
    go (l ∷ m ∷ ls) = from_start (at + length l + 1) (fields_of l)

pub on-full : (k : ℕ) (v : List Slot) (at : ℕ) (ls : List (List ℕ)) → 6 ≤ k → line_on k v at ls ≡ no_line
unfolding line_on
on-full k v at [] h = refl
on-full k v at (l ∷ []) h = refl
on-full k v at (l ∷ m ∷ ls) h = from-line-full (at + length l + 1) k v l h

-- one field more, from the place `at` up to e
module _ (s : List ℕ) (at e : ℕ) (he : e ≡ at + field_length (drop at s)) (k : ℕ) (v : List Slot) where
  abbrev part : List ℕ
  part = take (e - at) (drop at s)

  -- no LF is left
  pub on-open : length s ≤ e → line_on k v at (split 10 (drop at s)) ≡ no_line
  unfolding line_on
  on-open h = rw (split-last 10 (drop at s) (rw length-drop (omega arith)))

  module _ (h : e < length s) where
    part_length : length part ≡ e - at
    part_length = length-take-le (e - at) (drop at s) (rw length-drop (omega arith))

    part_free : (b : ℕ) → e - at ≤ until b (drop at s) → Free b part
    part_free b l = until-take b (drop at s) (e - at) l ∙ sym part_length

    seam : (b : ℕ) → get_or s e 0 ≡ b → drop at s ≡ part ++ (b ∷ drop (e + 1) s)
    seam b g =
        let q : at + (e - at) ≡ e = omega arith in
        sym (take-append-drop (e - at) (drop at s))
        ∙ ap (λ (t : List ℕ). part ++ t) (drop-drop (e - at) at s ∙ rw (q, add-one, drop-cons s e 0, g))

    byte_at : (b : ℕ) → e ≡ at + until b (drop at s) → get_or s e 0 ≡ b
    byte_at b q =
        rw q (sym (get_or-drop at s (until b (drop at s)) 0) ∙ until-at b (drop at s) (rw length-drop (omega arith)))

    -- where no LF stands, a space does
    space : (get_or s e 0 ≡ 10 → ⊥) → get_or s e 0 ≡ 32
    space n =
        let x = until 32 (drop at s) in
        let y = until 10 (drop at s) in
        by-test (ltb x y) (λ t. byte_at 32 (omega (arith, ltb-true x y t)))
        (λ t. absurd (n (byte_at 10 (omega (arith, ltb-false x y t)))))

    module _ (c : Slot) (hc : c ≡ slot (field_from part)) where
      pub on-ended : k < 6 → get_or s e 0 ≡ 10
          → line_on k v at (split 10 (drop at s)) ≡ record { count = k + 1; next = e + 1; fields = set v k c }
      unfolding line_on fields_of
      on-ended l ten =
          let q : at + length part + 1 ≡ e + 1 = omega (arith, part_length) in
          ap (λ (t : List ℕ). line_on k v at (split 10 t)) (seam 10 ten)
          ∙ rw (split-seam 10 part (drop (e + 1) s) (part_free 10 (omega arith)), split-until 10 (drop (e + 1) s))
          (rw (q, split_one 32 part (part_free 32 (omega arith)), hc) (from_last (e + 1) k v (field_from part) l))

      on_both : (q : List ℕ) (qs : List (List ℕ))
          → line_on k v at ((part ++ (32 ∷ q)) ∷ qs) ≡ line_on (k + 1) (set v k c) (e + 1) (q ∷ qs)
      unfolding line_on fields_of
      on_both q [] = refl
      on_both q (m ∷ qs) =
          let n : at + length (part ++ (32 ∷ q)) + 1 ≡ e + 1 + length q + 1 =
          omega (arith, length-append part (32 ∷ q), part_length) in
          rw (n, split-seam 32 part q (part_free 32 (omega arith)), hc)
          (from_more (e + 1 + length q + 1) k v (field_from part) (fields_of q))

      pub on-more : (get_or s e 0 ≡ 10 → ⊥)
          → line_on k v at (split 10 (drop at s)) ≡ line_on (k + 1) (set v k c) (e + 1) (split 10 (drop (e + 1) s))
      on-more n =
          let u = split-until 10 (drop (e + 1) s) in
          ap (λ (t : List ℕ). line_on k v at (split 10 t)) (seam 32 (space n))
          ∙ rw (split-past 10 part 32 (drop (e + 1) s) _ _ (part_free 10 (omega arith)) (λ z. omega arith) u)
          (rw u (on_both _ _))
