-- Laws of the parts of a text: part n is part n - i of what stands behind the first i.
use Prim.Native.Nat.{ℕ, zero, suc, ◌+◌, ◌-◌, ◌≤◌, ◌<◌, min}
use mathlib.Core.Path.{◌≡◌, refl, ap, ◌∙◌}
use mathlib.Core.List.{List, []}
use native.Mathlib.Nat.{min-eq_left, min-eq_right}
use native.Mathlib.Omega.{arith}
use lib.ListN.{length, get_or, take, drop, length-drop}
use lib.Seq.{drop-drop, length-take-le}
use Rattle.lines.specs.Lines.{split}
use Rattle.lines.specs.Held.{until}
use Rattle.lines.proofs.Lines.{until-le, split-until, split-more, split-last}
use Rattle.slip.specs.Slip.{start_of, part_of}

start_none : (i : ℕ) → start_of i [] ≡ 0
unfolding start_of
start_none zero = refl
start_none (suc i) = refl

module _ (b : ℕ) (s : List ℕ) (n : ℕ) where
  pub record Behind (i from : ℕ) : Type 0 where
    pub within : from ≤ length s
    pub starts : start_of n (split b s) ≡ from + start_of (n - i) (split b (drop from s))
    pub part : get_or (split b s) n [] ≡ get_or (split b (drop from s)) (n - i) []

  pub behind-none : Behind 0 0
  behind-none =
      let z : n - 0 ≡ n = omega arith in
      record { within = omega arith; starts = rw z (omega arith); part = rw z }

  module _ {i from : ℕ} (h : Behind i from) where
    abbrev rest : List ℕ
    rest = drop from s

    abbrev here : ℕ
    here = until b rest

    first-length : length (take here rest) ≡ here
    first-length = length-take-le here rest (until-le b rest)

    module _ (more : i < n) where
      left : n - i ≡ suc (n - (i + 1))
      left = omega arith

      pub behind-next : from + here < length s → Behind (i + 1) (from + here + 1)
      unfolding start_of
      behind-next k =
          let e = split-more b rest (rw length-drop (omega arith)) in
          let q : from + suc here ≡ from + here + 1 = omega arith in
          let t = drop (from + here + 1) s in
          let r : drop (suc here) rest ≡ t = drop-drop (suc here) from s ∙ ap (λ (m : ℕ). drop m s) q in
          let a : start_of (n - i) (split b rest) ≡ suc here + start_of (n - (i + 1)) (split b t) =
          rw (left, e, first-length, r) in
          record {
            within = omega arith;
            starts = omega (arith, h.starts, a);
            part = h.part ∙ rw (left, e, r);
          }

      -- no b stands behind: there is no such part
      pub behind-last : length s ≤ from + here → part_of b n s ≡ record { from = length s; to = length s }
      unfolding start_of part_of
      behind-last k =
          let e = split-last b rest (rw length-drop (omega arith)) in
          let a : start_of n (split b s) ≡ from + (suc (length rest) + start_of (n - (i + 1)) []) =
          h.starts ∙ rw (left, e) in
          let d : min (start_of n (split b s)) (length s) ≡ length s =
          min-eq_right (omega (arith, a, length-drop from s, h.within)) in
          let z : length (get_or (split b s) n []) ≡ 0 = rw (h.part, left, e) in
          let t : length s + 0 ≡ length s = omega arith in
          rw (d, z) (λ j. record { from = length s; to = t j })

    pub behind-all : n ≤ i → part_of b n s ≡ record { from = from; to = from + here }
    unfolding start_of part_of
    behind-all k =
        let z : n - i ≡ 0 = omega arith in
        let a : start_of n (split b s) ≡ from = h.starts ∙ rw z (omega arith) in
        let d : min (start_of n (split b s)) (length s) ≡ from = rw a (min-eq_left h.within) in
        let l : length (get_or (split b s) n []) ≡ here = rw (h.part, z, split-until b rest) first-length in
        rw (d, l)
