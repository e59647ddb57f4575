-- What the code does at a place of a part: the rose so far, with the rest of the part, comes to the same behind it.
use Prim.Native.Nat.{ℕ, ◌+◌, ◌≤◌, ◌<◌}
use mathlib.Core.Path.{◌≡◌, ap, sym, ◌∙◌}
use mathlib.Core.List.{List}
use native.Mathlib.Numerals.{add-one}
use lib.ListN.{length, get_or, drop, set, drop_of_length-le}
use lib.Seq.{drop-cons}
use borrow.Author.Tests.{eq-eqb, ne_eqb}
use Rattle.verdict.specs.declared.Verdict.{Verdict}
use Rattle.rose.specs.Observation.{Said}
use Rattle.rose.specs.declared.Pending.{Pending}
use Rattle.rose.specs.declared.Rose.{Rose}
use Rattle.rose.specs.Observation.{cell_in}
use Rattle.rose.specs.Rose.{no_bytes, one_more, refused_at, fault_after, line_judged}
use Rattle.rose.specs.Pending.{line_more, pending_says}
use Rattle.rose.specs.Taken.{byte_taken, part_taken}
use Rattle.rose.proofs.Taken.{open_rose, refused-takes-nothing}

pub part-done : (r : Rose) (s : List ℕ) (at : ℕ) → length s ≤ at → part_taken r (drop at s) ≡ r
unfolding part_taken
part-done r s at h = rw (drop_of_length-le s h)

module _ (v : Verdict) (count : ℕ) (cell : List ℕ) (p : Pending) (s : List ℕ) (at : ℕ) (here : at < length s) where
  abbrev so-far : Rose
  so-far = open_rose v count cell p

  at_byte : part_taken so-far (drop at s) ≡ part_taken (byte_taken so-far (get_or s at 0)) (drop (at + 1) s)
  unfolding part_taken
  at_byte =
      ap (part_taken so-far) (drop-cons s at 0 here)
      ∙ ap (λ (n : ℕ). part_taken (byte_taken so-far (get_or s at 0)) (drop n s)) (sym (add-one at))

  -- a byte of a line
  pub byte-pending : (get_or s at 0 ≡ 10 → ⊥) → (q : Pending) → q ≡ line_more p (get_or s at 0)
      → part_taken so-far (drop at s) ≡ part_taken (open_rose v count cell q) (drop (at + 1) s)
  byte-pending n q e = at_byte ∙ rw (ne_eqb _ _ n, e)

  -- the LF of a line that says x and has fault n
  module _ (lf : get_or s at 0 ≡ 10) (x : Said) (says : x ≡ pending_says p) (n : ℕ)
      (fault : n ≡ fault_after count x) where
    at-line : part_taken so-far (drop at s) ≡ part_taken (line_judged so-far x) (drop (at + 1) s)
    at-line = at_byte ∙ rw (eq-eqb _ _ lf, says)

    pub line_refused : (n ≡ 0 → ⊥) → part_taken so-far (drop at s) ≡ refused_at cell count n
    line_refused h =
        at-line ∙ rw (← fault, ne_eqb n 0 h) (refused-takes-nothing cell count n (drop (at + 1) s))

    pub line-counted : n ≡ 0 → (k : ℕ) → k ≡ cell_in x → (c : ℕ) → c ≡ one_more (get_or cell k 0)
        → (m : ℕ) → m ≡ one_more count → (q : Pending) → q ≡ no_bytes
        → part_taken so-far (drop at s) ≡ part_taken (open_rose v m (set cell k c) q) (drop (at + 1) s)
    line-counted h k hk c hc m hm q hq = at-line ∙ rw (← fault, eq-eqb n 0 h, hc, hk, hm, hq)
