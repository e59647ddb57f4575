-- The cells add up to the accepted lines whenever one looks: also within a line, after a refusal and after the end.
use Prim.Native.Nat.{ℕ, zero, suc, ◌+◌, ◌≤◌, ◌<◌}
use mathlib.Core.Path.{◌≡◌, refl, ◌∙◌}
use mathlib.Core.List.{List, [], ◌∷◌}
use native.Mathlib.Omega.{arith}
use lib.Dec.{ltb, eqb}
use lib.ListN.{length, get_or, set, length-set}
use borrow.Author.Tests.{lt-ltb, ltb-true, eqb-true}
use Rattle.whole.proofs.Tests.{by-test}
use Rattle.rose.specs.Observation.{Said}
use Rattle.std.specs.Prelude.{Ok, Err}
use Rattle.rose.specs.declared.Misread.TheVariants.{OutOfForm, OutOfRange}
use Rattle.rose.specs.declared.Rose.{Rose}
use Rattle.rose.specs.Observation.{cell_in}
use Rattle.rose.specs.Rose.{most_lines, no_lines, one_more, fault_after, line_judged}
use Rattle.rose.specs.Pending.{pending_says, has_bytes}
use Rattle.rose.specs.Taken.{byte_taken, part_taken, end_taken}
use Rattle.rose.proofs.Taken.{parts_taken}
use Rattle.rose.specs.IsRose.{cell_sum}
use Rattle.rose.proofs.PendingLines.{either, pending-small}

-- no count of lines comes to the greatest number
pub one_more_lem : (a : ℕ) → a < 4294967295 → one_more a ≡ a + 1
one_more_lem a h = rw (lt-ltb a 4294967295 h)

-- ---- sums of cells

pub sum-at : (xs : List ℕ) (k : ℕ) → get_or xs k 0 ≤ cell_sum xs
unfolding cell_sum
sum-at [] k = omega arith
sum-at (x ∷ xs) zero = omega arith
sum-at (x ∷ xs) (suc k) = omega (arith, sum-at xs k)

sum-set : (xs : List ℕ) (k v : ℕ) → k < length xs → cell_sum (set xs k v) + get_or xs k 0 ≡ cell_sum xs + v
unfolding cell_sum
sum-set [] k v h = absurd (omega arith)
sum-set (x ∷ xs) zero v h = omega arith
sum-set (x ∷ xs) (suc k) v h = omega (arith, sum-set xs k v (omega arith))

-- one more in one cell
module _ (cell : List ℕ) (k : ℕ) (here : k < length cell) (room : cell_sum cell < 4294967295) where
  pub cell-more : one_more (get_or cell k 0) ≡ get_or cell k 0 + 1
  cell-more = one_more_lem (get_or cell k 0) (omega (arith, sum-at cell k))

  pub sum_more : cell_sum (set cell k (one_more (get_or cell k 0))) ≡ cell_sum cell + 1
  sum_more = rw cell-more (omega (arith, sum-set cell k (get_or cell k 0 + 1) here))

-- a line without a fault comes after fewer than the most
pub faultless-room : (count : ℕ) (x : Said) → fault_after count x ≡ 0 → count < most_lines
faultless-room count (Err OutOfForm) e = absurd (omega arith)
faultless-room count (Err OutOfRange) e = absurd (omega arith)
faultless-room count (Ok k) e =
    by-test (ltb count most_lines) (λ t. ltb-true _ _ t) (λ t. absurd (let f = rw t at e in omega arith))

-- ---- at any time

pub record Sums (r : Rose) : Type 0 where
  pub room : r.accepted ≤ most_lines
  pub size : length r.cell ≡ 208
  pub sum : cell_sum r.cell ≡ r.accepted

module _ (r : Rose) (s : Sums r) where
  sums-line : (x : Said) → cell_in x < 208 → Sums (line_judged r x)
  sums-line x small =
      by-test (eqb (fault_after r.accepted x) 0)
      (λ t.
      let n : r.accepted < most_lines = faultless-room r.accepted x (eqb-true _ _ t) in
      let k = cell_in x in
      let one : one_more r.accepted ≡ r.accepted + 1 = one_more_lem r.accepted (omega arith) in
      rw (t, one) record {
        room = omega arith;
        size = length-set r.cell k (one_more (get_or r.cell k 0)) ∙ s.size;
        sum = omega (arith, s.sum, sum_more r.cell k (omega (arith, s.size)) (omega (arith, s.sum)));
      })
      (λ t. rw t record { room = s.room; size = s.size; sum = s.sum })

  sums-byte : (b : ℕ) → Sums (byte_taken r b)
  sums-byte b =
      either Sums (eqb r.closed 0)
      (either Sums (eqb b 10) (sums-line (pending_says r.pending) (pending-small r.pending))
      record { room = s.room; size = s.size; sum = s.sum }) s

  sums-end : Sums (end_taken r)
  unfolding end_taken
  sums-end =
      either Sums (eqb r.closed 0)
      (either Sums (has_bytes r.pending) record { room = s.room; size = s.size; sum = s.sum }
      record { room = s.room; size = s.size; sum = s.sum }) s

sums_part : (r : Rose) (s : List ℕ) → Sums r → Sums (part_taken r s)
unfolding part_taken
sums_part r [] h = h
sums_part r (b ∷ s) h = sums_part (byte_taken r b) s (sums-byte r h b)

sums-parts : (r : Rose) (ps : List (List ℕ)) → Sums r → Sums (parts_taken r ps)
unfolding parts_taken
sums-parts r [] h = h
sums-parts r (p ∷ ps) h = sums-parts (part_taken r p) ps (sums_part r p h)

sums_none : Sums no_lines
unfolding cell_sum
sums_none = record { room = omega arith; size = refl; sum = refl }

-- while parts are taken, and after the end
pub sums-taken : (ps : List (List ℕ)) → Sums (parts_taken no_lines ps) × Sums (end_taken (parts_taken no_lines ps))
sums-taken ps = let s = sums-parts no_lines ps sums_none in (s, sums-end (parts_taken no_lines ps) s)
