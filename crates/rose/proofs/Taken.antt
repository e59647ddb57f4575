-- Laws of a rose under way: two parts are their text at once, and a rose that is closed stays.
use Prim.Native.Nat.{ℕ}
use mathlib.Core.Path.{◌≡◌, refl, ap, ◌∙◌}
use mathlib.Core.Bool.{Bool, true, false, cond}
use mathlib.Core.List.{List, [], ◌∷◌, ◌++◌}
use lib.Dec.{eqb}
use Rattle.whole.proofs.Tests.{by-test}
use Rattle.verdict.specs.declared.Verdict.{Verdict}
use Rattle.rose.specs.declared.Pending.{Pending}
use Rattle.rose.specs.declared.Rose.{Rose}
use Rattle.rose.specs.Rose.{refused_at, line_judged, while_open, shut}
use Rattle.rose.specs.Pending.{line_more, pending_says, has_bytes}
use Rattle.rose.specs.Taken.{pending_in, byte_taken, part_taken, end_taken}

-- TWO PARTS ARE THEIR TEXT, for any record
pub part-append : (r : Rose) (s t : List ℕ) → part_taken r (s ++ t) ≡ part_taken (part_taken r s) t
unfolding part_taken
part-append r [] t = refl
part-append r (b ∷ s) t = part-append (byte_taken r b) s t

-- parts in order
unfoldable pub parts_taken : Rose → List (List ℕ) → Rose
parts_taken r [] = r
parts_taken r (p ∷ ps) = parts_taken (part_taken r p) ps

-- ---- open and closed

module _ (r next : Rose) where
  pub stays_closed : eqb r.closed 0 ≡ false → while_open r next ≡ r
  stays_closed c = ap (λ (t : Bool). cond t next r) c

  pub goes_on : eqb r.closed 0 ≡ true → while_open r next ≡ next
  goes_on c = ap (λ (t : Bool). cond t next r) c

module _ (r : Rose) where
  byte-closed : (b : ℕ) → eqb r.closed 0 ≡ false → byte_taken r b ≡ r
  byte-closed b c =
      let p = r.pending in
      stays_closed r (cond (eqb b 10) (line_judged r (pending_says p)) (pending_in r (line_more p b))) c

  pub part-closed : (s : List ℕ) → eqb r.closed 0 ≡ false → part_taken r s ≡ r
  unfolding part_taken
  part-closed [] c = refl
  part-closed (b ∷ s) c = ap (λ (x : Rose). part_taken x s) (byte-closed b c) ∙ part-closed s c

  abbrev end_open : Rose
  end_open = cond (has_bytes r.pending) (refused_at r.cell r.accepted 1) (shut r)

  pub end-closed : eqb r.closed 0 ≡ false → end_taken r ≡ r
  unfolding end_taken
  end-closed c = stays_closed r end_open c

  pub end-unended : eqb r.closed 0 ≡ true → has_bytes r.pending ≡ true
      → end_taken r ≡ refused_at r.cell r.accepted 1
  unfolding end_taken
  end-unended c h =
      goes_on r end_open c ∙ ap (λ (t : Bool). cond t (refused_at r.cell r.accepted 1) (shut r)) h

  pub end_whole : eqb r.closed 0 ≡ true → has_bytes r.pending ≡ false → end_taken r ≡ shut r
  unfolding end_taken
  end_whole c h =
      goes_on r end_open c ∙ ap (λ (t : Bool). cond t (refused_at r.cell r.accepted 1) (shut r)) h

  pub end-closes : eqb (end_taken r).closed 0 ≡ false
  end-closes =
      by-test (eqb r.closed 0)
      (λ t. by-test (has_bytes r.pending)
      (λ u. ap (λ (x : Rose). eqb x.closed 0) (end-unended t u))
      (λ u. ap (λ (x : Rose). eqb x.closed 0) (end_whole t u)))
      (λ t. ap (λ (x : Rose). eqb x.closed 0) (end-closed t) ∙ t)

-- after the end
pub end-takes-nothing : (r : Rose) (s : List ℕ) → part_taken (end_taken r) s ≡ end_taken r
end-takes-nothing r s = part-closed (end_taken r) s (end-closes r)

pub end-again : (r : Rose) → end_taken (end_taken r) ≡ end_taken r
end-again r = end-closed (end_taken r) (end-closes r)

-- after a refusal
pub refused-takes-nothing : (cell : List ℕ) (count n : ℕ) (s : List ℕ)
    → part_taken (refused_at cell count n) s ≡ refused_at cell count n
refused-takes-nothing cell count n s = part-closed (refused_at cell count n) s refl

-- ---- a rose that is open

abbrev pub open_rose : Verdict → ℕ → List ℕ → Pending → Rose
open_rose verdict count cell pending =
    record { verdict = verdict; accepted = count; cell = cell; closed = 0; pending = pending }

pub open_is : (r : Rose) → r.closed ≡ 0 → r ≡ open_rose r.verdict r.accepted r.cell r.pending
open_is r c =
    ap (λ (n : ℕ).
    record { verdict = r.verdict; accepted = r.accepted; cell = r.cell; closed = n; pending = r.pending }) c
