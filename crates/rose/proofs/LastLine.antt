-- Bytes without LF and then the end: the line that they begin is refused, and the counts stay.
use Prim.Native.Nat.{ℕ, suc}
use mathlib.Core.Path.{◌≡◌, refl, ap, ◌∙◌}
use mathlib.Core.List.{List, [], ◌∷◌}
use native.Mathlib.Omega.{arith}
use lib.Dec.{eqb}
use lib.ListN.{length}
use Rattle.whole.proofs.Tests.{by-test}
use Rattle.verdict.specs.declared.Verdict.{Verdict}
use Rattle.lines.specs.Held.{until}
use Rattle.rose.specs.declared.Pending.{Pending}
use Rattle.rose.specs.declared.Rose.{Rose}
use Rattle.rose.specs.Rose.{no_bytes, refused_at}
use Rattle.rose.specs.Pending.{line_more}
use Rattle.rose.specs.Taken.{part_taken, end_taken}
use Rattle.rose.proofs.PendingLines.{line_after, after-bytes}
use Rattle.rose.proofs.Taken.{open_rose, open_is, end-unended}

module _ (v : Verdict) (count : ℕ) (cell : List ℕ) where
  stays-pending : (s : List ℕ) (p : Pending) → until 10 s ≡ length s
      → part_taken (open_rose v count cell p) s ≡ open_rose v count cell (line_after p s)
  unfolding part_taken line_after until
  stays-pending [] p h = refl
  stays-pending (b ∷ s) p h =
      by-test (eqb b 10) (λ t. absurd (let q : 0 ≡ suc (length s) = rw t at h in omega arith))
      (λ t.
      let q : suc (until 10 s) ≡ suc (length s) = rw t at h in
      rw t (stays-pending s (line_more p b) (omega arith)))

pub unfinished-refused : (r : Rose) → r.closed ≡ 0 → r.pending ≡ no_bytes → (b : ℕ) (s : List ℕ)
    → until 10 (b ∷ s) ≡ length (b ∷ s) → end_taken (part_taken r (b ∷ s)) ≡ refused_at r.cell r.accepted 1
unfinished-refused r c e b s h =
    let now = open_rose r.verdict r.accepted r.cell in
    ap (λ (x : Rose). end_taken (part_taken x (b ∷ s))) (open_is r c ∙ ap now e)
    ∙ ap end_taken (stays-pending r.verdict r.accepted r.cell (b ∷ s) no_bytes h)
    ∙ end-unended (now (line_after no_bytes (b ∷ s))) refl (after-bytes b s)
