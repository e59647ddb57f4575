-- What the one rule of writing gives is a text written, and nothing else is.
use mathlib.Core.Path.{◌≡◌, refl, sym, ◌∙◌}
use mathlib.Core.Bool.{Bool, true, false, cond}
use mathlib.Core.List.{List, ◌++◌}
use Prim.Native.Nat.{ℕ}
use native.Mathlib.Omega.{arith}
use lib.Dec.{leb}
use lib.ListN.{length, drop}
use borrow.Author.Tests.{leb-true, leb-false}
use Rattle.std.specs.Prelude.{Ok, Err}
use Rattle.verdict.specs.Verdict.{refusal}
use Rattle.page.specs.Writing.{Writing, writing, buffer_after}
use Rattle.claims.specs.Written.{Written, put, longer}

module _ (text before : List ℕ) where
  pub writing-written : Written text before (buffer_after text before) (writing text before)
  writing-written = go (leb (length text) (length before)) refl
    where
      go : (t : Bool) → leb (length text) (length before) ≡ t
          → Written text before (cond t (text ++ drop (length text) before) before)
          (cond t (Ok (length text)) (Err (refusal 7 0)))
      go true e = put (leb-true (length text) (length before) e) refl
      go false e = longer (leb-false (length text) (length before) e) refl

  pub text-written : {after : List ℕ} {w : Writing} → (w ≡ writing text before) × (after ≡ buffer_after text before)
      → Written text before after w
  text-written p = rw (p.0, p.1) writing-written

  pub written-unique : {after after' : List ℕ} {w w' : Writing} → Written text before after w
      → Written text before after' w'
      → (w ≡ w') × (after ≡ after')
  written-unique (put h e) (put k f) = (refl, e ∙ sym f)
  written-unique (put h e) (longer k f) = absurd (omega arith)
  written-unique (longer h e) (put k f) = absurd (omega arith)
  written-unique (longer h e) (longer k f) = (refl, e ∙ sym f)
