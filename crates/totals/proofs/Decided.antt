-- What was read of an input, as far as the buffer goes, decides the answer to all of it.
use Rattle.std.proofs.Common.{◌≡◌, ◌<◌, ℕ, List, [], ◌++◌, length, sym, ap, subst, ◌∙◌, append-nil}
use Rattle.std.specs.Prelude.{Option, Some, None, Result, Ok, Err, IfSome, OnOk, ltb}
use Rattle.std.specs.Io.KnownBytes.{Consumes, Appends, IsAtEnd}
use borrow.Author.Tests.{ltb-true, ltb-false}
use lib.Seq.{take-append_seam}
use Rattle.whole.proofs.Tests.{by-test}
use Rattle.report.specs.Report.{totals_text}
use Rattle.sheet.specs.Sheet.{reading}
use Rattle.sheet.proofs.Part.{part-decides}

-- the first bytes, with nothing behind them where they are few
decided : (front rest : List ℕ) → (length front < 9021 → rest ≡ [])
    → reading front ≡ reading (front ++ rest)
decided front rest end =
    by-test (ltb (length front) 9021)
    (λ t. ap reading (sym (ap (λ l. front ++ l) (end (ltb-true _ _ t)) ∙ append-nil front)))
    (λ t.
    ap reading (sym (take-append_seam front rest)) ∙ part-decides (front ++ rest) (length front) (ltb-false _ _ t))

-- what an output gains, once the answer to what was read is in it
pub whole-answer : {T E : Type 0} (r : Result T E) (before after old new : Option (List ℕ)) (front bytes : List ℕ)
    → Consumes before after front → (length front < 9021 → IsAtEnd after)
    → bytes ≡ totals_text (reading front) → OnOk r (Appends old new bytes)
    → OnOk r (IfSome before (λ text. Appends old new (totals_text (reading text))))
whole-answer (Err e) before after old new front bytes c end a gained = tt
whole-answer (Ok x) None after old new front bytes c end a gained = tt
whole-answer (Ok x) (Some text) None old new front bytes c end a gained = absurd c
whole-answer (Ok x) (Some text) (Some rest) old new front bytes c end a gained =
    subst (Appends old new) (a ∙ ap totals_text (decided front rest end ∙ ap reading (sym c))) gained
