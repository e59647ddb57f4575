-- `negative_of` meets its contract: digits that are read as a number are in form, and any others are not.
-- the other arm's tags are not that of `Plus`
use Prim.Native.Nat.{ℕ}
use mathlib.Core.Path.{◌≡◌, sym, ap, ◌∙◌}
use mathlib.Core.Logic.{◌⊎◌, inl, inr}
use native.Mathlib.Omega.{arith}
use Rattle.whole.proofs.Tests.{by-test}
use Rattle.field.specs.declared.Field.TheVariants.{Minus}
use Rattle.field.specs.Field.{digits_in_form}
use Rattle.field.proofs.Fields.{unsigned-yes, unsigned-form, negative-yes, negative-zero, negative-no}
use Rattle.field.proofs.negative_of.Goals as goal

other : (t : ℕ) → (t ≡ 0) ⊎ ((t ≡ 2) ⊎ ((t ≡ 3) ⊎ (t ≡ 4))) → t ≡ 1 → ⊥
other t (inl e) h = omega arith
other t (inr (inl e)) h = omega arith
other t (inr (inr (inl e))) h = omega arith
other t (inr (inr (inr e))) h = omega arith

pub returns-then-v-eq0 : goal.returns-then-v-eq0
returns-then-v-eq0 c =
    let f = unsigned-form c.args.s.now _ (sym c.unsigned_of-f.ensures ∙ c.in-Plus.is) in
    negative-zero _ f.0 (f.1 ∙ c.if-v-eq0.true)

pub returns-in-Plus : goal.returns-in-Plus
returns-in-Plus c =
    let f = unsigned-form c.args.s.now _ (sym c.unsigned_of-f.ensures ∙ c.in-Plus.is) in
    ap Minus (sym f.1) ∙ negative-yes _ f.0 (λ z. c.if-v-eq0.false (sym f.1 ∙ z))

pub returns : goal.returns
returns c =
    let s = c.args.s.now in
    by-test (digits_in_form s)
    (λ t. absurd (c.in_default.not-Plus _ (c.unsigned_of-f.ensures ∙ sym (unsigned-yes s t)))) (negative-no s)
