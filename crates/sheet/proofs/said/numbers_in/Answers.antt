-- `numbers_in` meets its contract: six fields, one after another.
-- a field's number, read back
use Prim.Native.Nat.{ℕ, ◌^◌, ◌<◌}
use mathlib.Core.Path.{◌≡◌, ap, ◌∙◌}
use mathlib.Core.List.{List, [], ◌∷◌}
use lib.IntN.{ℤ}
use lib.Signed.{mag}
use mir.Syntax.{w64}
use mir.Val.{to_z, of_z}
use Rattle.whole.proofs.Size.{returned}
use Rattle.field.specs.declared.Field.{Field}
use Rattle.lines.specs.Held.{held}
use Rattle.entry.specs.Says.{number, at}
use Rattle.sheet.proofs.said.numbers_in.Goals as goal

pub field-number : (fs : List Field) (i : ℕ) {f : Field} {z : ℤ} → f ≡ at fs i → z ≡ number f → mag z < 2 ^ 63
    → to_z w64 (of_z w64 z) ≡ number (at fs i)
field-number fs i {f} {z} e n h = (returned w64 z h).same ∙ n ∙ ap number e

pub returns : goal.returns
returns c =
    let x = c.args.x in
    let fs = held x in
    let n0 = field-number fs 0 c.field_at.ensures c.number_of.ensures c.number_of.type_inv in
    let n1 = field-number fs 1 c.field_at-2.ensures c.number_of-2.ensures c.number_of-2.type_inv in
    let n2 = field-number fs 2 c.field_at-3.ensures c.number_of-3.ensures c.number_of-3.type_inv in
    let n3 = field-number fs 3 c.field_at-4.ensures c.number_of-4.ensures c.number_of-4.type_inv in
    let n4 = field-number fs 4 c.field_at-5.ensures c.number_of-5.ensures c.number_of-5.type_inv in
    let n5 = field-number fs 5 c.field_at-6.ensures c.number_of-6.ensures c.number_of-6.type_inv in
    λ i. record { next = x.next; number = n0 i ∷ n1 i ∷ n2 i ∷ n3 i ∷ n4 i ∷ n5 i ∷ [] }
