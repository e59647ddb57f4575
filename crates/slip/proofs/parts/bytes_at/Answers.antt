-- `parts::bytes_at`: behind the line's first byte, where a field is asked for.
use Prim.Native.Nat.{ℕ, zero, suc, ◌+◌, ◌-◌, ◌≤◌}
use mathlib.Core.Path.{◌≡◌, refl}
use mathlib.Core.List.{List}
use native.Mathlib.Omega.{arith}
use Rattle.slip.specs.declared.parts.Part.{Part}
use Rattle.slip.specs.Slip.{part_of, bytes_at}
use Rattle.slip.proofs.parts.bytes_at.Goals.{After-struct_known-2-1}
use Rattle.slip.proofs.parts.bytes_at.Goals as goal

field-bytes : (field : ℕ) (line p : Part) (l : List ℕ) → (field ≡ 0 → ⊥) → p ≡ part_of 32 (field - 1) l
    → record { from = line.from + p.from; to = line.from + p.to } ≡ bytes_at field line l
unfolding bytes_at
field-bytes zero line p l h e = absurd (h refl)
field-bytes (suc n) line p l h e =
    let q : suc n - 1 ≡ n = omega arith in
    rw (e, q)

fits : (c : After-struct_known-2-1)
    → (c.part_of-p.result.from ≤ c.part_of-p.result.to) ×
    (c.args.line.from + c.part_of-p.result.to ≤ c.args.line.to)
fits c =
    let e = c.part_of-p.ensures in
    (omega (arith, e.1), omega (arith, e.2, c.requires))

pub returns-then-field-eq0 : goal.returns-then-field-eq0
unfolding bytes_at
returns-then-field-eq0 c = rw c.if-field-eq0.true

pub overflow_add-result : goal.overflow_add-result
overflow_add-result c = omega (arith, fits c)

pub overflow_add-result-2 : goal.overflow_add-result-2
overflow_add-result-2 c = omega (arith, fits (goal.at.overflow_add-result-2 c).After-struct_known-2-1)

pub returns : goal.returns
returns c =
    let a = c.args in
    field-bytes a.field a.line c.part_of-p.result a.l.now c.if-field-eq0.false c.part_of-p.ensures.0
