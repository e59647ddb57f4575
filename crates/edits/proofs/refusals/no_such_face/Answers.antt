-- `refusals::no_such_face`: both numbers are read back as they are.
use mathlib.Core.Path.{◌≡◌, sym, ap₂, ◌∙◌}
use Prim.Native.Nat.{◌≤◌}
use native.Mathlib.Omega.{arith}
use mir.Syntax.{w64}
use lib.IntN.{ℤ, pos}
use Rattle.whole.proofs.Size.{nat, returned}
use Rattle.building.specs.Test.{beyond}
use Rattle.edits.proofs.refusals.no_such_face.Goals.{After-beyond}
use Rattle.edits.proofs.refusals.no_such_face.Goals as goal

tested : (c : After-beyond)
    → let a = c.args in c.beyond.result ≡ beyond (pos 1) (pos a.j.faces.count) a.k
tested c =
    let known : c.args.j.faces.count ≤ 4294967295 = omega (arith, c.struct_known-1.given.1.1.1.1.1.0.0) in
    c.beyond.ensures
    ∙ ap₂ (λ (m z : ℤ). beyond (pos 1) m z)
    (nat w64 {n = c.args.j.faces.count} 4294967295 known tt).same
    (returned w64 c.args.k c.ranges.k.sfits).same

pub returns-then-beyond : goal.returns-then-beyond
returns-then-beyond c = rw (sym (tested (goal.at.returns-then-beyond c).After-beyond) ∙ c.if-beyond.true)

pub returns : goal.returns
returns c = rw (sym (tested (goal.at.returns c).After-beyond) ∙ c.if-beyond.false)
