-- `reach::first_field`: what stands before the first space.
use Prim.Native.Nat.{ℕ, ◌+◌, ◌-◌}
use mathlib.Core.Path.{◌≡◌, ◌∙◌}
use mathlib.Core.List.{List}
use native.Mathlib.Omega.{arith}
use lib.ListN.{take}
use Rattle.field.specs.Field.{field_from}
use Rattle.lines.specs.Lines.{fields_of}
use Rattle.lines.specs.Held.{until}
use Rattle.lines.proofs.Lines.{split-until}
use Rattle.entry.specs.Says.{at}
use Rattle.slip.proofs.reach.first_field.Goals as goal

first_of : (l : List ℕ) (n : ℕ) → n ≡ 0 + until 32 l → field_from (take (n - 0) l) ≡ at (fields_of l) 0
unfolding fields_of
first_of l n e =
    let q : n - 0 ≡ until 32 l = omega (arith, e) in
    rw (split-until 32 l, q)

pub slice_bounds-field_of-end : goal.slice_bounds-field_of-end
slice_bounds-field_of-end c = omega (arith, c.until-end.ensures.1)

pub returns : goal.returns
returns c =
    c.field_of.ensures ∙ first_of c.args.l.now c.until-end.result c.until-end.ensures.0
