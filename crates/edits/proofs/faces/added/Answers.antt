-- `faces::added`: one entry is set.
use native.Mathlib.Omega.{arith}
use Rattle.edits.proofs.Held.{added_is}
use Rattle.edits.proofs.faces.added.Goals as goal

pub returns : goal.returns
returns c =
    let l = c.args.held.entry in
    let room = c.well_formed.0.1.1.1.0.1.0.1 in
    added_is c.args.held.count l c.args.f (omega (arith, room))
