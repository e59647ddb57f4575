-- `faces::replaced`: one entry is set.
use native.Mathlib.Omega.{arith}
use Rattle.edits.proofs.Held.{replaced-is}
use Rattle.edits.proofs.faces.replaced.Goals as goal

pub returns : goal.returns
returns c =
    let l = c.args.held.entry in
    let room = c.well_formed.0.1.1.1.0.1.0.1 in
    replaced-is c.args.held.count l c.args.k c.requires.0 c.requires.1 (omega (arith, room, c.requires.2))
    c.args.f
