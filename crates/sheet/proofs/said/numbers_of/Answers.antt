-- `numbers_of` meets its contract: the zone is a byte.
use native.Mathlib.Omega.{arith}
use mir.Syntax.{w64}
use mir.ValLaws.{to_z-of_z}
use Rattle.sheet.proofs.Plain.{byte-back}
use borrow.Author.Rules.{rules}
use Rattle.sheet.proofs.said.numbers_of.Goals as goal

pub returns : goal.returns
returns c =
    let f = c.args.f in
    rw (
      byte-back f.zone (omega arith),
      to_z-of_z w64 f.mark (search rules),
      to_z-of_z w64 f.height (search rules),
      to_z-of_z w64 f.x (search rules),
      to_z-of_z w64 f.y (search rules),
      to_z-of_z w64 f.z (search rules),
    )
