-- `engine::sums_of` meets its contract: the factors are found, and nothing was asked for yet.
use mathlib.Core.Path.{refl}
use native.Mathlib.Omega.{arith}
use Rattle.worst.specs.Lent.{job_by}
use Rattle.worst.proofs.Accepted.{job-ready}
use Rattle.worst.proofs.engine.sums_of.Goals as goal

pub fill-requires : goal.fill-requires
fill-requires c =
    let j = job_by c.args.s c.args.faces c.args.flat.now in
    let few = c.requires.0.few in (
      record { numbered = c.requires.0; room = omega arith },
      refl,
      (job-ready j c.requires.1).profiled,
    )

pub all_cells-requires : goal.all_cells-requires
all_cells-requires c =
    let few = c.requires.0.few in (
      record {
        numbered = c.requires.0;
        room = omega (arith, c.fill.auto);
      },
      c.requires.1,
      c.fill.ensures,
      c.new-table.ensures,
    )

pub returns : goal.returns
returns c = c.all_cells.ensures
