-- `faces::gather`: one face more is one more of the list, and so many tell all.
use mathlib.Core.Path.{◌≡◌, ap, ◌∙◌}
use Prim.Native.Nat.{◌+◌, min}
use native.Mathlib.Omega.{arith}
use lib.ListN.{length, take}
use lib.Seq.{take_all}
use Rattle.job.specs.Carried.{most_faces}
use Rattle.column.specs.Listed.{listed}
use Rattle.column.proofs.Gathered.{start, more, telling}
use Rattle.column.proofs.faces.gather.Goals as goal

pub loop-f-init : goal.loop-f-init
loop-f-init c = c.none-all.ensures ∙ start

pub loop-f-preserved : goal.loop-f-preserved
loop-f-preserved c =
    more (take c.min.result c.args.faces.now) c.loop-f.all c.put-all.result c.loop-f.f-index c.loop-f-test.true
    c.loop-f.invariant c.put-all.ensures

pub returns : goal.returns
returns c =
    let fs = c.args.faces.now in
    let n : c.min.result ≡ min (length fs) (most_faces + 1) = omega arith in
    c.loop-f.invariant
    ∙ ap listed (take_all c.loop-f.f-index (take c.min.result fs) c.loop-f-test.false)
    ∙ ap (λ k. listed (take k fs)) n
    ∙ telling fs
