-- `faces::lay` meets its contract: after i faces the first i stand in the list.
use Rattle.std.proofs.Common.{◌≡◌, ◌∙◌, ◌<◌, arith, get_or, length-take, get_or-take}
use Rattle.whole.proofs.Numbers.{below_next}
use Rattle.job.specs.Carried.{no_face}
use Rattle.worst.proofs.faces.lay.Goals as goal

pub loop-i-init : goal.loop-i-init
loop-i-init c = (c.requires.1, λ k t. absurd (omega arith))

pub put-requires : goal.put-requires
put-requires c = (omega (arith, length-take c.args.faces.count c.args.faces.entry), c.loop-i.invariant.0)

pub loop-i-preserved : goal.loop-i-preserved
loop-i-preserved c =
    let l = c.loop-i in
    let p = c.put.ensures in
    let entry = c.args.faces.entry in
    let t : l.i < c.args.faces.count = omega (arith, length-take c.args.faces.count entry) in (
      p.0,
      below_next (λ k. _ ≡ get_or entry k no_face) l.i
          (λ k t. p.2 k (λ e. absurd (omega (arith, e))) ∙ l.invariant.1 k t)
          (p.1 ∙ get_or-take c.args.faces.count entry l.i no_face t),
    )

pub returns : goal.returns
returns c =
    let l = c.loop-i in
    (l.invariant.0, λ i t. l.invariant.1 i (omega (arith, length-take c.args.faces.count c.args.faces.entry)))
