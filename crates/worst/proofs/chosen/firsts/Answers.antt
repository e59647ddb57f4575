-- `chosen::firsts` meets its contract: after i faces the first i stand.
use mathlib.Core.Path.{◌≡◌, refl, ap, ◌∙◌}
use Prim.Native.Nat.{◌<◌}
use native.Mathlib.Omega.{arith}
use lib.ListN.{set, replicate, length-replicate, replicate-append-replicate}
use Rattle.worst.specs.Shown.{padded}
use Rattle.worst.proofs.Padded.{padded-set}
use Rattle.worst.proofs.chosen.firsts.Goals.{In-loop-i}
use Rattle.worst.proofs.chosen.firsts.Goals as goal

room : (c : In-loop-i) → c.loop-i.i < 240
room c = let t = c.loop-i-test.true in omega (arith, c.requires)

pub loop-i-init : goal.loop-i-init
unfolding padded
loop-i-init c = refl

pub bounds-all-i : goal.bounds-all-i
bounds-all-i = room

pub loop-i-preserved : goal.loop-i-preserved
loop-i-preserved c =
    let i = c.loop-i.i in
    ap (λ l. set l i 1) c.loop-i.invariant
    ∙ padded-set 240 (replicate i 1) i 1 (length-replicate i 1) (room c)
    ∙ ap (padded 240) (replicate-append-replicate i 1 1)

pub returns : goal.returns
returns c =
    let all : c.loop-i.i ≡ c.args.count = omega (arith, c.loop-i-test.false, c.loop-i.auto.i-end) in
    c.loop-i.invariant ∙ ap (λ n. padded 240 (replicate n 1)) all
