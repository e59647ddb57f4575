-- `choices::ways` meets its contract: what is counted after i faces, times the choices of those that are left, is all.
use mathlib.Core.Path.{sym, ap, ◌∙◌}
use Prim.Native.Nat.{◌+◌, ◌*◌}
use native.Mathlib.Nat.{mul-le-mul_left}
use native.Mathlib.Omega.{arith}
use lib.ListN.{drop, get_or, drop_of_length-le}
use Rattle.std.proofs.lemmas.List.{drop_more}
use Rattle.worst.specs.PerFace.{no_face_forces}
use Rattle.plain.specs.ByNumber.{ways}
use Rattle.plain.proofs.Choosing.{ways-some, ways-turn}
use Rattle.plain.proofs.choices.ways.Goals as goal

pub with_face-n-requires : goal.with_face-n-requires
with_face-n-requires c =
    omega (arith, mul-le-mul_left c.loop-f.n (ways-some (drop c.loop-f.f-index c.args.fs.now)), c.requires)

pub loop-f-preserved : goal.loop-f-preserved
loop-f-preserved c =
    let fs = c.args.fs.now in
    let i = c.loop-f.f-index in
    ap (λ m. m * ways (drop (i + 1) fs)) c.with_face-n.ensures
    ∙ ways-turn (get_or fs i no_face_forces) (drop (i + 1) fs) c.loop-f.n
    ∙ ap (λ l. c.loop-f.n * ways l) (sym (drop_more fs i no_face_forces c.loop-f-test.true))
    ∙ c.loop-f.invariant

pub returns : goal.returns
unfolding ways
returns c =
    let fs = c.args.fs.now in
    let all = ap (λ l. c.loop-f.n * ways l) (drop_of_length-le fs {i = c.loop-f.f-index} c.loop-f-test.false) in
    omega (arith, all, c.loop-f.invariant)
