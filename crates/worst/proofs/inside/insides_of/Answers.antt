-- `inside::insides_of` meets its contract: after i of them the furthest is that of the first i.
use mathlib.Core.Path.{◌≡◌, sym, ap, ◌∙◌, subst}
use Prim.Native.Nat.{ℕ, ◌+◌, ◌-◌, ◌<◌}
use native.Mathlib.Omega.{arith}
use lib.IntN.{pos, ◌*ℤ◌}
use lib.ListN.{get_or}
use Rattle.whole.proofs.Size.{times-small}
use Rattle.job.specs.declared.Internals.{Internals}
use Rattle.worst.specs.Inside.{inside_numbered, Furthest, InsideSmall, InsidesSmall}
use Rattle.worst.specs.Small.{LowInternals}
use Rattle.worst.proofs.InsideSides.{alike, with_inside, furthest-one, furthest-next, with-small}
use Rattle.worst.proofs.inside.insides_of.Invariants.{made}
use Rattle.worst.proofs.inside.insides_of.Goals.{In-loop-i, Start}
use Rattle.worst.proofs.inside.insides_of.Goals as goal

-- one that counts is small
small : (is : Internals) → LowInternals is → (i : ℕ) → i < is.count → InsideSmall (inside_numbered is (i + 1))
small is low i h =
    let e : i ≡ i + 1 - 1 = omega arith in
    subst (λ k. InsideSmall (record { part = get_or is.entry k (pos 0) *ℤ pos 10; number = i + 1 })) e
    (times-small (get_or is.entry i (pos 0)) (pos 10) {k = 100} {l = 10} (low.1 i h) (omega arith))

module _ (d : In-loop-i) where
  abbrev a : Start
  a = (goal.at.In-loop-i d).Start

  counted : d.loop-i.i < a.args.internals.count
  counted = d.loop-i-test.true

pub inside_at-first-requires : goal.inside_at-first-requires
inside_at-first-requires c = c.requires

pub loop-i-init : goal.loop-i-init
loop-i-init c =
    let is = c.args.internals in
    let e = c.inside_at-first.ensures in
    let one = small is c.requires.0 0 c.requires.1 in (
      subst (λ t. InsidesSmall (alike is t)) (sym e) (record { first = one; low = one; high = one }),
      subst (λ t. Furthest is 1 (alike is t)) (sym e) (furthest-one is),
    )

pub inside_at-next-requires : goal.inside_at-next-requires
inside_at-next-requires c = (c.requires.0, counted c)

pub loop-i-preserved : goal.loop-i-preserved
loop-i-preserved c =
    let is = c.args.internals in
    let loop = c.loop-i in
    let first = c.inside_at-first.result in
    let next = c.inside_at-next.result in
    let t = counted (goal.at.loop-i-preserved c).In-loop-i in
    let old = made first loop.low loop.high in
    let same : made first c.the_further-low.result c.the_further-high.result ≡ with_inside old (inside_numbered is (loop.i + 1)) =
    (λ j. made first (c.the_further-low.ensures j) (c.the_further-high.ensures j))
    ∙ ap (with_inside old) c.inside_at-next.ensures in (
      subst InsidesSmall (sym same)
          (with-small old (inside_numbered is (loop.i + 1)) loop.invariant.0 (small is c.requires.0 loop.i t)),
      subst (Furthest is (loop.i + 1)) (sym same) (furthest-next is loop.i old loop.invariant.1),
    )

pub returns : goal.returns
returns c =
    let l = c.loop-i in
    let is = c.args.internals in
    let left = c.loop-i-test.false in
    let all : l.i ≡ is.count = omega (arith, c.requires.1) in
    let t = made c.inside_at-first.result l.low l.high in
    (l.invariant.0, subst (λ n. Furthest is n t) all l.invariant.1)
