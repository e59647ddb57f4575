-- `shares::share_of` meets its contract: one more newton fits, however large the force is.
use mathlib.Core.Path.{◌≡◌, sym, ap, subst, ◌∙◌}
use mathlib.Core.Bool.{Bool, cond}
use Prim.Native.Nat.{◌≤◌, ◌<◌, ◌^◌}
use borrow.Author.Rules.{rules}
use borrow.Author.Tests.{lt-ltb, le-ltb}
use lib.IntN.{ℤ, pos, nat_abs, ◌+ℤ◌}
use lib.Dec.{ltb}
use lib.Signed.{lt_z, mag}
use mir.Syntax.{w64}
use Rattle.whole.specs.Newton.{newtons}
use Rattle.whole.proofs.Newton.{newtons-few}
use Rattle.whole.proofs.Size.{Num, num, param≤, fit, back, said, ◌⊕◌}
use Rattle.sharing.specs.Column.{own_force, ahead, missing, share_of}
use Rattle.sharing.proofs.shares.share_of.Goals.{After-how_many_ahead, After-newtons-down, Start}
use Rattle.sharing.proofs.shares.share_of.Goals as goal

-- the force rounded down
module _ (c : After-newtons-down) where
  abbrev force : ℤ
  force = own_force c.args.forces.now c.args.face

  small : mag force < 2 ^ 63
  small = search rules

  rounded : c.newtons-down.result ≡ newtons force
  rounded = said newtons force c.newtons-down.ensures small

  abbrev down : Num
  down =
      param≤ {w = w64} {z = c.newtons-down.result} {k = 461_168_602} (record { sfits = c.newtons-down.type_inv })
      (subst (λ z. nat_abs z ≤ 461_168_602) (sym rounded) (newtons-few force small))

-- the test, and what comes of it
module _ (c : After-how_many_ahead) where
  abbrev a : Start
  a = (goal.at.After-how_many_ahead c).Start

  abbrev down_own : ℤ
  down_own = newtons (force (goal.at.After-how_many_ahead c).After-newtons-down)

  tested : ltb c.how_many_ahead.result a.args.count
      ≡ lt_z (pos (ahead a.args.forces.now a.args.face)) (missing a.args.forces.now)
  tested = λ k. lt_z (pos (c.how_many_ahead.ensures k)) (a.requires.1 k)

  shared : {t : Bool} → ltb c.how_many_ahead.result a.args.count ≡ t
      → cond t (down_own +ℤ pos 1) down_own
      ≡ share_of a.args.forces.now a.args.face
  unfolding share_of
  shared e = ap (λ t. cond t (down_own +ℤ pos 1) down_own) (sym e ∙ tested)

pub overflow_add-result : goal.overflow_add-result
overflow_add-result c = fit (down (goal.at.overflow_add-result c).After-newtons-down ⊕ num (pos 1)) tt

pub returns-then-how_many_ahead-count : goal.returns-then-how_many_ahead-count
returns-then-how_many_ahead-count c =
    let d = (goal.at.returns-then-how_many_ahead-count c).After-newtons-down in
    let h = (goal.at.returns-then-how_many_ahead-count c).After-how_many_ahead in
    (back w64 (down d ⊕ num (pos 1)) tt).same
    ∙ ap (λ z. z +ℤ pos 1) (rounded d)
    ∙ shared h (lt-ltb _ _ c.if-how_many_ahead-count.true)

pub returns : goal.returns
returns c =
    let d = (goal.at.returns c).After-newtons-down in
    let h = (goal.at.returns c).After-how_many_ahead in
    (down d).same ∙ rounded d ∙ shared h (le-ltb _ _ c.if-how_many_ahead-count.false)
