-- `entry_at` meets its contract: the numbers of a line, section by section.
use native.Mathlib.Omega.{arith}
use mathlib.Core.Logic.{inl, inr}
use Rattle.std.proofs.lemmas.Option.{IfSome_then}
use Rattle.sheet.proofs.PlainLine.{numbers-plain}
use Rattle.sheet.proofs.said.entry_at.Goals as goal

pub returns-in-V : goal.returns-in-V
returns-in-V c =
    let a = c.args in
    IfSome_then c.numbers_at.result c.numbers_at.ensures
    (λ w h heights.
    let p = numbers-plain 1 a.s.now a.at w (omega arith) (omega arith) h in
    elim c.in-V.is [ inl e ↦ rw e p | inr e ↦ rw e p ])

pub returns-in-W : goal.returns-in-W
returns-in-W c =
    let a = c.args in
    IfSome_then c.numbers_at-in-W.result c.numbers_at-in-W.ensures
    (λ w h heights.
    let p = numbers-plain 2 a.s.now a.at w (omega arith) (omega arith) h in
    elim c.in-W.is [ inl e ↦ rw e p | inr e ↦ rw e p ])

pub returns-in-B : goal.returns-in-B
returns-in-B c =
    let a = c.args in
    IfSome_then c.numbers_at-in-B.result c.numbers_at-in-B.ensures
    (λ w h heights. rw c.in-B.is (numbers-plain 6 a.s.now a.at w (omega arith) (omega arith) h))
