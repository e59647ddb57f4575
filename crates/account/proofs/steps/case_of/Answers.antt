-- `steps::case_of` meets its contract: what has a number stands one place before it.
use mathlib.Core.Path.{sym, ◌∙◌}
use Prim.Native.Nat.{◌-◌}
use lib.IntN.{pos}
use lib.ListN.{get_or}
use mir.Syntax.{w64}
use mir.Val.{SFits}
use mir.ValLaws.{to_z-of_z}
use borrow.Author.Rules.{rules}
use Rattle.worst.proofs.PerFace.{wind-numbered, internal-numbered}
use Rattle.account.proofs.steps.case_of.Goals as goal

pub returns : goal.returns
returns c =
    let a = c.args in
    let p = c.requires in
    let fits : SFits w64 (get_or a.job.internals.entry (a.internal - 1) (pos 0)) = search rules in
    λ i. record {
      wind = sym (wind-numbered a.job a.wind a.internal p.0 p.1) i;
      internal =
          (to_z-of_z w64 _ fits ∙ sym (internal-numbered a.job a.wind a.internal p.3 p.4)) i;
    }
