-- `entry_said` meets its contract: a plain line is in form, and then it has the faults of its entry.
use mathlib.Core.Path.{◌≡◌, sym, ◌∙◌}
use native.Mathlib.Omega.{arith}
use Rattle.lines.specs.Held.{held, line_at}
use Rattle.building.specs.Year.{has_heights}
use Rattle.rules.specs.declared.Kind.TheVariants.{Entry}
use Rattle.rules.specs.Sections.{line_fault}
use Rattle.rules.proofs.Line.{fault-in}
use Rattle.sheet.proofs.Unless.{sound, faulty}
use Rattle.sheet.proofs.said.entry_said.Goals.{After-fault_of}
use Rattle.sheet.proofs.said.entry_said.Goals as goal

fault : (c : After-fault_of)
    → let a = c.args in c.fault_of.result ≡ line_fault (Entry a.sec) a.b (held (line_at a.s.now a.at))
fault c =
    let a = c.args in
    let fs = held (line_at a.s.now a.at) in
    let p = c.in-Some.ensures (has_heights a.b.year) in
    c.fault_of.ensures fs p.3 p.2 ∙ sym (fault-in (Entry a.sec) a.b fs p.1)

pub returns-in-0 : goal.returns-in-0
returns-in-0 c =
    let p = c.in-Some.ensures (has_heights c.args.b.year) in
    sound _ _ (sym (fault (goal.at.returns-in-0 c).After-fault_of) ∙ c.in-0.is)
    (λ i. record { next = sym p.0 i; number = p.2 i })

pub returns-in_default-fault_of : goal.returns-in_default-fault_of
returns-in_default-fault_of c =
    faulty _ _ (λ e. omega (arith, e)) (fault (goal.at.returns-in_default-fault_of c).After-fault_of)
