-- `write_answer`: the answer is never refused for room.
use Rattle.std.proofs.Common.{arith}
use Rattle.totals.proofs.Short.{has-room}
use Rattle.totals.proofs.write_answer.Goals as goal

pub returns-in_default-2-clause-answer : goal.returns-in_default-2-clause-answer
returns-in_default-2-clause-answer c =
    absurd
    (has-room c.args.text.now c.args.lines.now c.in_default.field-0 (omega (arith, c.told-lines))
    c.write_totals.ensures.0 c.in_default.is)
