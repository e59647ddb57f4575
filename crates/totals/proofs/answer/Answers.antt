-- `answer`: what was read decides the answer to all of the input.
use Rattle.std.proofs.Common.{take, length-take-le, arith}
use Rattle.totals.proofs.Decided.{whole-answer}
use Rattle.totals.proofs.answer.Goals as goal

pub returns : goal.returns
returns g c =
    let got = c.in_ok-got.got in
    let read = c.in_ok-got.ensures in
    let long = length-take-le got c.fill.new.buf read.within in
    whole-answer c.write_all.result _ _ _ _ (take got c.fill.new.buf) _ read.bytes
    (λ few. read.end (omega (arith, long, few))) c.write_answer-n.ensures.answer c.write_all.ensures.bytes
