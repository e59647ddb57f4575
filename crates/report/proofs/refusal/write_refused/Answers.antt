-- `write_refused` meets its contract: 30 bytes hold any two numbers, so `emit` is handed the whole text.
use Rattle.page.proofs.Put.{emitted}
use Rattle.report.proofs.Lengths.{refused-most}
use Rattle.report.proofs.refusal.write_refused.Goals as goal

pub returns : goal.returns
returns c =
    -- that the two numbers have 32 bits
    let two = c.well_formed.0.1.1 in
    emitted c.put_refused-n.ensures
    (refused-most c.args.v (record { fits = two.0.1 }) (record { fits = two.1.0.1 })) c.args.buf.now
    c.emit.ensures
