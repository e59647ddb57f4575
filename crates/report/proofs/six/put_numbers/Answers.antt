-- `put_numbers` meets its contract: after so many turns as many numbers are put.
use native.Mathlib.Omega.{arith}
use Rattle.page.proofs.Put.{put-length, put-nothing}
use Rattle.report.proofs.Lines.{spaced-none, numbers_more}
use Rattle.report.proofs.six.put_numbers.Goals as goal

pub loop-n-init : goal.loop-n-init
loop-n-init c = record {
  place = omega arith;
  bytes = rw spaced-none (put-nothing c.args.buf.now c.args.at (omega (arith, c.requires.1)));
}

pub put_digit-next-requires : goal.put_digit-next-requires
put_digit-next-requires c = (
  c.requires.0 c.loop-n.n-index,
  omega (arith, c.requires.1, put-length c.loop-n.invariant.bytes, c.loop-n.invariant.place),
)

pub loop-n-preserved : goal.loop-n-preserved
loop-n-preserved c = record {
  place = omega (arith, c.loop-n.invariant.place, c.put_digit-next.ensures.1);
  bytes =
      numbers_more c.args.ns.now c.loop-n.n-index (omega arith) c.loop-n.invariant.bytes
      c.put_digit-next.ensures.0;
}
