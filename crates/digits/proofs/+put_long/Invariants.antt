-- The measure of `put_long` is n, which falls at n / 10.
use Rattle.digits.proofs.+put_long.Given as goal

abbrev pub decreases-put_long : goal.decreases-put_long
decreases-put_long l = l.n
