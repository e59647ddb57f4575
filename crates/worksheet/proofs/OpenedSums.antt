-- The sums of a sheet that was opened.
use mathlib.Core.Path.{◌≡◌, refl, ap}
use mathlib.Core.List.{List}
use Prim.Native.Nat.{ℕ}
use native.Mathlib.Omega.{arith}
use lib.ListN.{length}
use Rattle.whole.specs.Lists.{first_of}
use Rattle.lines.specs.Lines.{lines_in}
use Rattle.job.specs.Carried.{Carried, carried, recorded, no_job}
use Rattle.job.specs.Lines.{lines_of}
use Rattle.job.specs.Walk.{Reading, Accepted, Refused, judged}
use Rattle.job.proofs.InOrder.{accepted-in-order}
use Rattle.job.proofs.Records.{recorded-accepted}
use Rattle.job.proofs.RoundTrip.{judged-carried}
use Rattle.sheet.specs.Sheet.{reading, answer}
use Rattle.worst.specs.Stored.{stored_of, stored_in, none_stored}
use Rattle.worksheet.specs.Worksheet.{opened}

-- the record that is all zero is refused: it has no winds
none-reckoned : stored_in (judged no_job) ≡ none_stored
unfolding judged carried recorded first_of
none-reckoned = go (judged no_job) refl
  where
    go : (x : Reading) → judged no_job ≡ x → stored_in x ≡ none_stored
    go (Accepted c) e =
        let o = accepted-in-order (lines_of (carried no_job)) c e in
        absurd (omega (arith, o.winds-counted.low, ap (λ d. length d.winds) (judged-carried no_job c e)))
    go (Refused v) e = refl

pub opened-reckoned : (s : List ℕ) → stored_in (judged (answer (reading s)).job) ≡ (opened (reading s)).worksheet.sums
unfolding reading
opened-reckoned s = go (reading s) refl
  where
    go : (x : Reading) → reading s ≡ x → stored_in (judged (answer x).job) ≡ (opened x).worksheet.sums
    go (Accepted c) e = ap stored_in (recorded-accepted (lines_in s) c e)
    go (Refused v) e = none-reckoned

-- an accepted sheet's worksheet holds its job, with its sums
pub opened-sums : (s : List ℕ) (c : Carried) → reading s ≡ Accepted c → let w = (opened (reading s)).worksheet in
    (judged w.job ≡ Accepted c) × (w.sums ≡ stored_of c)
unfolding reading
opened-sums s c e = rw e (recorded-accepted (lines_in s) c e, refl)
