-- No sheet of any year has more entries in a section than a record has room for faces, and none up to year 3 more than
-- 24 faces.
use Prim.Native.Nat.{◌≤◌}
use mathlib.Core.Path.{◌≡◌, refl}
use native.Mathlib.Omega.{arith}
use lib.IntN.{ℤ, pos, negsuc}
use lib.ListN.{length}
use lib.Signed.{◌≤ℤ◌, lt_z}
use borrow.Author.Tests.{le-ltb}
use Rattle.whole.proofs.Parts.{le-at}
use Rattle.whole.proofs.Tests.{by-test}
use Rattle.building.specs.Year.{face_limit}
use Rattle.rules.specs.declared.Section.{Section}
use Rattle.rules.specs.declared.Section.TheVariants.{«V», B, W, I, P, F}
use Rattle.rules.specs.Sections.{about}
use Rattle.job.specs.Carried.{Carried, most_faces}
use Rattle.job.specs.InOrder.{InOrder}

pub limit-roomed : (year : ℤ) → face_limit year ≤ most_faces
limit-roomed year = by-test (lt_z (pos 3) year) (λ t. rw t (omega arith)) (λ t. rw t (omega arith))

pub most-roomed : (year : ℤ) (s : Section) → (about s).most year ≤ most_faces
most-roomed year «V» = omega arith
most-roomed year B = omega arith
most-roomed year W = omega arith
most-roomed year I = omega arith
most-roomed year P = omega arith
most-roomed year F = limit-roomed year

pub few-faces : (c : Carried) → InOrder c → length c.faces ≤ most_faces
few-faces c o = omega (arith, o.faces-counted.high, limit-roomed c.year)

-- ---- up to year 3

pub limit-early : (year : ℤ) → year ≤ℤ pos 3 → face_limit year ≡ 24
limit-early (pos n) h = rw (le-ltb 3 n (omega (arith, le-at _ _ h)))
limit-early (negsuc n) h = refl

pub few-early : (c : Carried) → InOrder c → c.year ≤ℤ pos 3 → length c.faces ≤ 24
few-early c o h = omega (arith, o.faces-counted.high, limit-early c.year h)
