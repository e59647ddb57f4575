-- What a reader without a record hands back gives the faces that were read, and so the record.
use Prim.Native.Nat.{ℕ, ◌*◌, ◌≤◌, ◌<◌}
use mathlib.Core.Path.{◌≡◌, refl}
use mathlib.Core.List.{List}
use native.Mathlib.Omega.{arith}
use lib.IntN.{pos}
use lib.ListN.{length}
use Rattle.whole.specs.Lists.{first_of, Every}
use Rattle.whole.proofs.Lists.{every-by}
use Rattle.lines.specs.Lines.{lines_in}
use Rattle.entry.specs.Flat.{per_face, faces_in, flat_faces}
use Rattle.entry.proofs.Flat.{faces-back}
use Rattle.job.specs.Carried.{Carried, no_face, most_faces, recorded}
use Rattle.job.specs.InOrder.{InOrder}
use Rattle.job.specs.Setting.{record_with}
use Rattle.job.specs.Walk.{Accepted}
use Rattle.job.proofs.InOrder.{accepted-in-order}
use Rattle.job.proofs.Room.{few-faces}
use Rattle.sheet.specs.Head.{head_in}
use Rattle.sheet.specs.Sheet.{reading}

pub reading-in-order : (s : List ℕ) (c : Carried) → reading s ≡ Accepted c → InOrder c
unfolding reading
reading-in-order s c a = accepted-in-order (lines_in s) c a

-- a zone is one of the letters from A to H
pub small-zones : (c : Carried) → InOrder c → Every (λ f. f.zone < 256) c.faces
small-zones c o = every-by (λ f i. omega (arith, i.zone.high)) c.faces o.faces

-- the faces of what was read, from the numbers in a list with room for them
pub faces-read : (s : List ℕ) (c : Carried) → reading s ≡ Accepted c → (n : ℕ) → per_face * length c.faces ≤ n
    → faces_in (length c.faces) (first_of (pos 0) n (flat_faces c.faces)) ≡ c.faces
faces-read s c a n room = faces-back c.faces (small-zones c (reading-in-order s c a)) n room

-- no more than a record has room for
pub few-read : (s : List ℕ) (c : Carried) → reading s ≡ Accepted c → length c.faces ≤ most_faces
few-read s c a = few-faces c (reading-in-order s c a)

-- the record of what was read, in parts
pub recorded-parts : (c : Carried)
    → recorded c ≡ record_with (head_in c).setting
    (record { count = length c.faces; entry = first_of no_face most_faces c.faces })
unfolding recorded
recorded-parts c = refl
