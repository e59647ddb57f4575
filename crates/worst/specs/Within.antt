-- Sums that a job of a year can have.
use Rattle.std.specs.Prelude.{Bool, true, ◌&&◌, List, [], ◌∷◌, ℕ, ◌*◌, ℤ}
use Rattle.building.specs.Year.{face_limit}
use Rattle.pair.specs.Total.{within_newtons}
use Rattle.worst.specs.declared.Span.{Span}
use Rattle.worst.specs.declared.StoredCell.{StoredCell}

-- none is larger in size than 16,500,000 N for each face that a sheet of the year may have
abbrev pub most_newtons : ℤ → ℕ
most_newtons year = 16500000 * face_limit year

abbrev pub span_within : ℕ → Span → Bool
span_within n p = within_newtons n p.greatest && within_newtons n p.least

abbrev pub cell_within : ℕ → StoredCell → Bool
cell_within n t = span_within n t.x && (span_within n t.y && span_within n t.z)

unfoldable pub all_within : ℕ → List StoredCell → Bool
all_within n [] = true
all_within n (t ∷ ts) = cell_within n t && all_within n ts
