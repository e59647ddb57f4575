-- What a record has room for. Only the contract of a private function cites it.
use Rattle.std.specs.Prelude.{◌≤◌, length}
use Rattle.whole.specs.Lists.{Every}
use Rattle.building.specs.Year.{has_heights}
use Rattle.rules.specs.Sections.{about, sections}
use Rattle.job.specs.Carried.{Carried}
use Rattle.job.specs.Lines.{entries_of}

abbrev pub Roomed : Carried → Type 0
Roomed c = Every (λ s. length (entries_of c s) ≤ (about s).most c.year) (sections (has_heights c.year))
