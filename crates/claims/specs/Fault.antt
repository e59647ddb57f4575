-- What a bad sheet or job gets, and what one without a fault gets. Its lines of fields are those of the text, or
-- those that the record's sheet would have.
use Rattle.std.specs.Prelude.{◌≡◌, List, ℕ, ◌+◌}
use Rattle.verdict.specs.declared.Verdict.{Verdict}
use Rattle.verdict.specs.Verdict.{refusal}
use Rattle.field.specs.declared.Field.{Field}
use Rattle.job.specs.Carried.{nothing}
use Rattle.job.specs.Walk.{opening, sheet}
use Rattle.job.specs.FirstFault.{FirstFault, NoFault}
use Rattle.claims.specs.Contract.{Always}

-- the line is that of the first faulty line, counted from 1, and the number the lowest of its faults
pub data Faulty (xs : List (List Field)) : Verdict → Type 0 where
  at : {n i : ℕ} → FirstFault (sheet (opening xs)) nothing xs n i → Faulty xs (refusal n (1 + i))

abbrev pub Faultless : List (List Field) → Type 0
Faultless xs = NoFault (sheet (opening xs)) nothing xs

module _ {L : Type 0} {A R S : L → Type 0} (Post : (κ : L) → A κ → R κ → S κ → Type 0)
    (lines : (κ : L) → A κ → List (List Field)) where
  -- the result is what `answer` makes of that number and line, and nothing else
  abbrev pub GetsFault : ((κ : L) → A κ → Verdict → R κ) → Type 0
  GetsFault answer = Always Post (λ κ a r s. (v : Verdict) → Faulty (lines κ a) v → r ≡ answer κ a v)

  -- where no line has a fault, the result is as `accepted` says
  abbrev pub GetsAccepted : ((κ : L) → R κ → Type 0) → Type 0
  GetsAccepted accepted = Always Post (λ κ a r s. Faultless (lines κ a) → accepted κ r)
