-- The plain reckoning of a job: that of its worst cases, where few of its faces have two alternatives.
use Rattle.std.specs.Prelude.{Result, Bool, false, cond, ◌||◌, List, [], ◌∷◌, ℕ, leb, eqb, length}
use Rattle.whole.specs.Lists.{how_many}
use Rattle.verdict.specs.declared.Verdict.{Verdict}
use Rattle.verdict.specs.Verdict.{refusal}
use Rattle.entry.specs.declared.Face.{Face}
use Rattle.job.specs.declared.Job.{Job}
use Rattle.job.specs.Walk.{Reading, Accepted, Refused, judged}
use Rattle.worst.specs.declared.Reckoning.{Reckoning}
use Rattle.worst.specs.Forces.{Given, alternatives}
use Rattle.worst.specs.Worst.{given, reckoned}

-- one of a list has it
unfoldable pub any_of : {A : Type 0} → (A → Bool) → List A → Bool
any_of has [] = false
any_of has (x ∷ l) = has x || any_of has l

-- a face has two alternatives under at least one of the winds
abbrev pub two_somewhere : Given → Face → Bool
two_somewhere g f = any_of (λ w. eqb (length (alternatives g w f)) 2) g.winds

abbrev pub faces_with_two : Given → ℕ
faces_with_two g = how_many (two_somewhere g) g.faces

-- so many are taken, and a job with more is refused with 10
abbrev pub most_with_two : ℕ
most_with_two = 8

abbrev pub plainly : Reading → Reading
plainly (Accepted c) = cond (leb (faces_with_two (given c)) most_with_two) (Accepted c) (Refused (refusal 10 0))
plainly (Refused v) = Refused v

-- a job's own refusal comes first; one that is taken has its six extremes, as they are defined for any job
unfoldable pub plain_of : Job → Result Reckoning Verdict
plain_of j = reckoned (plainly (judged j))
