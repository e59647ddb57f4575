-- Item 1 of paper 02: the speed at each face of an accepted job.
use mathlib.Core.Path.{◌≡◌}
use mathlib.Core.Logic.{⊎_elim}
use lib.IntN.{pos}
use Rattle.whole.specs.Lists.{Every}
use Rattle.whole.proofs.Lists.{every-by}
use Rattle.entry.specs.declared.Face.{Face}
use Rattle.job.specs.declared.Job.{Job}
use Rattle.job.specs.Carried.{Carried}
use Rattle.job.specs.Walk.{Accepted, judged}
use Rattle.worst.specs.Speed.{FactorIs}
use Rattle.worst.specs.Forces.{factor_of}
use Rattle.worst.proofs.Climb.{factor-is}
use Rattle.claims.proofs.Accepted.{job-in-order}

-- "The factor is interpolated exactly": on a step of the profile it is that step's, and between two on the straight
-- line from one to the other. In year 1 there is no profile.
abbrev pub FactorsAreExact : Type 0
FactorsAreExact = (j : Job) (c : Carried) → judged j ≡ Accepted c → (c.year ≡ pos 1 → ⊥)
    → Every (λ f. FactorIs c.profile f.height (factor_of c.profile f)) c.faces

pub factors-are-exact : FactorsAreExact
factors-are-exact j c a later =
    ⊎_elim (λ y. absurd (later y.year))
    (λ y. every-by (λ (f : Face) h. factor-is c.profile f.height y.profile y.rising h) c.faces
    y.heights)
    (job-in-order j c a).form
