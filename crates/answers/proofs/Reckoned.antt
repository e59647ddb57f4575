-- A line of what was reckoned of a reading is that of what was read: its own refusal, or a line of its report.
use mathlib.Core.Path.{◌≡◌, refl}
use lib.IntN.{ℤ}
use Rattle.std.specs.Prelude.{IfOk, IfErr}
use Rattle.job.specs.Walk.{Reading, Accepted, Refused}
use Rattle.worst.specs.Worst.{reckoned}
use Rattle.answers.specs.Answers.{no_host_extreme, host_line, host_total}

module _ (line : ℤ) where
  pub line-shown : (x : Reading) → IfOk (reckoned x) (λ w. host_line w.year w.six line ≡ host_total x line)
  line-shown (Accepted c) = refl
  line-shown (Refused v) = tt

  pub line-refused : (x : Reading) → IfErr (reckoned x) (λ v. no_host_extreme v ≡ host_total x line)
  line-refused (Accepted c) = tt
  line-refused (Refused v) = refl
