-- A job that is not refused is in order, and so are its counts.
use mathlib.Core.Path.{◌≡◌, sym, ap, ◌∙◌}
use mathlib.Core.Logic.{⊎_elim}
use mathlib.Core.Bool.{true, true≢false}
use Prim.Native.Nat.{◌≤◌}
use native.Mathlib.Omega.{arith}
use lib.IntN.{pos}
use lib.ListN.{length-map}
use Rattle.verdict.specs.declared.Verdict.{Verdict}
use Rattle.whole.specs.Lists.{first_of}
use Rattle.whole.proofs.Lists.{first_of-length}
use Rattle.building.specs.Year.{has_heights, face_limit}
use Rattle.entry.specs.Says.{carried_face}
use Rattle.job.specs.declared.Job.{Job}
use Rattle.job.specs.Carried.{carried, no_wind, no_step, no_face, most_faces}
use Rattle.job.specs.InOrder.{InOrder}
use Rattle.job.specs.Lines.{lines_of}
use Rattle.job.specs.Walk.{judged}
use Rattle.job.proofs.InOrder.{accepted-in-order}
use Rattle.job.proofs.Room.{limit-roomed}
use Rattle.job.proofs.Verdicts.{judged-accepted}
use Rattle.edits.specs.Edits.{held_job}

pub held-in-order : (j : Job) (v : Verdict) → v ≡ held_job j → v.number ≡ 0 → InOrder (carried j)
unfolding judged
held-in-order j v e z = accepted-in-order (lines_of (carried j)) (carried j) (judged-accepted j v e z)

module _ (j : Job) (o : InOrder (carried j)) where
  pub few-winds : j.winds.count ≤ 8
  unfolding carried
  few-winds = omega (arith, o.winds-counted.high, first_of-length no_wind j.winds.count j.winds.entry)

  pub few-internals : j.internals.count ≤ 4
  unfolding carried
  few-internals =
      omega (arith, o.internals-counted.high, first_of-length (pos 0) j.internals.count j.internals.entry)

  pub few-faces : (1 ≤ j.faces.count) × (j.faces.count ≤ face_limit (carried j).year)
  unfolding carried
  few-faces =
      let n = o.faces-counted in
      let l = first_of no_face j.faces.count j.faces.entry in
      let all =
      length-map l (carried_face (has_heights j.year)) ∙ first_of-length no_face j.faces.count j.faces.entry in
      (omega (arith, n.low, all), omega (arith, n.high, all))

  -- the record has room for them
  pub roomed : j.faces.count ≤ most_faces
  roomed = omega (arith, few-faces.1, limit-roomed (carried j).year)

  pub few-steps : has_heights j.year ≡ true → j.profile.count ≤ 16
  unfolding carried
  few-steps h =
      ⊎_elim (λ y. absurd (true≢false (sym h ∙ ap has_heights y.year)))
      (λ y. omega (arith, rw h at y.counted.high, first_of-length no_step j.profile.count j.profile.entry))
      o.form
