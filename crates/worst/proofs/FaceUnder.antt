-- One face of a job under one of its winds, as the code finds it: by the places of the two in the record.
use mathlib.Core.Path.{◌≡◌, sym, ap, ◌∙◌}
use mathlib.Core.Bool.{Bool, cond, ◌&&◌}
use Prim.Native.Nat.{ℕ, ◌-◌, ◌≤◌}
use native.Mathlib.Omega.{arith}
use lib.Dec.{leb}
use lib.ListN.{get_or, length-map}
use Rattle.whole.proofs.Lists.{first_of-length, first_of-get_d, get_d_map}
use Rattle.entry.specs.declared.Wind.{Wind}
use Rattle.entry.specs.declared.Face.{Face}
use Rattle.job.specs.declared.Job.{Job}
use Rattle.job.specs.Carried.{carried, no_wind, no_face}
use Rattle.worst.specs.declared.UnderWind.{UnderWind}
use Rattle.worst.specs.declared.speeds.Factor.{Factor}
use Rattle.worst.specs.Speed.{speed_at}
use Rattle.worst.specs.Forces.{Given, acts, factor_of, pressure, wind_at, face_at}
use Rattle.worst.specs.Worst.{given}
use Rattle.worst.specs.Engine.{faces_of}
use Rattle.worst.specs.Factors.{profile_of}
use Rattle.worst.specs.UnderWind.{under_wind, not_under, under_at}
use Rattle.worst.proofs.CarriedFaces.{as_carried, same-factor}
use Rattle.worst.proofs.PerFace.{wind-numbered, both-numbered}

module _ (j : Job) where
  abbrev g : Given
  g = given (carried j)

  -- at a factor
  abbrev pub under_at_factor : Wind → Face → Factor → UnderWind
  under_at_factor w f k =
      let v = speed_at k w.speed in
      record { acts = acts f w.direction; speed = v; pressure = pressure j.building.density v }

  pub face-numbered : (k : ℕ) → 1 ≤ k → k ≤ j.faces.count
      → face_at g k ≡ as_carried j (get_or j.faces.entry (k - 1) no_face)
  unfolding carried
  face-numbered k from to =
      let long = first_of-length no_face j.faces.count j.faces.entry in
      get_d_map (as_carried j) (faces_of j.faces) (k - 1) no_face no_face (omega (arith, long))
      ∙ ap (as_carried j) (first_of-get_d no_face j.faces.count (k - 1) j.faces.entry (omega arith))

  carried_under : (w : Wind) (f : Face)
      → under_at_factor w f (factor_of (profile_of j) f) ≡ under_wind g w (as_carried j f)
  unfolding carried
  carried_under w f = ap (under_at_factor w f) (sym (same-factor j f))

  module _ (w k : ℕ) where
    pub under-numbered : 1 ≤ w → w ≤ j.winds.count → 1 ≤ k → k ≤ j.faces.count
        → let f = get_or j.faces.entry (k - 1) no_face in
        under_at_factor (get_or j.winds.entry (w - 1) no_wind) f (factor_of (profile_of j) f)
        ≡ under_wind g (wind_at g w) (face_at g k)
    under-numbered a b c d =
        carried_under (get_or j.winds.entry (w - 1) no_wind) (get_or j.faces.entry (k - 1) no_face)
        ∙ (λ i. under_wind g (sym (wind-numbered j w k a b) i) (sym (face-numbered k c d) i))

    pub under-counted : (p q : Bool) → (leb 1 w && leb w j.winds.count) ≡ p
        → (leb 1 k && leb k j.faces.count) ≡ q
        → under_at g w k ≡ cond (p && q) (under_wind g (wind_at g w) (face_at g k)) not_under
    unfolding carried
    under-counted =
        both-numbered j w k g.faces j.faces.count
        (length-map (faces_of j.faces) (as_carried j) ∙ first_of-length no_face j.faces.count j.faces.entry)
        (under_wind g (wind_at g w) (face_at g k)) not_under
