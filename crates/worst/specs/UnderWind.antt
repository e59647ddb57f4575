-- One face under one wind: whether it takes part, the wind's speed there, and the pressure number.
use Rattle.std.specs.Prelude.{false, cond, ◌&&◌, ℕ, pos}
use Rattle.entry.specs.declared.Wind.{Wind}
use Rattle.entry.specs.declared.Face.{Face}
use Rattle.job.specs.Walk.{Reading, Accepted, Refused}
use Rattle.worst.specs.declared.UnderWind.{UnderWind}
use Rattle.worst.specs.Forces.{Given, acts, face_speed, pressure, wind_at, face_at}
use Rattle.worst.specs.PerFace.{numbered}
use Rattle.worst.specs.Worst.{given}

abbrev pub under_wind : Given → Wind → Face → UnderWind
under_wind g w f =
    let v = face_speed g.profile w f in
    record { acts = acts f w.direction; speed = v; pressure = pressure g.density v }

-- zeros where there is no wind or no face of a number, or no job that is accepted
abbrev pub not_under : UnderWind
not_under = record { acts = false; speed = pos 0; pressure = pos 0 }

abbrev pub under_at : Given → ℕ → ℕ → UnderWind
under_at g w k =
    cond (numbered g.winds w && numbered g.faces k) (under_wind g (wind_at g w) (face_at g k)) not_under

abbrev pub under_in : ℕ → ℕ → Reading → UnderWind
under_in w k (Accepted c) = under_at (given c) w k
under_in w k (Refused v) = not_under
