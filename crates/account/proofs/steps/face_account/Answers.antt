-- `steps::face_account` meets its contract: each part is the face's in the case of the line.
use mathlib.Core.Path.{◌≡◌, sym, ap, ◌∙◌, subst}
use mathlib.Core.Bool.{cond}
use Prim.Native.Nat.{ℕ, ◌-◌, ◌≤◌, ◌<◌}
use native.Mathlib.Omega.{arith}
use borrow.Author.Rules.{rules}
use lib.IntN.{ℤ, pos, nat_abs, ◌*ℤ◌}
use lib.ListN.{get_or, replicate}
use mir.Syntax.{w32, w64}
use mir.Val.{SFits, to_z, of_z}
use mir.ValLaws.{to_z-of_z}
use Rattle.verdict.specs.Verdict.{accepted}
use Rattle.book.specs.Question.{outside_of}
use Rattle.entry.specs.declared.Face.{Face}
use Rattle.job.specs.declared.Job.{Job}
use Rattle.job.specs.Carried.{carried, most_faces, no_face}
use Rattle.job.specs.Walk.{judged}
use Rattle.worst.specs.declared.UnderWind.{UnderWind}
use Rattle.worst.specs.Forces.{area, internal_at, face_at, wind_at}
use Rattle.worst.specs.Worst.{given}
use Rattle.worst.specs.UnderWind.{under_wind}
use Rattle.worst.proofs.PerFace.{small-outside}
use Rattle.worst.proofs.Ranges.{area_small}
use Rattle.worst.proofs.Rows.{ready}
use Rattle.worst.proofs.FaceUnder.{face-numbered}
use Rattle.answers.specs.declared.Extreme.{Extreme}
use Rattle.sharing.specs.Column.{column}
use Rattle.column.specs.Column.{axis_of, number_on, forces_shown, column_after}
use Rattle.account.specs.declared.coefficients.FaceCoefficients.{FaceCoefficients}
use Rattle.account.specs.declared.steps.CaseOf.{CaseOf}
use Rattle.account.specs.Coefficients.{outside_in, face_coefficients, no_coefficients}
use Rattle.account.proofs.InColumn.{newtons-read}
use Rattle.account.proofs.Case.{Numbers, case-numbers}
use Rattle.account.proofs.Bounds.{shown-low, area-carried, met, under-is, under_low, internal-low}
use Rattle.account.proofs.Bounds.{area-is, coefficients-same}
use Rattle.account.proofs.Together.{put-together}
use Rattle.account.proofs.steps.face_account.Goals.{After-coefficients_of-c, After-force_of-force}
use Rattle.account.proofs.steps.face_account.Goals.{After-newtons_at-newtons, After-on_axis-area}
use Rattle.account.proofs.steps.face_account.Goals.{After-under_wind-under, Start}
use Rattle.account.proofs.steps.face_account.Goals as goal

module _ (s : Start) where
  abbrev j : Job
  j = s.args.job

  abbrev shown : Extreme
  shown = s.args.shown

  abbrev k : ℕ
  k = s.args.face

  abbrev line : ℤ
  line = s.args.line

  counted : k - 1 < j.faces.count
  counted = omega (arith, s.requires.3, s.requires.4)

  few : k - 1 < 240
  few = let t = counted in omega (arith, (ready j s.requires.0).profiled.few)

  numbers : Numbers j shown.wind shown.internal
  numbers = case-numbers j s.requires.0 line shown s.requires.1 s.requires.2

  abbrev face : Face
  face = get_or j.faces.entry (k - 1) no_face

  line_same : to_z w64 (of_z w64 line) ≡ line
  line_same = to_z-of_z w64 line s.ranges.line

-- the case, and the face under its wind
module _ (d : After-under_wind-under) where
  abbrev s : Start
  s = (goal.at.After-under_wind-under d).Start

  abbrev case : CaseOf
  case = d.case_of-case.result

  under : d.under_wind-under.result ≡ under_wind (given (carried (j s))) (wind_at (given (carried (j s)))
      (shown s).wind)
      (face_at (given (carried (j s))) (k s))
  under =
      d.under_wind-under.ensures
      ∙ under-is (j s) s.requires.0 (shown s).wind (shown s).internal (k s) (numbers s) s.requires.3 s.requires.4

  case-internal : to_z w64 (of_z w64 case.internal) ≡ internal_at (given (carried (j s))) (shown s).internal
  case-internal =
      let fits : SFits w64 case.internal = search rules in
      to_z-of_z w64 _ fits ∙ ap (λ (c : CaseOf). c.internal) d.case_of-case.ensures

small : (s : Start) (direction : ℤ)
    → nat_abs (outside_in (outside_of (j s).year (j s).building direction (face s).zone) (get_or (shown s).alternative
    (k s - 1) 0)) ≤ 1200
small s direction =
    small-outside (j s) s.requires.0.order (k s - 1) (counted s) direction (get_or (shown s).alternative
    (k s - 1) 0 - 1)

low : (d : After-under_wind-under) → nat_abs (to_z w64 (of_z w64 (case d).internal)) ≤ 100
low d =
    let at_start = (goal.at.After-under_wind-under d).Start in
    let p = d.requires in
    subst (λ (z : ℤ). nat_abs z ≤ 100) (sym (case-internal d))
    (internal-low (j at_start) p.0 (shown at_start).wind (shown at_start).internal (k at_start)
    (numbers at_start) p.3 p.4)

-- its coefficients
module _ (o : After-coefficients_of-c) where
  abbrev d : After-under_wind-under
  d = (goal.at.After-coefficients_of-c o).After-under_wind-under

  abbrev a : ℕ
  a = get_or (shown (goal.at.After-under_wind-under d).Start).alternative (k
      (goal.at.After-under_wind-under d).Start - 1) 0

  abbrev result : FaceCoefficients
  result = o.coefficients_of-c.result

  direction : to_z w64 (of_z w64 (case d).wind.direction) ≡ (case d).wind.direction
  direction = let fits : SFits w64 (case d).wind.direction = search rules in to_z-of_z w64 _ fits

  internal : to_z w64 (of_z w64 (case d).internal) ≡ (case d).internal
  internal = let fits : SFits w64 (case d).internal = search rules in to_z-of_z w64 _ fits

  net-same : to_z w32 (of_z w32 result.net) ≡ result.net
  net-same = let fits : SFits w32 result.net = search rules in to_z-of_z w32 _ fits

  outside-same : to_z w32 (of_z w32 result.outside) ≡ result.outside
  outside-same = let fits : SFits w32 result.outside = search rules in to_z-of_z w32 _ fits

  speed-same : to_z w64 (of_z w64 d.under_wind-under.result.speed) ≡ d.under_wind-under.result.speed
  speed-same = let fits : SFits w64 d.under_wind-under.result.speed = search rules in to_z-of_z w64 _ fits

  pressure-same : to_z w64 (of_z w64 d.under_wind-under.result.pressure) ≡ d.under_wind-under.result.pressure
  pressure-same = let fits : SFits w64 d.under_wind-under.result.pressure = search rules in to_z-of_z w64 _ fits

  net-small : nat_abs result.net ≤ 2200
  net-small =
      subst (λ (c : FaceCoefficients). nat_abs c.net ≤ 2200) (sym o.coefficients_of-c.ensures)
      (shown-low d.under_wind-under.result.acts
      (outside_of (j (goal.at.After-under_wind-under d).Start).year (j
      (goal.at.After-under_wind-under d).Start).building (to_z w64 (of_z w64 (case d).wind.direction)) (face
      (goal.at.After-under_wind-under d).Start).zone) a
      (to_z w64 (of_z w64 (case d).internal)) (small (goal.at.After-under_wind-under d).Start _) (low d))

  pressure-low : nat_abs d.under_wind-under.result.pressure ≤ 1500000000
  pressure-low =
      let p = d.requires in
      subst (λ (x : UnderWind). nat_abs x.pressure ≤ 1500000000) (sym (under d))
      (under_low (j (goal.at.After-under_wind-under d).Start) p.0 (shown
      (goal.at.After-under_wind-under d).Start).wind (shown (goal.at.After-under_wind-under d).Start).internal
      (k (goal.at.After-under_wind-under d).Start) (numbers (goal.at.After-under_wind-under d).Start) p.3 p.4)

-- and its area
module _ (r : After-on_axis-area) where
  abbrev o : After-coefficients_of-c
  o = (goal.at.After-on_axis-area r).After-coefficients_of-c

  abbrev start : Start
  start = (goal.at.After-coefficients_of-c o).Start

  area_same : r.on_axis-area.result ≡ area (axis_of (line start)) (face start)
  area_same =
      let f = face start in
      let x : SFits w64 f.x = search rules in
      let y : SFits w64 f.y = search rules in
      let z : SFits w64 f.z = search rules in
      r.on_axis-area.ensures
      ∙ (λ i. number_on (axis_of (line_same start i)) (to_z-of_z w64 _ x i) (to_z-of_z w64 _ y i) (to_z-of_z w64 _ z i))
      ∙ area-is (axis_of (line start)) f

  area-back : to_z w64 (of_z w64 r.on_axis-area.result) ≡ r.on_axis-area.result
  area-back = let fits : SFits w64 r.on_axis-area.result = search rules in to_z-of_z w64 _ fits

  area-low : nat_abs r.on_axis-area.result ≤ 100000
  area-low =
      let p = start.requires in
      let m =
      met (j start) p.0 (shown start).wind (shown start).internal (k start) (numbers start) p.3 p.4 in
      subst (λ (z : ℤ). nat_abs z ≤ 100000) (sym area_same) (area_small (axis_of (line start)) (face start) m.face)

abbrev Below : ℕ → ℤ → Type 0
Below n z = nat_abs z ≤ n

-- each part is the account's
module _ (n : After-newtons_at-newtons) where
  abbrev z : After-force_of-force
  z = (goal.at.After-newtons_at-newtons n).After-force_of-force

  abbrev r : After-on_axis-area
  r = (goal.at.After-force_of-force z).After-on_axis-area

  abbrev q : Start
  q = (goal.at.After-on_axis-area r).Start

  zone-is : (face q).zone ≡ (face_at (given (carried (j q))) (k q)).zone
  zone-is = ap (λ (f : Face). f.zone) (sym (face-numbered (j q) (k q) q.requires.3 q.requires.4))

  here-is : r.on_axis-area.result ≡ area (axis_of (line q)) (face_at (given (carried (j q))) (k q))
  here-is =
      area_same r ∙ area-carried (j q) (axis_of (line q)) (face q)
      ∙ ap (area (axis_of (line q))) (sym (face-numbered (j q) (k q) q.requires.3 q.requires.4))

  force-same : to_z w64 (of_z w64 z.force_of-force.result) ≡ z.force_of-force.result
  force-same = let fits : SFits w64 z.force_of-force.result = search rules in to_z-of_z w64 _ fits

  newtons-same : to_z w64 (of_z w64 n.newtons_at-newtons.result) ≡ n.newtons_at-newtons.result
  newtons-same = let fits : SFits w64 n.newtons_at-newtons.result = search rules in to_z-of_z w64 _ fits

  newtons-is : n.newtons_at-newtons.result ≡ get_or (column (forces_shown (axis_of (line q)) (given (carried (j q)))
      (shown q)))
      (k q - 1) (pos 0)
  newtons-is =
      n.newtons_at-newtons.ensures
      ∙ ap (λ (l : ℤ). get_or (column_after (judged (j q)) l (replicate most_faces (pos 0))) (k q - 1) (pos 0))
      (line_same q)
      ∙ newtons-read (j q) q.requires.0 (line q) (shown q) q.requires.1 q.requires.2 (k q - 1)

pub bounds-faces-k : goal.bounds-faces-k
bounds-faces-k c = few (goal.at.bounds-faces-k c).Start

pub bounds-shown-k : goal.bounds-shown-k
bounds-shown-k c = few (goal.at.bounds-shown-k c).Start

pub case_of-case-requires : goal.case_of-case-requires
case_of-case-requires c =
    let at_start = (goal.at.case_of-case-requires c).Start in
    let n = numbers at_start in
    let r = ready (j at_start) c.requires.0 in
    (n.wind-low, n.wind-high, r.winds, n.internal-low, n.internal-high, r.internals.0)

pub coefficients_of-c-requires : goal.coefficients_of-c-requires
coefficients_of-c-requires c =
    let at_under_wind_under = (goal.at.coefficients_of-c-requires c).After-under_wind-under in
    (small (goal.at.coefficients_of-c-requires c).Start _, low at_under_wind_under)

pub force_of-force-requires : goal.force_of-force-requires
force_of-force-requires c =
    let at_on_axis_area = (goal.at.force_of-force-requires c).After-on_axis-area in
    let at_coefficients_of_c = (goal.at.force_of-force-requires c).After-coefficients_of-c in (
      subst (Below 2200) (sym (net-same at_coefficients_of_c)) (net-small at_coefficients_of_c),
      subst (Below 1500000000) (sym (pressure-same at_coefficients_of_c)) (pressure-low at_coefficients_of_c),
      subst (Below 100000) (sym (area-back at_on_axis_area)) (area-low at_on_axis_area),
    )

pub newtons_at-newtons-requires : goal.newtons_at-newtons-requires
newtons_at-newtons-requires c = few (goal.at.newtons_at-newtons-requires c).Start

pub returns : goal.returns
returns c =
    let at_start = (goal.at.returns c).Start in
    let at_under_wind_under = (goal.at.returns c).After-under_wind-under in
    let at_on_axis_area = (goal.at.returns c).After-on_axis-area in
    let at_newtons_at_newtons = (goal.at.returns c).After-newtons_at-newtons in
    let at_coefficients_of_c = (goal.at.returns c).After-coefficients_of-c in
    let p = c.requires in
    let u = c.under_wind-under.result in
    let coefficients-are =
    c.coefficients_of-c.ensures
    ∙ (λ i. cond u.acts (face_coefficients (outside_of (j at_start).year (j at_start).building
    (direction at_coefficients_of_c i) (face at_start).zone)
    (a at_coefficients_of_c) (internal at_coefficients_of_c i)) no_coefficients)
    ∙ coefficients-same (j at_start) p.0 (shown at_start).wind (shown at_start).internal (k at_start)
    (numbers at_start) p.3 p.4 (a at_coefficients_of_c) u
    (case at_under_wind_under) (under at_under_wind_under) c.case_of-case.ensures in
    let force-is =
    c.force_of-force.ensures ∙ (λ i. net-same at_coefficients_of_c i *ℤ pressure-same at_coefficients_of_c i *ℤ
    area-back at_on_axis_area i) in
    (λ i. record {
      verdict = accepted;
      zone = (face at_start).zone;
      alternative = a at_coefficients_of_c;
      rows = (result at_coefficients_of_c).rows;
      outside = outside-same at_coefficients_of_c i;
      net = net-same at_coefficients_of_c i;
      speed = speed-same at_coefficients_of_c i;
      pressure = pressure-same at_coefficients_of_c i;
      area = area-back at_on_axis_area i;
      force = force-same at_newtons_at_newtons i;
      newtons = newtons-same at_newtons_at_newtons i;
    })
    ∙ put-together (carried (j at_start)) (line at_start) (shown at_start) (k at_start) (face at_start).zone
    (zone-is at_newtons_at_newtons) (result at_coefficients_of_c)
    coefficients-are u (under at_under_wind_under) c.on_axis-area.result
    (here-is at_newtons_at_newtons) c.force_of-force.result force-is
    c.newtons_at-newtons.result (newtons-is at_newtons_at_newtons)
