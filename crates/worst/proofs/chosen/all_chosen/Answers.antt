-- `chosen::all_chosen` meets its contract: after i faces the alternatives of the first i stand in all six cases.
-- one of the six
use mathlib.Core.Path.{◌≡◌, sym, ap, ◌∙◌, subst}
use mathlib.Core.List.{List}
use Prim.Native.Nat.{ℕ, ◌+◌, ◌-◌, ◌<◌}
use native.Mathlib.Omega.{arith}
use lib.ListN.{get_or, set}
use Rattle.whole.specs.Lists.{first_of}
use Rattle.building.specs.declared.Building.{Building}
use Rattle.pair.specs.declared.Pair.{Pair}
use Rattle.building.specs.Places.{F}
use Rattle.entry.specs.declared.Wind.{Wind}
use Rattle.entry.specs.declared.Step.{Step}
use Rattle.entry.specs.declared.Face.{Face}
use Rattle.entry.specs.Flat.{face_in, faces_in}
use Rattle.job.specs.Carried.{no_face}
use Rattle.worst.specs.declared.Axis.{Axis}
use Rattle.worst.specs.declared.Axis.TheVariants.{X, Y, Z}
use Rattle.worst.specs.declared.Side.{Side}
use Rattle.worst.specs.declared.Side.TheVariants.{Greatest, Least}
use Rattle.worst.specs.declared.Extremes.{Extremes}
use Rattle.worst.specs.declared.tops.Tops.{Tops}
use Rattle.worst.specs.Shown.{padded}
use Rattle.worst.specs.Forces.{factor_of}
use Rattle.worst.specs.Engine.{pick_of, top_at, wind_numbered, case_wind, alternatives_of, with_alternatives, put_at}
use Rattle.worst.specs.Factors.{profile_of, factor_in, FactorsStand, Fraction}
use Rattle.worst.specs.Small.{Met}
use Rattle.worst.specs.Lent.{faces_by, job_by}
use Rattle.worst.proofs.LentFaces.{face-at}
use Rattle.worst.proofs.Added.{alone-pick, alternatives-next}
use Rattle.worst.proofs.chosen.all_chosen.Invariants.{at, six_at}
use Rattle.worst.proofs.chosen.all_chosen.Goals.{After-face_in-f, After-zone_in, At-loop-i, Start}
use Rattle.worst.proofs.chosen.all_chosen.Goals as goal

-- each of the six is the case wind of its top
reached : (a : Start) (axis : Axis) (s : Side)
    → at axis s a.args.under
    ≡ case_wind a.args.s.building (wind_numbered a.args.s.winds (top_at axis s a.args.ends).wind)
reached a X Greatest = ap (λ u. u.x.greatest) a.requires.5
reached a X Least = ap (λ u. u.x.least) a.requires.5
reached a Y Greatest = ap (λ u. u.y.greatest) a.requires.5
reached a Y Least = ap (λ u. u.y.least) a.requires.5
reached a Z Greatest = ap (λ u. u.z.greatest) a.requires.5
reached a Z Least = ap (λ u. u.z.least) a.requires.5

-- face i, once its zone is read
module _ (c : After-zone_in) where
  abbrev l : At-loop-i
  l = (goal.at.After-zone_in c).At-loop-i

  abbrev a : Start
  a = (goal.at.At-loop-i l).Start

  abbrev i : ℕ
  i = l.loop-i.i

  abbrev faces : List Face
  faces = faces_in a.args.faces a.args.flat.now

  abbrev face : Face
  face = get_or faces i no_face

  counted : i < a.args.faces
  counted = c.loop-i-test.true

  room : i < 240
  room = let t = counted in omega (arith, a.requires.0.numbered.few)

  stands : face_in a.args.flat.now i ≡ face
  stands = sym (face-at a.args.faces a.args.flat.now i counted)

  module _ (axis : Axis) (s : Side) where
    abbrev wind : Wind
    wind = (at axis s a.args.under).wind

    met : Met a.args.s.building wind face
    met =
        let on = a.requires.4 axis s in
        let some = on.wind in
        let k = (top_at axis s a.args.ends).wind - 1 in
        let counts : k < a.args.s.winds.count = omega (arith, on.wind≤) in
        subst (λ w. Met a.args.s.building w face) (sym (ap (λ u. u.wind) (reached a axis s)))
        ((a.requires.1.met k counts).each i counted)

  -- the alternatives of the first n faces
  abbrev first : List Step → ℕ → Axis → Side → List ℕ
  first profile n axis s =
      alternatives_of axis s a.args.s.building profile (at axis s a.args.under).wind (first_of no_face n faces)

  abbrev pick : List Step → Axis → Side → ℕ
  pick profile axis s =
      pick_of s axis a.args.s.building (at axis s a.args.under).wind (factor_of profile face) face

  -- with those of face i they are the alternatives of one face more
  next : (profile : List Step) (axis : Axis) (t : Tops Pair) {old new : Extremes} {high low : ℕ}
      → new ≡ put_at i high low old
      → old ≡ with_alternatives t a.args.faces (first profile i axis Greatest) (first profile i axis Least)
      → high ≡ pick profile axis Greatest → low ≡ pick profile axis Least
      → new ≡ with_alternatives t a.args.faces (first profile (i + 1) axis Greatest) (first profile (i + 1) axis Least)
  next profile axis t e q up down =
      let more : (s : Side) → set (first profile i axis s) i (pick profile axis s) ≡ first profile (i + 1) axis s =
      λ s. alternatives-next a.args.s.building profile (at axis s a.args.under).wind faces i axis s room in
      e
      ∙ (λ j. put_at i (up j) (down j) (q j))
      ∙ (λ j. with_alternatives t a.args.faces (more Greatest j) (more Least j))

-- one of zone F
module _ (k : After-face_in-f) where
  abbrev z : After-zone_in
  z = (goal.at.After-face_in-f k).After-zone_in

  abbrev b : Building
  b = z.args.s.building

  abbrev f : Face
  f = k.face_in-f.result

  read : f ≡ face z
  read = k.face_in-f.ensures ∙ stands z

  module _ (axis : Axis) (s : Side) where
    asks : Met b (wind z axis s) f × Fraction (factor_in z.args.factors.now (i z)) × (f.zone ≡ F)
        × (at axis s z.args.under ≡ case_wind b (wind z axis s))
    asks =
        let e = reached (goal.at.After-zone_in z).Start axis s in (
          subst (Met b (wind z axis s)) (sym read) (met z axis s),
          z.requires.2 (i z) (counted z),
          ap (λ g. g.zone) k.face_in-f.ensures ∙ sym z.zone_in.ensures ∙ k.if-zone_in-ne70.false,
          e ∙ ap (λ u. case_wind b u.wind) (sym e),
        )

    picked : (profile : List Step)
        (stand : FactorsStand profile (faces_by z.args.faces z.args.flat.now) z.args.factors.now)
        {r : ℕ} → r ≡ pick_of s axis b (wind z axis s) (factor_in z.args.factors.now (i z)) f
        → r ≡ pick_of s axis b (wind z axis s) (factor_of profile (face z)) (face z)
    picked profile stand e =
        e ∙ (λ j. pick_of s axis b (wind z axis s) (stand (i z) (counted z) j) (read j))

pub loop-i-init : goal.loop-i-init
unfolding padded first_of
loop-i-init c = λ profile h. c.six_cases-six.ensures

pub zone_in-requires : goal.zone_in-requires
zone_in-requires c =
    let lent = c.requires.0 in
    let t = c.loop-i-test.true in
    omega (arith, lent.numbered.stand)

pub put-requires : goal.put-requires
put-requires c = room (goal.at.put-requires c).After-zone_in

pub put-requires-then-zone_in-ne70 : goal.put-requires-then-zone_in-ne70
put-requires-then-zone_in-ne70 c = room (goal.at.put-requires-then-zone_in-ne70 c).After-zone_in

pub put-requires-then-zone_in-ne70-2 : goal.put-requires-then-zone_in-ne70-2
put-requires-then-zone_in-ne70-2 c = room (goal.at.put-requires-then-zone_in-ne70-2 c).After-zone_in

pub loop-i-preserved-then-zone_in-ne70 : goal.loop-i-preserved-then-zone_in-ne70
loop-i-preserved-then-zone_in-ne70 c =
    let z = (goal.at.loop-i-preserved-then-zone_in-ne70 c).After-zone_in in
    let b = c.args.s.building in
    let other : (face z).zone ≡ F → ⊥ =
    λ e. c.if-zone_in-ne70.true (c.zone_in.ensures ∙ ap (λ f. f.zone) (stands z) ∙ e) in
    let one : (p : List Step) (axis : Axis) (s : Side) → 1 ≡ pick z p axis s =
    λ p axis s. sym (alone-pick s axis b (wind z axis s) (factor_of p (face z)) (face z) (met z axis s) other) in
    λ p h.
    let was = c.loop-i.invariant p h in
    let e = c.args.ends in
    (λ j. record {
      x = next z p X e.x c.put.ensures (ap (λ t. t.x) was) (one p X Greatest) (one p X Least) j;
      y = next z p Y e.y c.put-then-zone_in-ne70.ensures (ap (λ t. t.y) was) (one p Y Greatest) (one p Y Least) j;
      z = next z p Z e.z c.put-then-zone_in-ne70-2.ensures (ap (λ t. t.z) was) (one p Z Greatest) (one p Z Least) j;
    })

pub face_in-f-requires : goal.face_in-f-requires
face_in-f-requires c =
    let t = counted (goal.at.face_in-f-requires c).After-zone_in in
    omega (arith, c.requires.0.numbered.stand)

pub one_of_two-x_up-requires : goal.one_of_two-x_up-requires
one_of_two-x_up-requires c = asks (goal.at.one_of_two-x_up-requires c).After-face_in-f X Greatest

pub one_of_two-x_down-requires : goal.one_of_two-x_down-requires
one_of_two-x_down-requires c = asks (goal.at.one_of_two-x_down-requires c).After-face_in-f X Least

pub one_of_two-y_up-requires : goal.one_of_two-y_up-requires
one_of_two-y_up-requires c = asks (goal.at.one_of_two-y_up-requires c).After-face_in-f Y Greatest

pub one_of_two-y_down-requires : goal.one_of_two-y_down-requires
one_of_two-y_down-requires c = asks (goal.at.one_of_two-y_down-requires c).After-face_in-f Y Least

pub one_of_two-z_up-requires : goal.one_of_two-z_up-requires
one_of_two-z_up-requires c = asks (goal.at.one_of_two-z_up-requires c).After-face_in-f Z Greatest

pub one_of_two-z_down-requires : goal.one_of_two-z_down-requires
one_of_two-z_down-requires c = asks (goal.at.one_of_two-z_down-requires c).After-face_in-f Z Least

pub put-requires-in-loop-i : goal.put-requires-in-loop-i
put-requires-in-loop-i c = room (goal.at.put-requires-in-loop-i c).After-zone_in

pub put-requires-in-loop-i-2 : goal.put-requires-in-loop-i-2
put-requires-in-loop-i-2 c = room (goal.at.put-requires-in-loop-i-2 c).After-zone_in

pub put-requires-in-loop-i-3 : goal.put-requires-in-loop-i-3
put-requires-in-loop-i-3 c = room (goal.at.put-requires-in-loop-i-3 c).After-zone_in

pub loop-i-preserved : goal.loop-i-preserved
loop-i-preserved c =
    let z = (goal.at.loop-i-preserved c).After-zone_in in
    let f = (goal.at.loop-i-preserved c).After-face_in-f in
    λ p h.
    let was = c.loop-i.invariant p h in
    let e = c.args.ends in
    (λ j. record {
      x =
          next z p X e.x c.put-in-loop-i.ensures (ap (λ t. t.x) was)
          (picked f X Greatest p h c.one_of_two-x_up.ensures)
          (picked f X Least p h c.one_of_two-x_down.ensures) j;
      y =
          next z p Y e.y c.put-in-loop-i-2.ensures (ap (λ t. t.y) was)
          (picked f Y Greatest p h c.one_of_two-y_up.ensures)
          (picked f Y Least p h c.one_of_two-y_down.ensures) j;
      z =
          next z p Z e.z c.put-in-loop-i-3.ensures (ap (λ t. t.z) was)
          (picked f Z Greatest p h c.one_of_two-z_up.ensures)
          (picked f Z Least p h c.one_of_two-z_down.ensures) j;
    })

pub returns : goal.returns
returns c =
    let a = (goal.at.returns c).Start in
    let job = job_by a.args.s a.args.faces a.args.flat.now in
    let left = c.loop-i-test.false in
    let all : c.loop-i.i ≡ job.faces.count = omega (arith, c.loop-i.auto.i-end) in
    c.loop-i.invariant (profile_of job) c.requires.3
    ∙ (λ j.
    six_at a.args.ends a.args.faces
    (λ axis s.
    alternatives_of axis s job.building (profile_of job) (reached a axis s j).wind
    (first_of no_face (all j) job.faces.entry)))
