-- `chosen::shown` meets its contract: without a face of zone F every alternative is the first, and with one zone F has
-- a place under every wind.
-- the case of an axis and a side
use mathlib.Core.Path.{◌≡◌, sym, ap, ◌∙◌, subst}
use mathlib.Core.List.{List}
use Prim.Native.Nat.{ℕ, ◌-◌, ◌<◌}
use native.Mathlib.Omega.{arith}
use lib.ListN.{get_or, replicate}
use Rattle.building.specs.Places.{F}
use Rattle.entry.specs.declared.Wind.{Wind}
use Rattle.entry.specs.declared.Face.{Face}
use Rattle.entry.specs.Flat.{face_in}
use Rattle.job.specs.declared.Job.{Job}
use Rattle.job.specs.Carried.{no_face}
use Rattle.worst.specs.declared.Axis.{Axis}
use Rattle.worst.specs.declared.Axis.TheVariants.{X, Y, Z}
use Rattle.worst.specs.declared.Side.{Side}
use Rattle.worst.specs.declared.Side.TheVariants.{Greatest, Least}
use Rattle.worst.specs.declared.speeds.Factor.{Factor}
use Rattle.worst.specs.Shown.{padded}
use Rattle.worst.specs.Forces.{factor_of}
use Rattle.worst.specs.Engine.{pick_of, top_at, wind_numbered, alternatives_at, six_winds, six_with}
use Rattle.worst.specs.Factors.{profile_of}
use Rattle.worst.specs.Small.{Met, Reached}
use Rattle.worst.specs.Table.{Placed}
use Rattle.worst.specs.Lent.{job_by}
use Rattle.worst.proofs.LentFaces.{face-at}
use Rattle.worst.proofs.Padded.{all_one}
use Rattle.worst.proofs.Added.{alone-pick}
use Rattle.worst.proofs.chosen.shown.Goals.{Start}
use Rattle.worst.proofs.chosen.shown.Goals as goal

module _ (a : Start) (axis : Axis) (s : Side) where
  abbrev job : Job
  job = job_by a.args.s a.args.faces a.args.flat.now

  abbrev number : ℕ
  number = (top_at axis s a.args.ends).wind

  abbrev wind : Wind
  wind = wind_numbered job.winds number

  abbrev face : ℕ → Face
  face k = get_or job.faces.entry k no_face

  zone : (k : ℕ) → k < a.args.faces → (face k).zone ≡ (face_in a.args.flat.now k).zone
  zone k h = ap (λ f. f.zone) (face-at a.args.faces a.args.flat.now k h)

  met : (k : ℕ) → k < a.args.faces → Met job.building wind (face k)
  met k h =
      let on = a.requires.4 axis s in
      let some = on.wind in
      let counts : number - 1 < job.winds.count = omega (arith, on.wind≤) in
      (a.requires.1.met (number - 1) counts).each k h

  -- no face is of zone F
  firsts : {l : List ℕ} (none : (k : ℕ) → k < a.args.faces → (face_in a.args.flat.now k).zone ≡ F → ⊥)
      → l ≡ padded 240 (replicate a.args.faces 1) → l ≡ alternatives_at axis s job (top_at axis s a.args.ends)
  firsts none e =
      let k : Face → Factor = factor_of (profile_of job) in
      e
      ∙ ap (padded 240)
      (sym (all_one (λ f. pick_of s axis job.building wind (k f) f) no_face a.args.faces job.faces.entry
      (λ i h.
      alone-pick s axis job.building wind (k (face i)) (face i) (met i h) (λ z. none i h (sym (zone i h) ∙ z)))))

  -- face k is
  reached : (k : ℕ) → k < a.args.faces → (face_in a.args.flat.now k).zone ≡ F
      → Reached job.winds (top_at axis s a.args.ends)
  reached k h e =
      let on = a.requires.4 axis s in
      record {
        some = on.wind;
        few = omega (arith, on.wind≤, a.requires.1.winds);
        placed = subst (Placed wind.direction) (zone k h ∙ e) (met k h).placed;
      }

pub returns-then-before-count : goal.returns-then-before-count
returns-then-before-count c =
    let at_start = (goal.at.returns-then-before-count c).Start in
    let t = c.if-before-count.true in
    let told = c.before_f-before.ensures in
    let none : (k : ℕ) → k < c.args.faces → (face_in c.args.flat.now k).zone ≡ F → ⊥ =
    λ k h. told.1 k (omega arith) in
    let e : (axis : Axis) (s : Side)
    → c.firsts.result ≡ alternatives_at axis s (job at_start axis s) (top_at axis s c.args.ends) =
    λ axis s. firsts at_start axis s none c.firsts.ensures in
    c.six_cases.ensures
    ∙ (λ j.
    six_with c.args.ends c.args.faces (e X Greatest j) (e X Least j) (e Y Greatest j) (e Y Least j)
    (e Z Greatest j) (e Z Least j))

pub six_winds-under-requires : goal.six_winds-under-requires
six_winds-under-requires c =
    let at_start = (goal.at.six_winds-under-requires c).Start in
    let t = c.if-before-count.false in
    let told = c.before_f-before.ensures in
    let some : c.before_f-before.result < c.args.faces = omega (arith, told.0) in
    λ axis s. reached at_start axis s c.before_f-before.result some (told.2 some)

pub all_chosen-requires : goal.all_chosen-requires
all_chosen-requires c =
    let p = c.requires in (
      p.0,
      p.1,
      p.2,
      p.3,
      p.4,
      c.six_winds-under.ensures ∙ ap (λ b. six_winds b c.args.s.winds c.args.ends) p.5,
    )

pub returns : goal.returns
returns c = c.all_chosen.ensures
