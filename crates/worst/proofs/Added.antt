-- Faces added up one by one: with face i, the sums of the first i become those of one more.
use mathlib.Core.Path.{◌≡◌, sym, ap, ◌∙◌}
use mathlib.Core.Bool.{true, false}
use mathlib.Core.List.{List, [], ◌∷◌, ◌++◌, map, map-append}
use Prim.Native.Nat.{ℕ, ◌+◌, ◌<◌}
use lib.IntN.{ℤ, pos, ◌+ℤ◌, +ℤ_assoc, +ℤ_idl, +ℤ_idr}
use lib.ListN.{get_or, set, length-map}
use Rattle.whole.specs.Lists.{first_of}
use Rattle.whole.proofs.Lists.{first_of-length}
use Rattle.whole.proofs.FirstOf.{first_of-next}
use Rattle.whole.proofs.Tests.{by-test}
use Rattle.building.specs.declared.Building.{Building}
use Rattle.building.specs.Places.{F}
use Rattle.entry.specs.declared.Wind.{Wind}
use Rattle.entry.specs.declared.Step.{Step}
use Rattle.entry.specs.declared.Face.{Face}
use Rattle.job.specs.Carried.{most_faces, no_face}
use Rattle.worst.specs.declared.Side.{Side}
use Rattle.worst.specs.declared.Side.TheVariants.{Greatest, Least}
use Rattle.worst.specs.declared.Axis.{Axis}
use Rattle.worst.specs.declared.Axis.TheVariants.{X, Y, Z}
use Rattle.worst.specs.Sums.{Sums, Axes, no_sums, no_axes, plus_sums, plus_axes}
use Rattle.worst.specs.declared.speeds.Factor.{Factor}
use Rattle.worst.specs.declared.outside.Outside.{Outside}
use Rattle.worst.specs.Quick.{sum}
use Rattle.worst.specs.Shown.{padded}
use Rattle.worst.specs.Speed.{speed_at}
use Rattle.worst.specs.Forces.{acts, factor_of, pressure}
use Rattle.worst.specs.Table.{outside_at}
use Rattle.worst.specs.Engine.{weight, reach, reach_of, pick_of, sums_of, axes_of, with_weight, with_pressure}
use Rattle.worst.specs.Engine.{with_face, alternatives_of}
use Rattle.worst.specs.Small.{Met}
use Rattle.worst.proofs.Padded.{padded-set}
use Rattle.worst.proofs.OneFace.{no-reach, no-pick, one-pick}

-- ---- a face that takes part adds what it has at its pressure number, and another nothing

module _ (b : Building) (w : Wind) (k : Factor) (f : Face) (p : Axes) where
  abbrev o : Outside
  o = outside_at b w.direction f.zone

  pub face-acts : acts f w.direction ≡ true
      → with_pressure f o (pressure b.density (speed_at k w.speed)) p ≡ with_face b w k f p
  face-acts e = rw e

  pub face-aside : acts f w.direction ≡ false → p ≡ with_face b w k f p
  face-aside e = rw e (λ j. record { x = same p.x j; y = same p.y j; z = same p.z j })
    where
      nothing : (s : Side) (z : ℤ) → z ≡ z +ℤ reach s o (pos 0)
      nothing s z = sym (ap (λ y. z +ℤ y) (no-reach s o) ∙ +ℤ_idr z)

      same : (q : Sums) → q ≡ with_weight o (pos 0) q
      same q =
          λ j. record {
            greatest = nothing Greatest q.greatest j;
            least = nothing Least q.least j;
            weight = sym (+ℤ_idr q.weight) j;
          }

-- ---- sums of some faces and of others

plus_none : (p : Sums) → plus_sums p no_sums ≡ p
plus_none p =
    λ j. record {
      greatest = +ℤ_idr p.greatest j;
      least = +ℤ_idr p.least j;
      weight = +ℤ_idr p.weight j;
    }

pub plus-no-axes : (p : Axes) → plus_axes p no_axes ≡ p
plus-no-axes p = λ j. record { x = plus_none p.x j; y = plus_none p.y j; z = plus_none p.z j }

none-plus : (p : Sums) → plus_sums no_sums p ≡ p
none-plus p =
    λ j. record {
      greatest = +ℤ_idl p.greatest j;
      least = +ℤ_idl p.least j;
      weight = +ℤ_idl p.weight j;
    }

pub no-axes-plus : (p : Axes) → plus_axes no_axes p ≡ p
no-axes-plus p = λ j. record { x = none-plus p.x j; y = none-plus p.y j; z = none-plus p.z j }

-- one face more of the others
pub plus-face : (b : Building) (w : Wind) (k : Factor) (f : Face) (p q : Axes)
    → plus_axes p (with_face b w k f q) ≡ with_face b w k f (plus_axes p q)
plus-face b w k f p q =
    λ j. record {
      x = on (weight X b w k f) p.x q.x j;
      y = on (weight Y b w k f) p.y q.y j;
      z = on (weight Z b w k f) p.z q.z j;
    }
  where
    on : (z : ℤ) (u v : Sums) → plus_sums u (with_weight (outside_at b w.direction f.zone) z v)
        ≡ with_weight (outside_at b w.direction f.zone) z (plus_sums u v)
    on z u v =
        let o = outside_at b w.direction f.zone in
        λ j. record {
          greatest = sym (+ℤ_assoc u.greatest v.greatest (reach Greatest o z)) j;
          least = sym (+ℤ_assoc u.least v.least (reach Least o z)) j;
          weight = sym (+ℤ_assoc u.weight v.weight z) j;
        }

-- ---- a zone other than F has one coefficient, and so its face the first alternative

pub alone-pick : (s : Side) (axis : Axis) (b : Building) (w : Wind) (k : Factor) (f : Face) → Met b w f
    → (f.zone ≡ F → ⊥) → pick_of s axis b w k f ≡ 1
alone-pick s axis b w k f m n =
    let o = outside_at b w.direction f.zone in
    by-test (acts f w.direction) (λ t. rw t (one-pick s o _ (m.alone t n))) (λ t. rw t (no-pick s o))

-- ---- one face more

sum-snoc : {A : Type 0} (value : A → ℤ) (xs : List A) (x : A) → sum value xs +ℤ value x ≡ sum value (xs ++ (x ∷ []))
unfolding sum
sum-snoc value [] x = +ℤ_idl (value x) ∙ sym (+ℤ_idr (value x))
sum-snoc value (y ∷ xs) x = +ℤ_assoc (value y) (sum value xs) (value x) ∙ ap (λ z. value y +ℤ z) (sum-snoc value xs x)

module _ (b : Building) (profile : List Step) (w : Wind) (l : List Face) (i : ℕ) where
  abbrev next : Face
  next = get_or l i no_face

  abbrev before : List Face
  before = first_of no_face i l

  pub axes-next : with_face b w (factor_of profile next) next (axes_of b profile w before)
      ≡ axes_of b profile w (first_of no_face (i + 1) l)
  axes-next =
      (λ j. record { x = on X j; y = on Y j; z = on Z j }) ∙ ap (axes_of b profile w) (first_of-next no_face l i)
    where
      on : (axis : Axis)
          → with_weight (outside_at b w.direction next.zone) (weight axis b w (factor_of profile next) next)
          (sums_of axis b profile w before)
          ≡ sums_of axis b profile w (before ++ (next ∷ []))
      on axis =
          λ j. record {
            greatest = sum-snoc (λ f. reach_of Greatest axis b w (factor_of profile f) f) before next j;
            least = sum-snoc (λ f. reach_of Least axis b w (factor_of profile f) f) before next j;
            weight = sum-snoc (λ f. weight axis b w (factor_of profile f) f) before next j;
          }

  -- its alternative stands where the first zero stood
  pub alternatives-next : (axis : Axis) (s : Side) → i < most_faces
      → set (alternatives_of axis s b profile w before) i (pick_of s axis b w (factor_of profile next) next)
      ≡ alternatives_of axis s b profile w (first_of no_face (i + 1) l)
  alternatives-next axis s h =
      let pick : Face → ℕ = λ f. pick_of s axis b w (factor_of profile f) f in
      padded-set most_faces (map pick before) i (pick next) (length-map before pick ∙ first_of-length no_face i l) h
      ∙ ap (padded most_faces) (sym (map-append pick before (next ∷ [])))
      ∙ ap (alternatives_of axis s b profile w) (first_of-next no_face l i)
