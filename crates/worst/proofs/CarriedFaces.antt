-- Faces as a sheet carries them, in year 1 without their heights, come to the same as the faces of the record: a
-- height tells only the factor, and where there are no heights there is no profile.
use mathlib.Core.Path.{◌≡◌, refl, ap, ◌∙◌, fun_ext}
use mathlib.Core.Bool.{Bool, true, false, cond}
use mathlib.Core.List.{List, [], ◌∷◌, map, map-map}
use lib.IntN.{ℤ, pos, ◌+ℤ◌}
use Rattle.building.specs.declared.Building.{Building}
use Rattle.entry.specs.declared.Wind.{Wind}
use Rattle.entry.specs.declared.Face.{Face}
use Rattle.building.specs.Year.{has_heights}
use Rattle.entry.specs.Says.{carried_face}
use Rattle.job.specs.declared.Job.{Job}
use Rattle.worst.specs.declared.Side.{Side}
use Rattle.worst.specs.declared.Side.TheVariants.{Greatest, Least}
use Rattle.worst.specs.declared.Axis.{Axis}
use Rattle.worst.specs.declared.Axis.TheVariants.{X, Y, Z}
use Rattle.worst.specs.declared.speeds.Factor.{Factor}
use Rattle.worst.specs.declared.outside.Outside.{Outside}
use Rattle.worst.specs.Speed.{factor_at}
use Rattle.worst.specs.Forces.{factor_of}
use Rattle.worst.specs.Factors.{steps_of, profile_of}
use Rattle.worst.specs.Table.{outside_at}
use Rattle.worst.specs.Quick.{sum}
use Rattle.worst.specs.Engine.{weight, reach, pick, reach_of, pick_of, faces_of, sums_of, axes_of, axes_under}

sum-map : {A B : Type 0} (value : B → ℤ) (g : A → B) (l : List A) → sum value (map g l) ≡ sum (λ x. value (g x)) l
unfolding sum
sum-map value g [] = refl
sum-map value g (x ∷ l) = ap (λ z. value (g x) +ℤ z) (sum-map value g l)

module _ (j : Job) where
  abbrev pub as_carried : Face → Face
  as_carried = carried_face (has_heights j.year)

  pub same-factor : (f : Face) → factor_of (profile_of j) (as_carried f) ≡ factor_of (profile_of j) f
  unfolding factor_at
  same-factor f = go (has_heights j.year)
    where
      go : (t : Bool) → factor_at (cond t (steps_of j.profile) []) (cond t f.height (pos 0))
          ≡ factor_at (cond t (steps_of j.profile) []) f.height
      go true = refl
      go false = refl

  -- what goes by a face's factor and, beside it, not by its height
  module _ {A : Type 0} (value : Factor → Face → A) (e : (k : Factor) (f : Face) → value k (as_carried f) ≡ value k f)
    where
      abbrev value_of : Face → A
      value_of f = value (factor_of (profile_of j) f) f

      same-value : (λ f. value_of (as_carried f)) ≡ value_of
      same-value = fun_ext (λ f. ap (λ k. value k (as_carried f)) (same-factor f) ∙ e (factor_of (profile_of j) f) f)

  same-weight : (axis : Axis) (b : Building) (w : Wind) (k : Factor) (f : Face)
      → weight axis b w k (as_carried f) ≡ weight axis b w k f
  same-weight X b w k f = refl
  same-weight Y b w k f = refl
  same-weight Z b w k f = refl

  abbrev outsides : Wind → Face → Outside
  outsides w f = outside_at j.building w.direction f.zone

  sum-carried : (value : Factor → Face → ℤ) → ((k : Factor) (f : Face) → value k (as_carried f) ≡ value k f)
      → (fs : List Face)
      → sum (λ f. value (factor_of (profile_of j) f) f) (map as_carried fs)
      ≡ sum (λ f. value (factor_of (profile_of j) f) f) fs
  sum-carried value e fs = sum-map _ as_carried fs ∙ ap (λ v. sum v fs) (same-value value e)

  pub axes-carried : (w : Wind)
      → axes_of j.building (profile_of j) w (map as_carried (faces_of j.faces)) ≡ axes_under j w
  axes-carried w = λ i. record { x = on X i; y = on Y i; z = on Z i }
    where
      on : (axis : Axis) → sums_of axis j.building (profile_of j) w (map as_carried (faces_of j.faces))
          ≡ sums_of axis j.building (profile_of j) w (faces_of j.faces)
      on axis =
          let b = j.building in
          let fs = faces_of j.faces in
          let reached : (s : Side) → _ =
          λ s. sum-carried (reach_of s axis b w) (λ k f. ap (reach s (outsides w f)) (same-weight axis b w k f)) fs in
          λ i. record {
            greatest = reached Greatest i;
            least = reached Least i;
            weight = sum-carried (weight axis b w) (same-weight axis b w) fs i;
          }

  pub picks-carried : (axis : Axis) (s : Side) (w : Wind) (fs : List Face)
      → map (λ f. pick_of s axis j.building w (factor_of (profile_of j) f) f) (map as_carried fs)
      ≡ map (λ f. pick_of s axis j.building w (factor_of (profile_of j) f) f) fs
  picks-carried axis s w fs =
      map-map _ as_carried fs
      ∙ ap (λ v. map v fs)
      (same-value (pick_of s axis j.building w)
      (λ k f. ap (pick s (outsides w f)) (same-weight axis j.building w k f)))
