-- Laws of the year: what a sheet of year 1 does not carry, and the heights of the profile of a later one.
use Prim.Native.Nat.{ℕ, zero, suc}
use mathlib.Core.Path.{◌≡◌, refl, ap, ap₂, ◌∙◌, sym}
use mathlib.Core.Logic.{⊎_elim}
use mathlib.Core.Bool.{Bool, true, false, not, true≢false}
use mathlib.Core.List.{List, [], ◌∷◌, ◌++◌, map}
use lib.IntN.{ℤ, pos, negsuc}
use lib.ListN.{get_or}
use native.Mathlib.Omega.{arith}
use borrow.Author.Tests.{not-false, ne_eqb}
use lib.Signed.{le_z_yes}
use Rattle.whole.proofs.Parts.{le-at}
use Rattle.whole.proofs.Order.{≤ℤ-trans}
use Rattle.whole.specs.Lists.{first_of, Every}
use Rattle.building.specs.Test.{beyond}
use Rattle.building.proofs.Ranges.{not_beyond, is_within}
use Rattle.building.proofs.Machine.{is_same}
use Rattle.entry.specs.declared.Step.{Step}
use Rattle.entry.specs.declared.Face.{Face}
use Rattle.building.specs.Year.{last_year, is_year, has_heights}
use Rattle.entry.specs.Says.{carried_face}
use Rattle.job.specs.declared.Job.{Job}
use Rattle.job.specs.Carried.{Carried, no_step, no_face, lowest_of, last_height, carried}
use Rattle.job.specs.InOrder.{Limited, OfYear1, InOrder}

pub between : (least greatest z : ℤ) → beyond least greatest z ≡ false → Limited least greatest z
between least greatest z e = let t = not_beyond least greatest z e in record { low = t.0; high = t.1 }

pub year-1 : (y : ℤ) → has_heights y ≡ false → y ≡ pos 1
year-1 y e = is_same (pos 1) y (not-false _ e)

pub later-heights : (y : ℤ) → Limited (pos 2) (pos last_year) y → has_heights y ≡ true
later-heights (pos n) w = rw (ne_eqb n 1 (λ e. absurd (omega (arith, le-at _ _ w.low))))
later-heights (negsuc n) w = refl

-- ---- a sheet of year 1 carries no profile and no heights

abbrev pub OfItsYear : Carried → Type 0
OfItsYear c = has_heights c.year ≡ false → OfYear1 c

pub in-order-year : (c : Carried) → InOrder c → OfItsYear c
in-order-year c o e =
    ⊎_elim (λ y. y) (λ l. absurd (true≢false (sym (later-heights c.year l.year) ∙ e))) o.form

-- its year is one that there is
pub year-is : (c : Carried) → InOrder c → is_year c.year ≡ true
unfolding beyond
year-is c o =
    ⊎_elim (λ y. rw y.year)
    (λ l. ap not (is_within (pos 1) (pos last_year) c.year (≤ℤ-trans (le_z_yes tt) l.year.low) l.year.high))
    o.form

low-faces : (l : List Face) → Every (λ f. f.height ≡ pos 0) (map (carried_face false) l)
low-faces [] = tt
low-faces (f ∷ l) = (refl, low-faces l)

pub carried-year : (j : Job) → OfItsYear (carried j)
unfolding carried
carried-year j e = record {
  year = year-1 j.year e;
  profile = rw e;
  heights = rw e (low-faces (first_of no_face
      j.faces.count j.faces.entry));
}

pub faces-kept : (h : Bool) (l : List Face) → (h ≡ false → Every (λ f. f.height ≡ pos 0) l)
    → map (carried_face h) l ≡ l
faces-kept h [] z = refl
faces-kept h (f ∷ l) z = ap₂ ◌∷◌ (kept h z) (faces-kept h l (λ e. (z e).1))
  where
    kept : (h : Bool) → (h ≡ false → Every (λ f. f.height ≡ pos 0) (f ∷ l)) → carried_face h f ≡ f
    kept true z = refl
    kept false z =
        λ i. record {
          zone = f.zone;
          mark = f.mark;
          height = sym (z refl).0 i;
          x = f.x;
          y = f.y;
          z = f.z;
        }

-- ---- the heights of a profile

pub last-height : (z : ℤ) (l : List Step) (s : Step) → last_height z (l ++ (s ∷ [])) ≡ s.height
last-height z [] s = refl
last-height z (t ∷ l) s = last-height t.height l s

pub highest-first : (z : ℤ) (n : ℕ) (l : List Step)
    → last_height z (first_of no_step (suc n) l) ≡ (get_or l n no_step).height
unfolding first_of
highest-first z zero [] = refl
highest-first z zero (s ∷ l) = refl
highest-first z (suc n) [] = highest-first (pos 0) n []
highest-first z (suc n) (s ∷ l) = highest-first s.height n l

pub lowest-first : (n : ℕ) (l : List Step) → lowest_of (first_of no_step (suc n) l) ≡ (get_or l 0 no_step).height
unfolding first_of
lowest-first n [] = refl
lowest-first n (s ∷ l) = refl
