-- Laws of what is kept with one entry more: it is that of what is then carried, what is judged by it, and it counts one
-- more of its section and none of a later one.
use Prim.Native.Nat.{ℕ, zero, suc, ◌+◌, ◌*◌, ◌≤◌, ◌<◌}
use mathlib.Core.Path.{◌≡◌, refl, sym}
use mathlib.Core.Bool.{Bool, true, false}
use mathlib.Core.List.{List, [], ◌∷◌}
use native.Mathlib.Omega.{arith}
use lib.IntN.{ℤ, pos, neg_ℤ}
use lib.ListN.{length, get_or, drop, set, length-append}
use lib.Seq.{sets}
use Rattle.whole.specs.Lists.{first_of, Every}
use Rattle.whole.proofs.Lists.{first_of-put}
use Rattle.field.specs.declared.Field.{Field}
use Rattle.entry.specs.declared.Step.{Step}
use Rattle.building.specs.Year.{has_heights}
use Rattle.entry.specs.Flat.{per_face, numbers_of, flat_faces}
use Rattle.entry.specs.Says.{year_of, building_of, wind_of, internal_of, step_of, face_of}
use Rattle.entry.proofs.Flat.{flat-put}
use Rattle.rules.specs.declared.Before.{Before}
use Rattle.rules.specs.declared.Section.{Section}
use Rattle.rules.specs.declared.Section.TheVariants.{«V», B, W, I, P, F}
use Rattle.rules.specs.declared.Kind.TheVariants.{Entry}
use Rattle.rules.specs.Sections.{about, sections, section_at}
use Rattle.job.specs.declared.Setting.{Setting}
use Rattle.job.specs.Carried.{Carried, no_wind, no_step, lowest_of, before, recorded}
use Rattle.job.specs.Setting.{setting_in}
use Rattle.job.specs.Walk.{learn}
use Rattle.job.proofs.Years.{last-height}

-- ---- what is kept

-- while a text is read: the setting so far, how many faces there are, and the lent list
pub record Kept : Type 0 where
  pub setting : Setting
  pub faces : ℕ
  pub list : List ℤ

-- that of what is carried, in a list of this length
abbrev pub kept_of : ℕ → Carried → Kept
kept_of lent c =
    record {
      setting = setting_in (recorded c);
      faces = length c.faces;
      list = first_of (pos 0) lent (flat_faces c.faces);
    }

-- the setting with the entry that a line says, stored behind the others of its section
abbrev pub with_entry : Section → List Field → Setting → Setting
with_entry «V» fs j =
    record {
      year = year_of fs;
      building = j.building;
      winds = j.winds;
      internals = j.internals;
      profile = j.profile;
    }
with_entry B fs j =
    record {
      year = j.year;
      building = building_of fs;
      winds = j.winds;
      internals = j.internals;
      profile = j.profile;
    }
with_entry W fs j =
    record {
      year = j.year;
      building = j.building;
      winds = record { count = j.winds.count + 1; entry = set j.winds.entry j.winds.count (wind_of fs) };
      internals = j.internals;
      profile = j.profile;
    }
with_entry I fs j =
    record {
      year = j.year;
      building = j.building;
      winds = j.winds;
      internals =
          record {
            count = j.internals.count + 1;
            entry = set j.internals.entry j.internals.count (internal_of fs);
          };
      profile = j.profile;
    }
with_entry P fs j =
    record {
      year = j.year;
      building = j.building;
      winds = j.winds;
      internals = j.internals;
      profile =
          record { count = j.profile.count + 1; entry = set j.profile.entry j.profile.count (step_of fs) };
    }
with_entry F fs j = j

-- and all that is kept with it
abbrev pub stored : Section → List Field → Kept → Kept
stored «V» fs k = record { setting = with_entry «V» fs k.setting; faces = k.faces; list = k.list }
stored B fs k = record { setting = with_entry B fs k.setting; faces = k.faces; list = k.list }
stored W fs k = record { setting = with_entry W fs k.setting; faces = k.faces; list = k.list }
stored I fs k = record { setting = with_entry I fs k.setting; faces = k.faces; list = k.list }
stored P fs k = record { setting = with_entry P fs k.setting; faces = k.faces; list = k.list }
stored F fs k =
    record {
      setting = k.setting;
      faces = k.faces + 1;
      list = sets k.list (per_face * k.faces) (numbers_of (face_of (has_heights k.setting.year) fs));
    }

-- how many entries of a section are kept; the year and the building are no lists
abbrev pub count_in : Kept → Section → ℕ
count_in k «V» = 0
count_in k B = 0
count_in k W = k.setting.winds.count
count_in k I = k.setting.internals.count
count_in k P = k.setting.profile.count
count_in k F = k.faces

pub stored-keeps : (lent : ℕ) (fs : List Field) {k : Kept} (c : Carried) → k ≡ kept_of lent c → (t : Section)
    → stored t fs k ≡ kept_of lent (learn (Entry t) fs c)
unfolding recorded
stored-keeps lent fs c e «V» = rw e
stored-keeps lent fs c e B = rw e
stored-keeps lent fs c e W = rw (e, length-append, first_of-put no_wind 8)
stored-keeps lent fs c e I = rw (e, length-append, first_of-put (pos 0) 4)
stored-keeps lent fs c e P = rw (e, length-append, first_of-put no_step 16)
stored-keeps lent fs c e F = rw (e, length-append, flat-put lent)

-- ---- what the lines behind it are judged by

-- z is the lowest height of the profile
abbrev pub next_before : Section → List Field → ℤ → Before → Before
next_before «V» fs z b =
    record { year = year_of fs; building = b.building; lowest = b.lowest; highest = b.highest }
next_before B fs z b =
    record { year = b.year; building = building_of fs; lowest = b.lowest; highest = b.highest }
next_before W fs z b = b
next_before I fs z b = b
next_before P fs z b =
    record { year = b.year; building = b.building; lowest = z; highest = (step_of fs).height }
next_before F fs z b = b

-- a year that is read changes no limit of its own section
pub most-kept : (t : Section) (fs : List Field) (z : ℤ) (b : Before)
    → (about t).most (next_before t fs z b).year ≡ (about t).most b.year
most-kept «V» fs z b = refl
most-kept B fs z b = refl
most-kept W fs z b = refl
most-kept I fs z b = refl
most-kept P fs z b = refl
most-kept F fs z b = refl

pub lowest-recorded : (c : Carried) → (get_or (recorded c).profile.entry 0 no_step).height ≡ lowest_of c.profile
unfolding recorded first_of
lowest-recorded c = go c.profile
  where
    go : (l : List Step) → (get_or (first_of no_step 16 l) 0 no_step).height ≡ lowest_of l
    go [] = refl
    go (s ∷ l) = refl

pub next-judges : (t : Section) (fs : List Field) (c : Carried) (z : ℤ)
    → z ≡ lowest_of (learn (Entry t) fs c).profile → next_before t fs z (before c) ≡ before (learn (Entry t) fs c)
next-judges «V» fs c z e = refl
next-judges B fs c z e = refl
next-judges W fs c z e = refl
next-judges I fs c z e = refl
next-judges P fs c z e =
    λ i. record {
      year = c.year;
      building = c.building;
      lowest = e i;
      highest = sym (last-height (neg_ℤ (pos 1)) c.profile (step_of fs)) i;
    }
next-judges F fs c z e = refl

-- ---- what it counts

pub one_more : (lent : ℕ) (t : Section) (c : Carried) (fs : List Field)
    → count_in (kept_of lent (learn (Entry t) fs c)) t ≤ count_in (kept_of lent c) t + 1
unfolding recorded
one_more lent «V» c fs = omega arith
one_more lent B c fs = omega arith
one_more lent W c fs = omega (arith, length-append c.winds (wind_of fs ∷ []))
one_more lent I c fs = omega (arith, length-append c.internals (internal_of fs ∷ []))
one_more lent P c fs = omega (arith, length-append c.profile (step_of fs ∷ []))
one_more lent F c fs = omega (arith, length-append c.faces (face_of (has_heights c.year) fs ∷ []))

-- of these sections nothing is kept
abbrev pub Unread : Kept → List Section → Type 0
Unread k ts = Every (λ t. count_in k t ≡ 0) ts

-- so of the faces, whose section is the last, while one is still to be read
pub no-face-yet : (h : Bool) (i : ℕ) (k : Kept) → i < length (sections h) → Unread k (drop i (sections h))
    → k.faces ≡ 0
no-face-yet true zero k l u = u.1.1.1.1.1.0
no-face-yet true (suc zero) k l u = u.1.1.1.1.0
no-face-yet true (suc (suc zero)) k l u = u.1.1.1.0
no-face-yet true (suc (suc (suc zero))) k l u = u.1.1.0
no-face-yet true (suc (suc (suc (suc zero)))) k l u = u.1.0
no-face-yet true (suc (suc (suc (suc (suc zero))))) k l u = u.0
no-face-yet true (suc (suc (suc (suc (suc (suc n)))))) k l u = absurd (omega (arith, l))
no-face-yet false zero k l u = u.1.1.1.0
no-face-yet false (suc zero) k l u = u.1.1.0
no-face-yet false (suc (suc zero)) k l u = u.1.0
no-face-yet false (suc (suc (suc zero))) k l u = u.0
no-face-yet false (suc (suc (suc (suc n)))) k l u = absurd (omega (arith, l))

pub none-later : (lent : ℕ) (h : Bool) (i : ℕ) (c : Carried) (fs : List Field)
    → Unread (kept_of lent c) (drop (suc i) (sections h))
    → Unread (kept_of lent (learn (Entry (section_at h i)) fs c)) (drop (suc i) (sections h))
unfolding recorded
none-later lent true zero c fs u = u
none-later lent true (suc zero) c fs u = u
none-later lent true (suc (suc zero)) c fs u = u
none-later lent true (suc (suc (suc zero))) c fs u = u
none-later lent true (suc (suc (suc (suc zero)))) c fs u = u
none-later lent true (suc (suc (suc (suc (suc zero))))) c fs u = tt
none-later lent true (suc (suc (suc (suc (suc (suc n)))))) c fs u = tt
none-later lent false zero c fs u = u
none-later lent false (suc zero) c fs u = u
none-later lent false (suc (suc zero)) c fs u = u
none-later lent false (suc (suc (suc zero))) c fs u = tt
none-later lent false (suc (suc (suc (suc n)))) c fs u = tt
