-- What a question about one zone or local gets: the first refusal in paper 01's order, or the coefficient.
use Rattle.std.specs.Prelude.{Ok, Err}
use Rattle.std.specs.Prelude.{◌≡◌, true, false, map, ℕ, ◌<◌, ℤ, nat_abs}
use Rattle.verdict.specs.declared.Verdict.{Verdict}
use Rattle.verdict.specs.Verdict.{refusal}
use Rattle.building.specs.declared.Building.{Building}
use Rattle.building.specs.Question as asked
use Rattle.building.specs.Building.{sizes}
use Rattle.building.specs.Year.{is_year, building_line}
use Rattle.building.specs.Places.{knows, place_on}
use Rattle.rules.specs.declared.Section.TheVariants.{B}
use Rattle.rules.specs.declared.Kind.TheVariants.{Entry}
use Rattle.rules.specs.Sections.{line_fault}
use Rattle.entry_written.specs.Fields.{building_fields}
use Rattle.job.specs.Carried.{nothing, with_year, before}
use Rattle.book.specs.Answer as book
use Rattle.book.specs.declared.Cited.{Cited}
use Rattle.book.specs.Answer.{values_in}
use Rattle.book.specs.Coefficient.{IsCoefficient}
use Rattle.book.specs.Question.{net, too_great}

-- the number that the building's line would get in a sheet of that year, where nothing but the year is carried yet
abbrev pub sheet_fault : ℤ → Building → ℕ
sheet_fault year g = line_fault (Entry B) (before (with_year year nothing)) (building_fields g)

-- the rows and the fraction of two answers are the same
pub record SameRows (c d : Cited) : Type 0 where
  pub lower : c.lower ≡ d.lower
  pub upper : c.upper ≡ d.upper
  pub part : c.part ≡ d.part
  pub whole : c.whole ≡ d.whole

module _ (year : ℤ) (g : Building) where
  -- the year is one that there is, and its sheet has no fault at the building's line
  pub record InSheet : Type 0 where
    pub year-is : is_year year ≡ true
    pub in_order : sheet_fault year g ≡ 0

module _ (year : ℤ) (g : Building) (direction : ℤ) (place : ℕ) where
  -- "a year other than 1 to 3 is 3 with line 0, before all else"; "the building, with the number and line that its
  -- sheet would get; then the direction, 3 with line 0, for locals too; then the zone or local, 6 with line 0"
  pub data Refusal : Verdict → Type 0 where
    bad-year : is_year year ≡ false → Refusal (refusal 3 0)
    bad-building : {n : ℕ} → is_year year ≡ true → 0 < n → sheet_fault year g ≡ n
        → Refusal (refusal n (building_line year))
    bad-direction : InSheet year g → knows g.kind direction ≡ false → Refusal (refusal 3 0)
    bad-place : InSheet year g → knows g.kind direction ≡ true → place_on g.kind direction place ≡ false
        → Refusal (refusal 6 0)

  -- none of these
  pub record InQuestion : Type 0 where
    pub in-sheet : InSheet year g
    pub known : knows g.kind direction ≡ true
    pub there : place_on g.kind direction place ≡ true

  -- the question judged: what the tables are asked for are the building's sizes
  pub data Judged : asked.Question → Type 0 where
    not-asked : {v : Verdict} → Refusal v → Judged (Err v)
    asked-of : InQuestion → Judged (Ok (sizes g))

  -- an answer is the coefficient with its rows
  pub data Outside : book.Answer → Type 0 where
    refused : {v : Verdict} → Refusal v → Outside (Err v)
    answered : {c : Cited} → InQuestion → IsCoefficient (sizes g) (nat_abs direction) place c → Outside (Ok c)

  -- "then, where the net is asked, the internal coefficient, 3 with line 0"; else outside minus internal, alternative
  -- by alternative
  pub data Net (internal : ℤ) : book.Answer → Type 0 where
    as-outside : {v : Verdict} → Refusal v → Net internal (Err v)
    bad-internal : InQuestion → too_great internal ≡ true → Net internal (Err (refusal 3 0))
    less-internal : {outside c : Cited} → InQuestion → too_great internal ≡ false
        → IsCoefficient (sizes g) (nat_abs direction) place outside
        → values_in c.values ≡ map (λ v. net v internal) (values_in outside.values) → SameRows outside c
        → Net internal (Ok c)

-- ---- from C

-- the arguments: year, h, a, b, density, kind, x, direction, place, and then the rest
abbrev pub HostQuestion : Type 0 → Type 0
HostQuestion Rest = ℤ × (ℤ × (ℤ × (ℤ × (ℤ × (ℤ × (ℤ × (ℤ × (ℕ × Rest))))))))

module _ {Rest : Type 0} where
  abbrev pub year_in : HostQuestion Rest → ℤ
  year_in a = a.0

  abbrev pub building_in : HostQuestion Rest → Building
  building_in a =
      let b = a.1 in
      record {
        h = b.0;
        a = b.1.0;
        b = b.1.1.0;
        density = b.1.1.1.0;
        kind = b.1.1.1.1.0;
        x = b.1.1.1.1.1.0;
      }

  abbrev pub direction_in : HostQuestion Rest → ℤ
  direction_in a = a.1.1.1.1.1.1.1.0

  abbrev pub place_in : HostQuestion Rest → ℕ
  place_in a = a.1.1.1.1.1.1.1.1.0

  abbrev pub rest_in : HostQuestion Rest → Rest
  rest_in a = a.1.1.1.1.1.1.1.1.1
