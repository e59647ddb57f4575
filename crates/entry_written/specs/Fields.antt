-- An entry as the fields of its line.
use Rattle.std.specs.Prelude.{suc, List, [], ◌∷◌, Bool, cond, ℤ, pos, negsuc}
use Rattle.field.specs.declared.Field.{Field}
use Rattle.field.specs.declared.Field.TheVariants.{Bad, Plus, Minus, Letter, Dash}
use Rattle.building.specs.declared.Building.{Building}
use Rattle.building.specs.Test.{is, too_long}
use Rattle.entry.specs.declared.Wind.{Wind}
use Rattle.entry.specs.declared.Step.{Step}
use Rattle.entry.specs.declared.Face.{Face}
use Rattle.entry.specs.Says.{both}

abbrev pub signed : ℤ → Field
signed (pos n) = Plus n
signed (negsuc n) = Minus (suc n)

-- a number as a field; one that is too long is out of form
unfoldable pub number_field : ℤ → Field
number_field z = cond (too_long z) Bad (signed z)

unfoldable pub mark_field : ℤ → Field
mark_field z = cond (is both z) Dash (number_field z)

abbrev pub year_fields : ℤ → List Field
year_fields year = number_field year ∷ []

abbrev pub building_fields : Building → List Field
building_fields g =
    number_field g.h ∷ number_field g.a ∷ number_field g.b ∷ number_field g.density ∷ number_field
    g.kind ∷ number_field g.x ∷ []

abbrev pub wind_fields : Wind → List Field
wind_fields w = number_field w.direction ∷ number_field w.speed ∷ []

abbrev pub internal_fields : ℤ → List Field
internal_fields i = number_field i ∷ []

abbrev pub step_fields : Step → List Field
step_fields s = number_field s.height ∷ number_field s.factor ∷ []

abbrev pub area_fields : Face → List Field
area_fields f = number_field f.x ∷ number_field f.y ∷ number_field f.z ∷ []

-- on a sheet with heights, and on one without
abbrev pub face_fields : Bool → Face → List Field
face_fields heights f =
    Letter f.zone ∷ mark_field f.mark ∷ cond heights (number_field f.height ∷ area_fields f) (area_fields f)
