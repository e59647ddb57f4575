-- What a field says, as a number, a letter or a mark; and what the fields of a line say, as an entry.
use Rattle.std.specs.Prelude.{ℕ, Bool, true, false, cond, List, get_or, ℤ, pos, neg_ℤ}
use Rattle.field.specs.declared.Field.{Field}
use Rattle.field.specs.declared.Field.TheVariants.{Bad, Plus, Minus, Letter, Dash}
use Rattle.building.specs.declared.Building.{Building}
use Rattle.entry.specs.declared.Wind.{Wind}
use Rattle.entry.specs.declared.Step.{Step}
use Rattle.entry.specs.declared.Face.{Face}

-- a mark that stands for every direction
abbrev pub both : ℤ
both = pos 4294967295

abbrev pub number : Field → ℤ
number (Plus m) = pos m
number (Minus m) = neg_ℤ (pos m)
number (Letter b) = pos 0
number Dash = pos 0
number Bad = pos 0

-- a count, which has no sign
abbrev pub size : Field → ℕ
size (Plus m) = m
size (Minus m) = m
size (Letter b) = 0
size Dash = 0
size Bad = 0

abbrev pub letter : Field → ℕ
letter (Letter b) = b
letter (Plus m) = 0
letter (Minus m) = 0
letter Dash = 0
letter Bad = 0

abbrev pub is_dash : Field → Bool
is_dash Dash = true
is_dash (Plus m) = false
is_dash (Minus m) = false
is_dash (Letter b) = false
is_dash Bad = false

abbrev pub mark : Field → ℤ
mark f = cond (is_dash f) both (number f)

abbrev pub at : List Field → ℕ → Field
at fs i = get_or fs i Bad

abbrev pub building_of : List Field → Building
building_of fs =
    record {
      h = number (at fs 0);
      a = number (at fs 1);
      b = number (at fs 2);
      density = number (at fs 3);
      kind = number (at fs 4);
      x = number (at fs 5);
    }

abbrev pub wind_of : List Field → Wind
wind_of fs = record { direction = number (at fs 0); speed = number (at fs 1) }

abbrev pub internal_of : List Field → ℤ
internal_of fs = number (at fs 0)

-- ---- the year, and what goes by it

abbrev pub year_of : List Field → ℤ
year_of fs = number (at fs 0)

abbrev pub step_of : List Field → Step
step_of fs = record { height = number (at fs 0); factor = number (at fs 1) }

-- where faces have heights, the areas stand one field further on
abbrev pub face_of : Bool → List Field → Face
face_of heights fs =
    record {
      zone = letter (at fs 0);
      mark = mark (at fs 1);
      height = cond heights (number (at fs 2)) (pos 0);
      x = number (at fs (cond heights 3 2));
      y = number (at fs (cond heights 4 3));
      z = number (at fs (cond heights 5 4));
    }

-- a face as a sheet carries it, with heights or without
abbrev pub carried_face : Bool → Face → Face
carried_face heights f =
    record {
      zone = f.zone;
      mark = f.mark;
      height = cond heights f.height (pos 0);
      x = f.x;
      y = f.y;
      z = f.z;
    }
