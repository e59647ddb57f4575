-- Faces as numbers one after another, six for each: its zone, its mark, its height, and its areas on x, y, z.
use Rattle.std.specs.Prelude.{List, [], ◌∷◌, ◌++◌, map, ℕ, ◌+◌, ◌*◌, ◌%◌, ℤ, pos, nat_abs, get_or}
use Rattle.whole.specs.Lists.{numbers}
use Rattle.entry.specs.declared.Face.{Face}

abbrev pub per_face : ℕ
per_face = 6

abbrev pub numbers_of : Face → List ℤ
numbers_of f = pos f.zone ∷ f.mark ∷ f.height ∷ f.x ∷ f.y ∷ f.z ∷ []

unfoldable pub flat_faces : List Face → List ℤ
flat_faces [] = []
flat_faces (f ∷ fs) = numbers_of f ++ flat_faces fs

-- face i of such numbers, from 0, and the first n faces
abbrev pub number_in : List ℤ → ℕ → ℕ → ℤ
number_in l i k = get_or l (per_face * i + k) (pos 0)

abbrev pub face_in : List ℤ → ℕ → Face
face_in l i =
    record {
      zone = nat_abs (number_in l i 0) % 256;
      mark = number_in l i 1;
      height = number_in l i 2;
      x = number_in l i 3;
      y = number_in l i 4;
      z = number_in l i 5;
    }

unfoldable pub faces_in : ℕ → List ℤ → List Face
faces_in n l = map (face_in l) (numbers n 0)
