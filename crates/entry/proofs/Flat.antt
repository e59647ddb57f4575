-- Laws of faces as plain numbers: one face more, and that the numbers give the faces back.
use Prim.Native.Nat.{ℕ, zero, suc, ◌+◌, ◌*◌, ◌≤◌, ◌<◌, ◌%◌}
use mathlib.Core.Path.{◌≡◌, refl, sym, ap, ◌∙◌}
use mathlib.Core.List.{List, [], ◌∷◌, ◌++◌, map, append_assoc}
use native.Mathlib.Omega.{arith}
use lib.IntN.{ℤ, pos, nat_abs}
use lib.ListN.{length, get_or, length-append, length-map}
use lib.Seq.{sets}
use Rattle.whole.specs.Lists.{first_of, Every, numbers}
use Rattle.whole.proofs.Lists.{first_of-get_d, first_of-puts}
use Rattle.whole.proofs.Numbers.{by-places, length-numbers, numbers-next}
use Rattle.entry.specs.declared.Face.{Face}
use Rattle.entry.specs.Flat.{per_face, numbers_of, flat_faces, number_in, face_in, faces_in}

-- ---- one face more

pub flat-length : (fs : List Face) → length (flat_faces fs) ≡ per_face * length fs
unfolding flat_faces
flat-length [] = refl
flat-length (f ∷ fs) = omega (arith, length-append (numbers_of f) (flat_faces fs), flat-length fs)

flat-more : (fs : List Face) (f : Face) → flat_faces (fs ++ (f ∷ [])) ≡ flat_faces fs ++ numbers_of f
unfolding flat_faces
flat-more [] f = refl
flat-more (g ∷ fs) f =
    ap (λ (l : List ℤ). numbers_of g ++ l) (flat-more fs f)
    ∙ sym (append_assoc (numbers_of g) (flat_faces fs) (numbers_of f))

-- its numbers stand behind the others, as far as there is room
pub flat-put : (n : ℕ) (fs : List Face) (f : Face)
    → first_of (pos 0) n (flat_faces (fs ++ (f ∷ [])))
    ≡ sets (first_of (pos 0) n (flat_faces fs)) (per_face * length fs) (numbers_of f)
flat-put n fs f =
    ap (first_of (pos 0) n) (flat-more fs f)
    ∙ first_of-puts (pos 0) n (flat_faces fs) (numbers_of f)
    ∙ ap (λ (i : ℕ). sets (first_of (pos 0) n (flat_faces fs)) i (numbers_of f)) (flat-length fs)

-- ---- faces read one by one

pub faces-length : (n : ℕ) (l : List ℤ) → length (faces_in n l) ≡ n
unfolding faces_in
faces-length n l = length-map (numbers n 0) (face_in l) ∙ length-numbers n 0

pub faces-none : (l : List ℤ) → faces_in 0 l ≡ []
unfolding faces_in numbers
faces-none l = refl

pub faces-more : (n : ℕ) (l : List ℤ) → faces_in (n + 1) l ≡ faces_in n l ++ (face_in l n ∷ [])
unfolding faces_in
faces-more n l =
    let e : 0 + n ≡ n = omega arith in
    ap (map (face_in l)) (sym (numbers-next n 0))
    ∙ go (numbers n 0)
    ∙ ap (λ (i : ℕ). map (face_in l) (numbers n 0) ++ (face_in l i ∷ [])) e
  where
    go : (ns : List ℕ) → map (face_in l) (ns ++ ((0 + n) ∷ [])) ≡ map (face_in l) ns ++ (face_in l (0 + n) ∷ [])
    go [] = refl
    go (k ∷ ns) = ap (λ (fs : List Face). face_in l k ∷ fs) (go ns)

-- ---- the faces again

-- a face by its six numbers
same_numbers : (l m : List ℤ) (i j : ℕ) → ((k : ℕ) → k < per_face → number_in l i k ≡ number_in m j k)
    → face_in l i ≡ face_in m j
same_numbers l m i j e =
    λ h. record {
      zone = nat_abs (e 0 (omega arith) h) % 256;
      mark = e 1 (omega arith) h;
      height = e 2 (omega arith) h;
      x = e 3 (omega arith) h;
      y = e 4 (omega arith) h;
      z = e 5 (omega arith) h;
    }

-- the first of them
first-face : (f : Face) (fs : List Face) → f.zone < 256 → face_in (flat_faces (f ∷ fs)) 0 ≡ f
unfolding flat_faces
first-face f fs h =
    let e : f.zone % 256 ≡ f.zone = omega arith in
    λ i. record { zone = e i; mark = f.mark; height = f.height; x = f.x; y = f.y; z = f.z }

later-face : (f : Face) (fs : List Face) (i : ℕ) → face_in (flat_faces (f ∷ fs)) (suc i) ≡ face_in (flat_faces fs) i
unfolding flat_faces
later-face f fs i =
    same_numbers (flat_faces (f ∷ fs)) (flat_faces fs) (suc i) i
    (λ k h.
    let e : per_face * suc i + k ≡ suc (suc (suc (suc (suc (suc (per_face * i + k)))))) = omega arith in
    ap (λ (n : ℕ). get_or (flat_faces (f ∷ fs)) n (pos 0)) e)

face-in : (d : Face) (fs : List Face) → Every (λ f. f.zone < 256) fs → (i : ℕ) → i < length fs
    → face_in (flat_faces fs) i ≡ get_or fs i d
face-in d [] z i h = absurd (omega arith)
face-in d (f ∷ fs) z zero h = first-face f fs z.0
face-in d (f ∷ fs) z (suc i) h = later-face f fs i ∙ face-in d fs z.1 i (omega arith)

module _ (fs : List Face) (zones : Every (λ f. f.zone < 256) fs) (n : ℕ) (room : per_face * length fs ≤ n) where
  pub face-back : (d : Face) (i : ℕ) → i < length fs → face_in (first_of (pos 0) n (flat_faces fs)) i ≡ get_or fs i d
  face-back d i h =
      same_numbers (first_of (pos 0) n (flat_faces fs)) (flat_faces fs) i i
      (λ k t. first_of-get_d (pos 0) n (per_face * i + k) (flat_faces fs) (omega arith))
      ∙ face-in d fs zones i h

  pub faces-back : faces_in (length fs) (first_of (pos 0) n (flat_faces fs)) ≡ fs
  unfolding faces_in
  faces-back =
      let l = first_of (pos 0) n (flat_faces fs) in
      let d = face_in [] 0 in
      sym (by-places d (face_in l) fs 0
      (λ i h. let e : i ≡ 0 + i = omega arith in sym (face-back d i h) ∙ ap (face_in l) e))
