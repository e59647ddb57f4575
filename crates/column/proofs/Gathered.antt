-- Faces put into a record one by one: after all of a list it is the list's record.
use mathlib.Core.Path.{◌≡◌, refl, sym, ◌∙◌, ap}
use mathlib.Core.List.{List, [], ◌∷◌, ◌++◌}
use Prim.Native.Nat.{ℕ, zero, suc, ◌+◌, min, ◌≤◌, ◌<◌}
use native.Mathlib.Omega.{arith}
use lib.Dec.{ltb, leb}
use borrow.Author.Tests.{lt-ltb, le-ltb, ltb-true, ltb-false, leb-true, leb-false}
use lib.ListN.{length, get_or, take, length-append}
use lib.Seq.{length-take-le, take_all}
use Rattle.whole.specs.Lists.{first_of}
use Rattle.whole.proofs.Tests.{by-test}
use Rattle.whole.proofs.Lists.{first_of-none, first_of-take, first_of-more, first_of-fewer}
use Rattle.std.proofs.lemmas.List.{take_more}
use Rattle.entry.specs.declared.Face.{Face}
use Rattle.job.specs.declared.Faces.{Faces}
use Rattle.job.specs.Carried.{no_face, most_faces}
use Rattle.column.specs.Listed.{listed}
use Rattle.column.specs.OneByOne.{no_faces, with_one}

first_of-enough : {X : Type 0} (d : X) (n : ℕ) (l m : List X) → n ≤ length l → first_of d n (l ++ m) ≡ first_of d n l
unfolding first_of
first_of-enough d zero l m h = refl
first_of-enough d (suc n) [] m h = absurd (omega arith)
first_of-enough d (suc n) (x ∷ l) m h = ap (λ k. x ∷ k) (first_of-enough d n l m (omega arith))

one_more : (l : List Face) (f : Face) → with_one (listed l) f ≡ listed (l ++ (f ∷ []))
unfolding listed
one_more l f = by-test (ltb (length l) most_faces) (λ t. room (ltb-true _ _ t)) (λ t. none (ltb-false _ _ t))
  where
    room : length l < most_faces → with_one (listed l) f ≡ listed (l ++ (f ∷ []))
    room h =
        let c : min (length l) (most_faces + 1) ≡ length l = omega arith in
        let e : min (length (l ++ (f ∷ []))) (most_faces + 1) ≡ length l + 1 = omega (
          arith,
          length-append l
              (f ∷ []),
        ) in
        rw (c, lt-ltb (length l) most_faces h, e, first_of-more no_face most_faces l f h)

    none : most_faces ≤ length l → with_one (listed l) f ≡ listed (l ++ (f ∷ []))
    none h =
        let e : min (length (l ++ (f ∷ []))) (most_faces + 1) ≡ most_faces + 1 =
        omega (arith, length-append l (f ∷ [])) in
        let c : most_faces ≤ min (length l) (most_faces + 1) = omega arith in
        rw (le-ltb (min (length l) (most_faces + 1)) most_faces c, e, first_of-enough no_face most_faces l (f ∷ []) h)

pub start : no_faces ≡ listed []
unfolding listed first_of
start = ap (λ (l : List Face). record { count = 0; entry = l }) (sym (first_of-none no_face most_faces))

module _ (fs : List Face) where
  pub more : (s r : Faces) (i : ℕ) → i < length fs → s ≡ listed (take i fs) → r ≡ with_one s (get_or fs i no_face)
      → r ≡ listed (take (i + 1) fs)
  more s r i h e p =
      p
      ∙ ap (λ (q : Faces). with_one q (get_or fs i no_face)) e
      ∙ one_more (take i fs) (get_or fs i no_face)
      ∙ ap listed (sym (take_more fs i no_face h))

  -- one more than a record has room for tell all that it says of a list
  pub telling : listed (take (min (length fs) (most_faces + 1)) fs) ≡ listed fs
  unfolding listed
  telling = by-test (leb (length fs) (most_faces + 1)) (λ t. whole (leb-true _ _ t)) (λ t. part (leb-false _ _ t))
    where
      whole : length fs ≤ most_faces + 1 → listed (take (min (length fs) (most_faces + 1)) fs) ≡ listed fs
      whole h = ap listed (take_all (min (length fs) (most_faces + 1)) fs (omega arith))

      part : most_faces + 1 < length fs → listed (take (min (length fs) (most_faces + 1)) fs) ≡ listed fs
      part h =
          let e : min (length fs) (most_faces + 1) ≡ most_faces + 1 = omega arith in
          let long = length-take-le (most_faces + 1) fs (omega arith) in
          let n : min (length (take (most_faces + 1) fs)) (most_faces + 1) ≡ min (length fs) (most_faces + 1) =
          omega (arith, long) in
          ap (λ k. listed (take k fs)) e
          ∙ (λ i. record {
            count = n i;
            entry = (ap (first_of no_face most_faces) (sym (first_of-take no_face (most_faces + 1) fs (omega arith)))
                ∙ first_of-fewer no_face most_faces (most_faces + 1) fs (omega arith)) i;
          })
