-- The six numbers of a face stored one after another in a list: where they stand, and that all others stay.
use mathlib.Core.Path.{◌≡◌, ap, ◌∙◌}
use mathlib.Core.List.{List}
use Prim.Native.Nat.{ℕ, ◌+◌, ◌*◌, ◌%◌, ◌<◌}
use native.Mathlib.Omega.{arith}
use lib.IntN.{ℤ, pos, nat_abs}
use lib.ListN.{length, get_or, set, length-set}
use lib.Seq.{get_or-set_same, get_or-set_other}
use Rattle.entry.specs.declared.Face.{Face}
use Rattle.entry.specs.Flat.{face_in}

-- what is stored later leaves a number where it is
later : (l : List ℤ) (p q : ℕ) (v : ℤ) → q < p → get_or (set l p v) q (pos 0) ≡ get_or l q (pos 0)
later l p q v h = get_or-set_other l p q v (pos 0) (λ e. absurd (omega (arith, e)))

module _ (l : List ℤ) (p : ℕ) (a b c d e f : ℤ) where
  abbrev one : List ℤ
  one = set l p a

  abbrev two : List ℤ
  two = set one (p + 1) b

  abbrev three : List ℤ
  three = set two (p + 2) c

  abbrev four : List ℤ
  four = set three (p + 3) d

  abbrev five : List ℤ
  five = set four (p + 4) e

  abbrev pub six : List ℤ
  six = set five (p + 5) f

  pub six-length : length six ≡ length l
  six-length =
      length-set five (p + 5) f ∙ length-set four (p + 4) e ∙ length-set three (p + 3) d ∙ length-set two (p + 2) c
      ∙ length-set one (p + 1) b ∙ length-set l p a

  beside : (q : ℕ) → ((m : ℕ) → m < 6 → p + m ≡ q → ⊥) → get_or six q (pos 0) ≡ get_or l q (pos 0)
  beside q h =
      get_or-set_other five (p + 5) q f (pos 0) (λ t. absurd (omega (arith, t, h 5 (omega arith))))
      ∙ get_or-set_other four (p + 4) q e (pos 0) (λ t. absurd (omega (arith, t, h 4 (omega arith))))
      ∙ get_or-set_other three (p + 3) q d (pos 0) (λ t. absurd (omega (arith, t, h 3 (omega arith))))
      ∙ get_or-set_other two (p + 2) q c (pos 0) (λ t. absurd (omega (arith, t, h 2 (omega arith))))
      ∙ get_or-set_other one (p + 1) q b (pos 0) (λ t. absurd (omega (arith, t, h 1 (omega arith))))
      ∙ get_or-set_other l p q a (pos 0) (λ t. absurd (omega (arith, t, h 0 (omega arith))))

  module _ (h : p + 5 < length l) where
    sixth : get_or six (p + 5) (pos 0) ≡ f
    sixth =
        get_or-set_same five (p + 5) f (pos 0)
        (omega (
          arith,
          length-set four (p + 4) e,
          length-set three (p + 3) d,
          length-set two (p + 2) c,
          length-set one (p + 1) b,
          length-set l p a,
        ))

    fifth : get_or six (p + 4) (pos 0) ≡ e
    fifth =
        later five (p + 5) (p + 4) f (omega arith)
        ∙ get_or-set_same four (p + 4) e (pos 0)
        (omega (
          arith,
          length-set three (p + 3) d,
          length-set two (p + 2) c,
          length-set one (p + 1) b,
          length-set l p a,
        ))

    fourth : get_or six (p + 3) (pos 0) ≡ d
    fourth =
        later five (p + 5) (p + 3) f (omega arith) ∙ later four (p + 4) (p + 3) e (omega arith)
        ∙ get_or-set_same three (p + 3) d (pos 0)
        (omega (arith, length-set two (p + 2) c, length-set one (p + 1) b, length-set l p a))

    third : get_or six (p + 2) (pos 0) ≡ c
    third =
        later five (p + 5) (p + 2) f (omega arith) ∙ later four (p + 4) (p + 2) e (omega arith)
        ∙ later three (p + 3) (p + 2) d (omega arith)
        ∙ get_or-set_same two (p + 2) c (pos 0) (omega (arith, length-set one (p + 1) b, length-set l p a))

    second : get_or six (p + 1) (pos 0) ≡ b
    second =
        later five (p + 5) (p + 1) f (omega arith) ∙ later four (p + 4) (p + 1) e (omega arith)
        ∙ later three (p + 3) (p + 1) d (omega arith) ∙ later two (p + 2) (p + 1) c (omega arith)
        ∙ get_or-set_same one (p + 1) b (pos 0) (omega (arith, length-set l p a))

    first : get_or six (p + 0) (pos 0) ≡ a
    first =
        let here : p + 0 ≡ p = omega arith in
        ap (λ q. get_or six q (pos 0)) here ∙ later five (p + 5) p f (omega arith)
        ∙ later four (p + 4) p e (omega arith) ∙ later three (p + 3) p d (omega arith)
        ∙ later two (p + 2) p c (omega arith) ∙ later one (p + 1) p b (omega arith)
        ∙ get_or-set_same l p a (pos 0) (omega arith)

-- ---- those of face i

abbrev pub with_face_at : List ℤ → ℕ → Face → List ℤ
with_face_at l i f = six l (6 * i) (pos f.zone) f.mark f.height f.x f.y f.z

module _ (l : List ℤ) (i : ℕ) (f : Face) where
  pub face-there : 6 * i + 5 < length l → f.zone < 256 → face_in (with_face_at l i f) i ≡ f
  face-there h z =
      let a = pos f.zone in
      let p = 6 * i in
      let small : f.zone % 256 ≡ f.zone = omega arith in
      λ j. record {
        zone = (ap (λ t. nat_abs t % 256) (first l p a f.mark f.height f.x f.y f.z h) ∙ small) j;
        mark = second l p a f.mark f.height f.x f.y f.z h j;
        height = third l p a f.mark f.height f.x f.y f.z h j;
        x = fourth l p a f.mark f.height f.x f.y f.z h j;
        y = fifth l p a f.mark f.height f.x f.y f.z h j;
        z = sixth l p a f.mark f.height f.x f.y f.z h j;
      }

  number-stays : (k m : ℕ) → m < 6 → (k ≡ i → ⊥)
      → get_or (with_face_at l i f) (6 * k + m) (pos 0) ≡ get_or l (6 * k + m) (pos 0)
  number-stays k m h n =
      beside l (6 * i) (pos f.zone) f.mark f.height f.x f.y f.z (6 * k + m)
      (λ r s t. let e : k ≡ i = omega arith in n e)

  pub others-stay : (k : ℕ) → (k ≡ i → ⊥) → face_in (with_face_at l i f) k ≡ face_in l k
  others-stay k n =
      λ j. record {
        zone = nat_abs (number-stays k 0 (omega arith) n j) % 256;
        mark = number-stays k 1 (omega arith) n j;
        height = number-stays k 2 (omega arith) n j;
        x = number-stays k 3 (omega arith) n j;
        y = number-stays k 4 (omega arith) n j;
        z = number-stays k 5 (omega arith) n j;
      }
