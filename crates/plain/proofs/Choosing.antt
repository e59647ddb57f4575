-- Every choice by its number: how many there are, that numbers in order give them in order, and a face at a time.
use mathlib.Core.Path.{◌≡◌, refl, sym, ap, ◌∙◌}
use mathlib.Core.Bool.{Bool, true, false, cond}
use mathlib.Core.List.{List, [], ◌∷◌, ◌++◌, map, map-map, append-nil}
use Prim.Native.Nat.{ℕ, suc, ◌+◌, ◌-◌, ◌*◌, ◌/◌, ◌^◌, ◌≤◌}
use native.Mathlib.Nat.{pow-suc, le_trans, le_of_eq}
use native.Mathlib.Omega.{arith}
use borrow.Author.Tests.{le-leb, lt-leb}
use lib.Dec.{leb}
use lib.IntN.{ℤ}
use lib.ListN.{length, take, drop}
use lib.Seq.{drop-drop, take-add}
use lib.Pow.{pow_mono}
use Rattle.whole.specs.Lists.{first_of, numbers, how_many}
use Rattle.whole.proofs.Numbers.{numbers-split, map-moved}
use Rattle.whole.proofs.Pieces.{map-append}
use Rattle.whole.proofs.Tests.{by-test}
use Rattle.worst.specs.declared.Side.{Side}
use Rattle.worst.specs.declared.FaceForces.{FaceForces}
use Rattle.worst.specs.Cases.{each, choices}
use Rattle.worst.specs.Quick.{over}
use Rattle.worst.specs.Shown.{padded}
use Rattle.worst.proofs.Better.{over-map}
use Rattle.job.specs.Carried.{most_faces}
use Rattle.plain.specs.declared.choices.Turn.{Turn}
use Rattle.plain.specs.ByNumber.{has_two, ways, choice_of, turn_of}
use Rattle.plain.specs.Walked.{alternatives_in, valued, walked}

-- ---- how many

pub ways-some : (fs : List FaceForces) → 1 ≤ ways fs
unfolding ways
ways-some [] = omega arith
ways-some (f ∷ fs) = go (has_two f) (ways-some fs)
  where
    go : (t : Bool) → 1 ≤ ways fs → 1 ≤ cond t (ways fs + ways fs) (ways fs)
    go true h = omega arith
    go false h = h

ways-are : (fs : List FaceForces) → ways fs ≡ 2 ^ how_many has_two fs
unfolding ways how_many
ways-are [] = refl
ways-are (f ∷ fs) = go (has_two f) (how_many has_two fs) (ways-are fs)
  where
    go : (t : Bool) (n : ℕ) → ways fs ≡ 2 ^ n → cond t (ways fs + ways fs) (ways fs) ≡ 2 ^ cond t (suc n) n
    go true n e = omega (arith, pow-suc 2 n)
    go false n e = e

pub ways-few : (k : ℕ) (fs : List FaceForces) → how_many has_two fs ≤ k → ways fs ≤ 2 ^ k
ways-few k fs h = le_trans (le_of_eq (ways-are fs)) (pow_mono h)

-- ---- in order

-- the choices that begin with one alternative
begin : (k : ℕ) (fs : List FaceForces) → choices alternatives_in fs ≡ map (choice_of fs) (numbers (ways fs) 1)
    → map (λ ks. k ∷ ks) (choices alternatives_in fs) ≡ map (λ n. k ∷ choice_of fs n) (numbers (ways fs) 1)
begin k fs e = ap (map (λ ks. k ∷ ks)) e ∙ map-map (λ ks. k ∷ ks) (choice_of fs) (numbers (ways fs) 1)

module _ (f : FaceForces) (fs : List FaceForces) where
  abbrev chosen : ℕ → List ℕ
  chosen = choice_of (f ∷ fs)

  first-half : has_two f ≡ true → map chosen (numbers (ways fs) 1) ≡ map (λ n. 1 ∷ choice_of fs n) (numbers (ways fs) 1)
  unfolding choice_of
  first-half t =
      map-moved chosen (λ n. 1 ∷ choice_of fs n) (ways fs) 1 1
      (λ i h. rw (t, le-leb (1 + i) (ways fs) (omega arith)))

  second-half : has_two f ≡ true
      → map chosen (numbers (ways fs) (1 + ways fs)) ≡ map (λ n. 2 ∷ choice_of fs n) (numbers (ways fs) 1)
  unfolding choice_of
  second-half t =
      map-moved chosen (λ n. 2 ∷ choice_of fs n) (ways fs) (1 + ways fs) 1
      (λ i h.
      let e : 1 + ways fs + i - ways fs ≡ 1 + i = omega arith in
      rw (t, lt-leb (1 + ways fs + i) (ways fs) (omega arith)) (ap (λ n. 2 ∷ choice_of fs n) e))

  one_way : has_two f ≡ false → map chosen (numbers (ways fs) 1) ≡ map (λ n. 1 ∷ choice_of fs n) (numbers (ways fs) 1)
  unfolding choice_of
  one_way t = map-moved chosen (λ n. 1 ∷ choice_of fs n) (ways fs) 1 1 (λ i h. rw t)

module _ (f : FaceForces) (fs : List FaceForces)
    (e : choices alternatives_in fs ≡ map (choice_of fs) (numbers (ways fs) 1)) where
  two_ways : has_two f ≡ true
      → choices alternatives_in (f ∷ fs) ≡ map (choice_of (f ∷ fs)) (numbers (ways (f ∷ fs)) 1)
  unfolding choices each ways
  two_ways t =
      rw t
      (ap (λ l. map (λ ks. 1 ∷ ks) (choices alternatives_in fs) ++ l) (append-nil _)
      ∙ (λ i. begin 1 fs e i ++ begin 2 fs e i)
      ∙ (λ i. sym (first-half f fs t) i ++ sym (second-half f fs t) i)
      ∙ sym (map-append (choice_of (f ∷ fs)) (numbers (ways fs) 1) (numbers (ways fs) (1 + ways fs)))
      ∙ ap (map (choice_of (f ∷ fs))) (sym (numbers-split (ways fs) (ways fs) 1)))

  only-way : has_two f ≡ false
      → choices alternatives_in (f ∷ fs) ≡ map (choice_of (f ∷ fs)) (numbers (ways (f ∷ fs)) 1)
  unfolding choices each ways
  only-way t = rw t (append-nil _ ∙ begin 1 fs e ∙ sym (one_way f fs t))

pub choices-numbered : (fs : List FaceForces) → choices alternatives_in fs ≡ map (choice_of fs) (numbers (ways fs) 1)
unfolding choices choice_of ways numbers
choices-numbered [] = refl
choices-numbered (f ∷ fs) =
    let rest = choices-numbered fs in
    by-test (has_two f) (two_ways f fs rest) (only-way f fs rest)

pub walked-numbered : (s : Side) (value : List ℕ → ℤ) (w i : ℕ) (fs : List FaceForces)
    → walked s value w i fs ≡ over s (λ n. valued value w i (choice_of fs n)) (numbers (ways fs) 1)
unfolding walked
walked-numbered s value w i fs =
    ap (over s (valued value w i)) (choices-numbered fs)
    ∙ over-map s (valued value w i) (choice_of fs) (numbers (ways fs) 1)

-- ---- a face at a time

module _ (f : FaceForces) (fs : List FaceForces) (n left : ℕ) (e : left ≡ ways (f ∷ fs)) where
  half : has_two f ≡ true → left / 2 ≡ ways fs
  unfolding ways
  half t = let d : left ≡ ways fs + ways fs = e ∙ rw t in omega arith

  whole : has_two f ≡ false → left ≡ ways fs
  unfolding ways
  whole t = e ∙ rw t

  pub turned_left : (turn_of f.count left n).left ≡ ways fs
  unfolding turn_of
  turned_left =
      by-test (has_two f)
      (λ t. by-test (leb n (left / 2)) (λ u. rw (t, u) (half t)) (λ u. rw (t, u) (half t)))
      (λ t. rw t (whole t))

  pub turned-choice : choice_of (f ∷ fs) n
      ≡ (turn_of f.count left n).alternative ∷ choice_of fs (turn_of f.count left n).number
  unfolding choice_of turn_of
  turned-choice =
      by-test (has_two f)
      (λ t.
      rw (sym (half t))
      (by-test (leb n (left / 2)) (λ u. rw (t, u)) (λ u. rw (t, u))))
      (λ t. rw t)

-- after the choices of the faces before: one face more
pub ways-turn : (f : FaceForces) (fs : List FaceForces) (n : ℕ)
    → cond (has_two f) (n + n) n * ways fs ≡ n * ways (f ∷ fs)
unfolding ways
ways-turn f fs n = go (has_two f)
  where
    go : (t : Bool) → cond t (n + n) n * ways fs ≡ n * cond t (ways fs + ways fs) (ways fs)
    go true = omega arith
    go false = refl

-- and its alternative in the choice of a number
module _ (rows : List FaceForces) (f : FaceForces) (rest : List FaceForces) (number n left i : ℕ)
    (here : drop i rows ≡ f ∷ rest) (all : left ≡ ways (drop i rows))
    (on : choice_of (drop i rows) n ≡ drop i (choice_of rows number)) where
  abbrev turn : Turn
  turn = turn_of f.count left n

  pub turn-left : turn.left ≡ ways rest
  turn-left = turned_left f rest n left (all ∙ ap ways here)

  going : drop i (choice_of rows number) ≡ turn.alternative ∷ choice_of rest turn.number
  going = sym on ∙ ap (λ fs. choice_of fs n) here ∙ turned-choice f rest n left (all ∙ ap ways here)

  pub turn_on : choice_of rest turn.number ≡ drop (i + 1) (choice_of rows number)
  turn_on = sym (sym (drop-drop 1 i (choice_of rows number)) ∙ ap (drop 1) going)

  pub turn-chosen : take i (choice_of rows number) ++ (turn.alternative ∷ []) ≡ take (i + 1) (choice_of rows number)
  turn-chosen =
      sym (take-add i 1 (choice_of rows number) ∙ ap (λ l. take i (choice_of rows number) ++ take 1 l) going)

pub choice-length : (fs : List FaceForces) (n : ℕ) → length (choice_of fs n) ≡ length fs
unfolding choice_of
choice-length [] n = refl
choice-length (f ∷ fs) n = go (choice-length fs) (has_two f) (leb n (ways fs))
  where
    go : ((n : ℕ) → length (choice_of fs n) ≡ length fs) → (s t : Bool)
        → length (cond s (cond t (1 ∷ choice_of fs n) (2 ∷ choice_of fs (n - ways fs))) (1 ∷ choice_of fs n))
        ≡ suc (length fs)
    go h true true = ap suc (h n)
    go h true false = ap suc (h (n - ways fs))
    go h false t = ap suc (h n)

-- the choice itself, of an array that holds it
own : (ks rest : List ℕ) → first_of 0 (length ks) (ks ++ rest) ≡ ks
unfolding first_of
own [] rest = refl
own (k ∷ ks) rest = ap (λ l. k ∷ l) (own ks rest)

pub own-choice : (n : ℕ) (choice ks : List ℕ) → choice ≡ padded most_faces ks → length ks ≡ n
    → first_of 0 n choice ≡ ks
unfolding padded
own-choice n choice ks e long = (λ j. first_of 0 (sym long j) (e j)) ∙ own ks _
