-- What is stored of a cell adds up over the faces: each has a part that no other face changes. So faces are put in the
-- place of others by their parts alone. And how large what is stored can be.
use mathlib.Core.Path.{◌≡◌, refl, sym, ap, ◌∙◌, subst}
use mathlib.Core.Bool.{Bool, true, false, cond}
use mathlib.Core.List.Memᴰ
use mathlib.Core.List.{List, [], ◌∷◌, ◌++◌, Memᴰ}
use Prim.Native.Nat.{ℕ, ◌+◌, ◌-◌, ◌*◌, ◌/◌, ◌%◌, ◌≤◌, ◌<◌}
use native.Mathlib.Omega.{arith}
use borrow.Author.Tests.{ltb-true}
use lib.IntN.{ℤ, pos, nat_abs, ◌+ℤ◌, ◌-ℤ◌, +ℤ_idl, +ℤ_assoc}
use lib.ListN.{length}
use Rattle.whole.proofs.Parts.{order, add-law, sub-lawℤ}
use Rattle.whole.proofs.Tests.{by-test, and-true}
use Rattle.whole.proofs.ByPlace.{get_d-member, get_d-all}
use Rattle.entry.specs.declared.Wind.{Wind}
use Rattle.entry.specs.declared.Face.{Face}
use Rattle.job.specs.Carried.{Carried, with_faces, no_wind}
use Rattle.job.specs.InOrder.{InOrder}
use Rattle.worst.specs.declared.Side.{Side}
use Rattle.worst.specs.declared.Side.TheVariants.{Greatest, Least}
use Rattle.worst.specs.declared.Axis.{Axis}
use Rattle.worst.specs.declared.Axis.TheVariants.{X, Y, Z}
use Rattle.worst.specs.Best.{Best, none, at, better, best}
use Rattle.whole.specs.Lists.{numbers}
use Rattle.worst.specs.Cases.{Loads, total, choices}
use Rattle.worst.specs.Forces.{Given, acts, outsides, force, wind_at, internal_at, loads}
use Rattle.worst.specs.Worst.{given}
use Rattle.worst.specs.Stored.{best_choice, value_of, no_cell, counts, sums_at, span_on, span_side}
use Rattle.worst.specs.Quick.{sum}
use Rattle.worst.proofs.Meaning.{best-is, best-found}
use Rattle.worst.proofs.Quick.{best-choice}
use Rattle.worst.proofs.OneFace.{OneOrTwo, alone, pair}
use Rattle.worst.proofs.Ranges.{InRange, total-small, force-small}
use Rattle.worst.proofs.Accepted.{given-sound, given-in-range}
use Rattle.worst.proofs.JobSums.{on-cell}

sum-append : {A : Type 0} (value : A → ℤ) (l m : List A) → sum value (l ++ m) ≡ sum value l +ℤ sum value m
unfolding sum
sum-append value [] m = sym (+ℤ_idl (sum value m))
sum-append value (x ∷ l) m =
    ap (λ z. value x +ℤ z) (sum-append value l m) ∙ sym (+ℤ_assoc (value x) (sum value l) (sum value m))

-- one part of a sum in the place of another
exchange : (p o n q : ℤ) → p +ℤ (n +ℤ q) ≡ ((p +ℤ (o +ℤ q)) -ℤ o) +ℤ n
exchange p o n q =
    let before = p +ℤ (o +ℤ q) in
    omega (
      arith,
      order,
      add-law n q,
      add-law p (n +ℤ q),
      add-law o q,
      add-law p (o +ℤ q),
      sub-lawℤ before o,
      add-law (before -ℤ o) n,
    )

-- ---- one cell, on one axis and one side

abbrev first_best : Best ℕ → ℕ
first_best none = 0
first_best (at v k) = k

module _ (c : Carried) (axis : Axis) (s : Side) (w i : ℕ) where
  abbrev l : Loads ℕ ℕ Face ℕ
  l = loads axis (given c)

  abbrev best_of : Face → Best ℕ
  best_of f = best s (l.force w i f) (l.alternatives w f)

  -- what a face adds, whatever the others are
  abbrev part : Face → ℤ
  part f = value_of (best_of f)

  -- what these faces come to
  abbrev sum_of : List Face → ℤ
  sum_of fs = value_of (best_choice s (loads axis (given (with_faces fs c))) w i)

  abbrev HaveSome : List Face → Type 0
  HaveSome fs = (f : Face) → Memᴰ f fs → Memᴰ 1 (l.alternatives w f)

  part-found : (f : Face) → Memᴰ 1 (l.alternatives w f) → best_of f ≡ at (part f) (first_best (best_of f))
  part-found f m =
      let e = (best-found s (l.force w i f) (l.alternatives w f) m).2 in
      e ∙ sym (ap (λ b. at (value_of b) (first_best b)) e)

  pub adds-up : (fs : List Face) → HaveSome fs → sum_of fs ≡ sum part fs
  adds-up fs h =
      ap value_of
      (best-choice s (l.alternatives w) (l.force w i) part (λ f. first_best (best_of f)) fs
      (λ f m. part-found f (h f m)))

  -- of a job in order, each face has an alternative
  first-in : (t : Bool) (outs : List ℤ) → (t ≡ true → OneOrTwo outs)
      → Memᴰ 1 (cond t (numbers (length outs) 1) (1 ∷ []))
  unfolding numbers
  first-in true outs h = go outs (h refl)
    where
      go : (os : List ℤ) → OneOrTwo os → Memᴰ 1 (numbers (length os) 1)
      go os (alone v) = Memᴰ.head refl
      go os (pair v u) = Memᴰ.head refl
  first-in false outs h = Memᴰ.head refl

  have-some : w - 1 < length c.winds → (fs : List Face) → InOrder (with_faces fs c) → HaveSome fs
  have-some t fs o f m =
      let g = given c in
      let u = wind_at g w in
      first-in (acts f u.direction) (outsides g u f)
      (given-sound (with_faces fs c) o u f (get_d-member c.winds (w - 1) no_wind t) m)

  module _ (pre out new post : List Face) where
    exchanged : HaveSome (pre ++ (out ++ post)) → HaveSome (pre ++ (new ++ post))
        → sum_of (pre ++ (new ++ post)) ≡ (sum_of (pre ++ (out ++ post)) -ℤ sum_of out) +ℤ sum_of new
    exchanged h k =
        let v = sum part in
        let both : (m : List Face) → HaveSome (pre ++ (m ++ post))
        → sum_of (pre ++ (m ++ post)) ≡ v pre +ℤ (v m +ℤ v post) =
        λ m z. adds-up (pre ++ (m ++ post)) z ∙ sum-append part pre (m ++ post)
        ∙ ap (λ x. v pre +ℤ x) (sum-append part m post) in
        let alone : (m : List Face) → HaveSome (pre ++ (m ++ post)) → v m ≡ sum_of m =
        λ m z. sym (adds-up m (λ f n. z f (Memᴰ.append_right pre (Memᴰ.append_left post n)))) in
        both new k ∙ exchange (v pre) (v out) (v new) (v post)
        ∙ (λ j. (sym (both out h) j -ℤ alone out h j) +ℤ alone new k j)

-- ---- all of them

-- what is stored at a cell, on one axis and one side
abbrev pub stored_on : Axis → Side → Carried → ℕ → ℤ
stored_on axis s c k = span_side s (span_on axis (sums_at (given c) k))

pub on_none : (axis : Axis) (s : Side) → span_side s (span_on axis no_cell) ≡ pos 0
on_none X Greatest = refl
on_none X Least = refl
on_none Y Greatest = refl
on_none Y Least = refl
on_none Z Greatest = refl
on_none Z Least = refl

module _ (axis : Axis) (s : Side) (c : Carried) (k : ℕ) where
  counted : counts (given c) k ≡ true
      → stored_on axis s c k ≡ value_of (best_choice s (loads axis (given c)) (k / 4 + 1) (k % 4 + 1))
  counted t = rw t (on-cell axis s (given c) (k / 4 + 1) (k % 4 + 1))

  past : counts (given c) k ≡ false → stored_on axis s c k ≡ pos 0
  past t = rw t (on_none axis s)

-- with these faces in the place of those: their parts taken out, and the new ones' put in
pub parts-exchanged : (c : Carried) (pre out new post : List Face) → InOrder (with_faces (pre ++ (out ++ post)) c)
    → InOrder (with_faces (pre ++ (new ++ post)) c) → (axis : Axis) (s : Side) (k : ℕ)
    → stored_on axis s (with_faces (pre ++ (new ++ post)) c) k
    ≡ (stored_on axis s (with_faces (pre ++ (out ++ post)) c) k -ℤ stored_on axis s (with_faces out c) k)
    +ℤ stored_on axis s (with_faces new c) k
parts-exchanged c pre out new post before after axis s k =
    by-test (counts (given c) k)
    (λ t.
    let is : (fs : List Face) → stored_on axis s (with_faces fs c) k ≡ sum_of c axis s (k / 4 + 1) (k % 4 + 1) fs =
    λ fs. counted axis s (with_faces fs c) k t in
    let there = ltb-true (k / 4) (length c.winds) (and-true _ _ t).0 in
    let some = have-some c axis s (k / 4 + 1) (k % 4 + 1) (omega arith) in
    is (pre ++ (new ++ post))
    ∙ exchanged c axis s (k / 4 + 1) (k % 4 + 1) pre out new post (some _ before) (some _ after)
    ∙ (λ j. (sym (is (pre ++ (out ++ post))) j -ℤ sym (is out) j) +ℤ sym (is new) j))
    (λ t.
    let is : (fs : List Face) → stored_on axis s (with_faces fs c) k ≡ pos 0 =
    λ fs. past axis s (with_faces fs c) k t in
    is (pre ++ (new ++ post))
    ∙ (λ j. (sym (is (pre ++ (out ++ post))) j -ℤ sym (is out) j) +ℤ sym (is new) j))

-- no faces have no part
pub no_part : (c : Carried) (axis : Axis) (s : Side) (k : ℕ) → stored_on axis s (with_faces [] c) k ≡ pos 0
unfolding best better choices total
no_part c axis s k =
    let d = with_faces [] c in
    by-test (counts (given c) k) (counted axis s d k) (past axis s d k)

-- ---- their size

-- no larger than what it is the best of
best-small : {A : Type 0} (s : Side) (f : A → ℤ) (n : ℕ) → ((a : A) → nat_abs (f a) ≤ n) → (l : List A)
    → nat_abs (value_of (best s f l)) ≤ n
best-small s f n h l = go (best s f l) refl
  where
    go : (b : Best _) → best s f l ≡ b → nat_abs (value_of b) ≤ n
    go none e = omega arith
    go (at v a) e = subst (λ z. nat_abs z ≤ n) (best-is s f l v a e).reached (h a)

module _ (g : Given) {n : ℕ} (r : InRange n g) (axis : Axis) (s : Side) (w i : ℕ) where
  sum-small : nat_abs (value_of (best_choice s (loads axis g) w i)) ≤ length g.faces * 330000000000000000
  sum-small =
      best-small s _ _
      (total-small (force axis g (wind_at g w) (internal_at g i)) 330000000000000000 g.faces
      (λ f m k. force-small g r axis (wind_at g w) (internal_at g i) f k slow low m)) _
    where
      slow : nat_abs (wind_at g w).speed ≤ 1000
      slow = get_d-all (λ (u : Wind). nat_abs u.speed ≤ 1000) g.winds no_wind (omega arith) r.speed (w - 1)

      low : nat_abs (internal_at g i) ≤ 100
      low = get_d-all (λ (z : ℤ). nat_abs z ≤ 100) g.internals (pos 0) (omega arith) r.internal (i - 1)

pub stored-small : (c : Carried) → InOrder c → (axis : Axis) (s : Side) (k : ℕ)
    → nat_abs (stored_on axis s c k) ≤ length c.faces * 330000000000000000
stored-small c o axis s k =
    let n = length c.faces * 330000000000000000 in
    by-test (counts (given c) k)
    (λ t. subst (λ z. nat_abs z ≤ n) (sym (counted axis s c k t))
    (sum-small (given c) (given-in-range c o) axis s (k / 4 + 1) (k % 4 + 1)))
    (λ t. subst (λ z. nat_abs z ≤ n) (sym (past axis s c k t)) (omega arith))
