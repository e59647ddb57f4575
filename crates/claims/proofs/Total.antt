-- The totals of the permitted cases of a job in order are those sums over the faces, and nothing else is.
use mathlib.Core.Path.{◌≡◌, refl, ap, ◌∙◌}
use mathlib.Core.Bool.{true, false}
use mathlib.Core.List.Memᴰ
use mathlib.Core.List.{List, [], ◌∷◌, map, Memᴰ}
use Prim.Native.Nat.{ℕ, ◌-◌, ◌≤◌, ◌<◌}
use native.Mathlib.Omega.{arith}
use lib.IntN.{ℤ, pos, negsuc, nat_abs, ◌*ℤ◌}
use lib.ListN.{length, get_or, length-map}
use borrow.Author.Tests.{le-ltb}
use Rattle.std.specs.Prelude.{Ok, Err}
use Rattle.whole.proofs.Lists.{get_d_map, every-member}
use Rattle.whole.proofs.Tests.{by-test}
use Rattle.building.specs.Test.{beyond}
use Rattle.entry.specs.declared.Wind.{Wind}
use Rattle.entry.specs.declared.Face.{Face}
use Rattle.job.specs.Carried.{Carried}
use Rattle.job.specs.InOrder.{InOrder, InternalInOrder}
use Rattle.book.specs.Answer as book
use Rattle.book.specs.Answer.{values_of}
use Rattle.book.specs.Question.{outside_of, net, too_great, net_to, net_of}
use Rattle.worst.specs.declared.Axis.{Axis}
use Rattle.worst.specs.Cases.{Permitted, Chosen, Case, total, case_total}
use Rattle.worst.specs.Forces.{acts, alternatives, face_speed, pressure, area, force, wind_at, internal_at, loads}
use Rattle.worst.specs.Worst.{given}
use Rattle.whole.proofs.ByPlace.{get_d-all}
use Rattle.whole.proofs.Numbers.{numbers-member}
use Rattle.claims.specs.Total.{Force, acting, idle, Total, none, face}
use Rattle.claims.proofs.Question.{clash, minus-values, net-got, net-unique}

-- ---- the net coefficients of a place, beside its outside coefficients

not-too-great : (internal : ℤ) → nat_abs internal ≤ 100 → too_great internal ≡ false
unfolding beyond
not-too-great (pos n) h = le-ltb 100 n h
not-too-great (negsuc n) h = rw (le-ltb 99 n (omega arith))

net-values : (r : book.Answer) (internal : ℤ) → too_great internal ≡ false
    → values_of (net_to r internal) ≡ map (λ v. net v internal) (values_of r)
net-values (Ok c) internal e = rw e (minus-values internal c.values)
net-values (Err v) internal e = refl

-- ---- one face

module _ (c : Carried) (axis : Axis) (w : Wind) (internal : ℤ) where
  outs : Face → List ℤ
  outs f = values_of (outside_of c.year c.building w.direction f.zone)

  module _ (small : nat_abs internal ≤ 100) where
    force-acting : (f : Face) (k : ℕ) → acts f w.direction ≡ true → 0 < k → k ≤ length (outs f)
        → Force c axis w internal f k (force axis (given c) w internal f k)
    unfolding net_of outs
    force-acting f k e some h =
        let r = net_of c.year c.building w.direction f.zone internal in
        let v : values_of r ≡ map (λ v. net v internal) (outs f) =
        net-values (outside_of c.year c.building w.direction f.zone) internal
        (not-too-great internal small) in
        let got : get_or (values_of r) (k - 1) (pos 0) ≡ net (get_or (outs f) (k - 1) (pos 0)) internal =
        ap (λ l. get_or l (k - 1) (pos 0)) v
        ∙ get_d_map (λ v. net v internal) (outs f) (k - 1) (pos 0) (pos 0) (omega arith) in
        rw (e, ← got)
        (acting e (net-got c.year c.building w.direction f.zone internal) some (rw (v, length-map) h))

    pub force-is : (f : Face) (k : ℕ) → Memᴰ k (alternatives (given c) w f)
        → Force c axis w internal f k (force axis (given c) w internal f k)
    unfolding outs
    force-is f k m =
        by-test (acts f w.direction)
        (λ e.
        let b = numbers-member (length (outs f)) 1 (rw e at m) in force-acting f k e (omega arith) (omega arith))
        (λ e. let o = Memᴰ.eq_of_singleton (rw e at m) in rw (e, o) (idle e))

    -- ---- the sum over the faces

    total-is : (fs : List Face) (ks : List ℕ) → Chosen (alternatives (given c) w) fs ks
        → Total c axis w internal fs ks (total (force axis (given c) w internal) fs ks)
    unfolding total
    total-is [] [] h = none
    total-is [] (k ∷ ks) h = absurd h
    total-is (f ∷ fs) [] h = absurd h
    total-is (f ∷ fs) (k ∷ ks) h = face (force-is f k h.0) (total-is fs ks h.1)

  -- ---- and no other

  force-unique : {f : Face} {k : ℕ} {u v : ℤ} → Force c axis w internal f k u → Force c axis w internal f k v → u ≡ v
  force-unique {f} {k} (acting e n p h) (acting e' n' p' h') =
      let p = pressure c.building.density (face_speed c.profile w f) in
      ap (λ r. get_or (values_of r) (k - 1) (pos 0) *ℤ p *ℤ area axis f)
      (net-unique c.year c.building w.direction f.zone internal n n')
  force-unique (acting e n p h) (idle e') = clash e e'
  force-unique (idle e) (acting e' n p h) = clash e' e
  force-unique (idle e) (idle e') = refl

  pub total-unique : {fs : List Face} {ks : List ℕ} {u v : ℤ} → Total c axis w internal fs ks u
      → Total c axis w internal fs ks v → u ≡ v
  total-unique none none = refl
  total-unique (face f t) (face g s) = rw (force-unique f g, total-unique t s)

-- ---- a permitted case of a job in order

pub case-total : (c : Carried) → InOrder c → (axis : Axis) (k : Case ℕ ℕ ℕ) → Permitted (loads axis (given c)) k
    → Total c axis (wind_at (given c) k.wind) (internal_at (given c) k.internal) c.faces k.chosen
    (case_total (loads axis (given c)) k)
unfolding case_total
case-total c o axis k h =
    total-is c axis (wind_at (given c) k.wind) (internal_at (given c) k.internal)
    (get_d-all InternalInOrder c.internals (pos 0) (omega arith)
    (λ i m. every-member InternalInOrder c.internals o.internals m) (k.internal - 1))
    c.faces k.chosen h.chosen
