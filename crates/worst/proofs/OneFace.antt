-- One face: the best of its alternatives under a wind and an internal coefficient, from its outside coefficients and
-- its weight.
use mathlib.Core.Path.{◌≡◌, refl, sym, ap, ◌∙◌}
use mathlib.Core.Bool.{Bool, true, false, cond}
use mathlib.Core.List.{List, [], ◌∷◌}
use Prim.Native.Nat.{ℕ, ◌-◌}
use lib.IntN.{ℤ, pos, neg_ℤ, ◌+ℤ◌, ◌-ℤ◌, ◌*ℤ◌, *ℤ-zero}
use lib.ListN.{length, get_or}
use Rattle.whole.proofs.Order.{*ℤ-assoc}
use Rattle.whole.proofs.Products.{minus-times, times-plus, plus-minus}
use Rattle.book.specs.Question.{net}
use Rattle.worst.specs.declared.Side.{Side}
use Rattle.worst.specs.declared.outside.Outside.{Outside}
use Rattle.worst.specs.Best.{short, Best, none, at, better, best}
use Rattle.whole.specs.Lists.{numbers}
use Rattle.worst.specs.Quick.{sum}
use Rattle.worst.specs.Table.{first_and_last}
use Rattle.worst.specs.Engine.{further, which, reach, pick}
use Rattle.worst.proofs.Sides.{short-add, within-refl, within-long}

-- a face has one or two outside coefficients
pub data OneOrTwo : List ℤ → Type 0 where
  alone : (v : ℤ) → OneOrTwo (v ∷ [])
  pair : (v u : ℤ) → OneOrTwo (v ∷ u ∷ [])

-- ---- the best of one alternative, and of two

module _ (s : Side) where
  short-self : (a : ℤ) → short s a a ≡ false
  short-self a = within-long s a a (within-refl s a)

  one-best : (a : ℤ) → at a 1 ≡ at (further s a a) (which s a a)
  unfolding further which
  one-best a = rw (short-self a)

  two-best : (a b : ℤ) → better s (at a 1) (better s (at b 2) none) ≡ at (further s a b) (which s a b)
  unfolding better further which
  two-best a b = go (short s a b)
    where
      go : (t : Bool) → cond {A = Best ℕ} t (at b 2) (at a 1) ≡ at (cond t b a) (cond {A = ℕ} t 2 1)
      go true = refl
      go false = refl

  -- one number less in both
  further-minus : (x y d : ℤ) → at (further s (x -ℤ d) (y -ℤ d)) (which s (x -ℤ d) (y -ℤ d))
      ≡ at (further s x y -ℤ d) (which s x y)
  unfolding further which
  further-minus x y d = rw (short-add s x y (neg_ℤ d)) (go (short s x y))
    where
      go : (t : Bool) → at (cond t (y -ℤ d) (x -ℤ d)) (cond {A = ℕ} t 2 1)
          ≡ at (cond t y x -ℤ d) (cond {A = ℕ} t 2 1)
      go true = refl
      go false = refl

  -- at weight 0 both are alike: 0, and the first
  pub no-reach : (o : Outside) → reach s o (pos 0) ≡ pos 0
  unfolding further
  no-reach o = rw (*ℤ-zero o.first, *ℤ-zero o.last) (rw (short-self (pos 0)))

  -- and so they are where both coefficients are one
  pub one-pick : (o : Outside) (weight : ℤ) → o.first ≡ o.last → pick s o weight ≡ 1
  unfolding which
  one-pick o weight e = rw e (rw (short-self (o.last *ℤ weight)))

  pub no-pick : (o : Outside) → pick s o (pos 0) ≡ 1
  unfolding which
  no-pick o = rw (*ℤ-zero o.first, *ℤ-zero o.last) (rw (short-self (pos 0)))

-- ---- a face

-- net coefficient × pressure number × area is outside coefficient × weight less internal coefficient × weight
force-parted : (o c p a : ℤ) → (o -ℤ c) *ℤ p *ℤ a ≡ o *ℤ (p *ℤ a) -ℤ c *ℤ (p *ℤ a)
force-parted o c p a = *ℤ-assoc (o -ℤ c) p a ∙ minus-times o c (p *ℤ a)

module _ (s : Side) (i p a : ℤ) where
  -- what it comes to at internal coefficient i and a weight, and its alternative there
  abbrev found_of : Outside → ℤ → Best ℕ
  found_of o weight = at (reach s o weight -ℤ i *ℤ pos 10 *ℤ weight) (pick s o weight)

  -- the force at an outside coefficient
  abbrev force_at : ℤ → ℤ
  force_at v = net v i *ℤ p *ℤ a

  found : (v u : ℤ) → at (further s (force_at v) (force_at u)) (which s (force_at v) (force_at u))
      ≡ found_of (record { first = v; last = u }) (p *ℤ a)
  found v u =
      let c = i *ℤ pos 10 in
      let first = force-parted v c p a in
      let last = force-parted u c p a in
      (λ j. at (further s (first j) (last j)) (which s (first j) (last j)))
      ∙ further-minus s (v *ℤ (p *ℤ a)) (u *ℤ (p *ℤ a)) (c *ℤ (p *ℤ a))

  abbrev best_of : Bool → List ℤ → Best ℕ
  best_of t outs =
      best s (λ k. cond t (force_at (get_or outs (k - 1) (pos 0))) (pos 0)) (cond t (numbers (length outs) 1) (1 ∷ []))

  acting : (outs : List ℤ) → OneOrTwo outs → best_of true outs ≡ found_of (first_and_last outs) (p *ℤ a)
  unfolding best better numbers
  acting outs (alone v) = one-best s (force_at v) ∙ found v v
  acting outs (pair v u) = two-best s (force_at v) (force_at u) ∙ found v u

  -- one that adds nothing is one at weight 0
  aside : (outs : List ℤ) → best_of false outs ≡ found_of (first_and_last outs) (pos 0)
  unfolding best better
  aside outs =
      let o = first_and_last outs in
      let less = ap (λ z. reach s o (pos 0) -ℤ z) (*ℤ-zero (i *ℤ pos 10)) in
      sym (λ j. at ((less ∙ ap (λ z. z -ℤ pos 0) (no-reach s o)) j) (no-pick s o j))

  pub face-best : (acts : Bool) (outs : List ℤ) → (acts ≡ true → OneOrTwo outs)
      → best_of acts outs ≡ found_of (first_and_last outs) (cond acts (p *ℤ a) (pos 0))
  face-best true outs h = acting outs (h refl)
  face-best false outs h = aside outs

-- ---- all faces

pub sum-parted : {A : Type 0} (value weight : A → ℤ) (c : ℤ) (l : List A)
    → sum (λ x. value x -ℤ c *ℤ weight x) l ≡ sum value l -ℤ c *ℤ sum weight l
unfolding sum
sum-parted value weight c [] = sym (ap (λ z. pos 0 -ℤ z) (*ℤ-zero c))
sum-parted value weight c (x ∷ xs) =
    ap (λ z. (value x -ℤ c *ℤ weight x) +ℤ z) (sum-parted value weight c xs)
    ∙ plus-minus (value x) (sum value xs) (c *ℤ weight x) (c *ℤ sum weight xs)
    ∙ ap (λ z. (value x +ℤ sum value xs) -ℤ z) (times-plus c (weight x) (sum weight xs))
