-- Laws of the engine's sums: what moves over to the newtons is the same amount, and how large it then is.
use mathlib.Core.Path.{◌≡◌, sym, ap, ap₂, ◌∙◌, subst₂}
use mathlib.Core.Logic.{⊎_elim}
use Prim.Native.Nat.{ℕ, ◌+◌, ◌*◌, ◌≤◌}
use native.Mathlib.Nat.{le_trans}
use native.Mathlib.Omega.{arith}
use lib.Dec.{T, leb, leb→le}
use lib.IntN.{ℤ, pos, negsuc, nat_abs, ◌+ℤ◌, ◌-ℤ◌, ◌*ℤ◌}
use lib.Signed.{◌≤ℤ◌, ◌<ℤ◌}
use Rattle.whole.specs.Newton.{newton, newtons, remainder}
use Rattle.whole.proofs.Parts.{eq-by, eq-at, lt_at, le-at, add-law, sub-lawℤ, up-scale, down-scale, nat_abs-is}
use Rattle.whole.proofs.Parts.{one-is-zero}
use Rattle.whole.proofs.Order.{*ℤ-assoc}
use Rattle.whole.proofs.Products.{minus-times, times-plus, plus-minus}
use Rattle.whole.proofs.Size.{Num, bound, plus-small, minus-small}
use Rattle.whole.proofs.Newton.{newtons-and-remainder, remainder-small}
use Rattle.pair.specs.Total.{pair_of}
use Rattle.pair.proofs.Units.{pair, worth, pair_is}
use Rattle.pair.proofs.Sizes.{within-is, within-pair_of, newtons-small}
use Rattle.worst.specs.declared.amounts.Amount.{Amount}
use Rattle.worst.specs.Amounts.{amount_in, AmountSmall, AmountFits}

abbrev pub amount : ℤ → ℤ → Amount
amount n u = record { newtons = n; units = u }

-- ---- one part more: 220,000,000 N move over, up, or down, or none do

abbrev pub moved : ℤ
moved = pos 220000000

abbrev pub moved_units : ℤ
moved_units = pos 4400000000000000000

-- these newtons and units are the amount and the part, and one larger at most
abbrev pub Grown : Amount → ℤ → ℤ → ℤ → Type 0
Grown a f n u =
    (amount_in (amount n u) ≡ amount_in a +ℤ f) × ((k : ℕ) → AmountSmall k a → AmountSmall (k + 1) (amount n u))

-- as the machine has them
pub grown-as : (a : Amount) (f : ℤ) (n u : Num) → Grown a f n.is u.is → Grown a f n.has u.has
grown-as a f n u = subst₂ (Grown a f) (sym n.same) (sym u.same)

module _ (a : Amount) (f : ℤ) where
  abbrev sum : ℤ
  sum = a.units +ℤ f

  up_same : amount_in (amount (a.newtons +ℤ moved) (sum -ℤ moved_units)) ≡ amount_in a +ℤ f
  unfolding amount_in
  up_same =
      eq-by _ _ (omega (
        arith,
        add-law a.newtons moved,
        up-scale (a.newtons +ℤ moved) newton,
        down-scale (a.newtons +ℤ moved) newton,
        add-law a.units f,
        sub-lawℤ sum moved_units,
        add-law ((a.newtons +ℤ moved) *ℤ pos newton) (sum -ℤ moved_units),
        up-scale a.newtons newton,
        down-scale a.newtons newton,
        add-law (a.newtons *ℤ pos newton) a.units,
        add-law (a.newtons *ℤ pos newton +ℤ a.units) f,
      ))

  down-same : amount_in (amount (a.newtons -ℤ moved) (sum +ℤ moved_units)) ≡ amount_in a +ℤ f
  unfolding amount_in
  down-same =
      eq-by _ _ (omega (
        arith,
        sub-lawℤ a.newtons moved,
        up-scale (a.newtons -ℤ moved) newton,
        down-scale (a.newtons -ℤ moved) newton,
        add-law a.units f,
        add-law sum moved_units,
        add-law ((a.newtons -ℤ moved) *ℤ pos newton) (sum +ℤ moved_units),
        up-scale a.newtons newton,
        down-scale a.newtons newton,
        add-law (a.newtons *ℤ pos newton) a.units,
        add-law (a.newtons *ℤ pos newton +ℤ a.units) f,
      ))

  stay-same : amount_in (amount a.newtons sum) ≡ amount_in a +ℤ f
  unfolding amount_in
  stay-same =
      eq-by _ _ (omega (
        arith,
        add-law a.units f,
        add-law (a.newtons *ℤ pos newton) sum,
        add-law (a.newtons *ℤ pos newton) a.units,
        add-law (a.newtons *ℤ pos newton +ℤ a.units) f,
      ))

  -- a part is so small that what remains is below what moved
  module _ (h : nat_abs f ≤ 4320000000000000000) where
    small : nat_abs moved ≤ 220000000
    small = omega arith

    pub grown-up : moved_units <ℤ sum → Grown a f (a.newtons +ℤ moved) (sum -ℤ moved_units)
    grown-up t = (
      up_same,
      λ k s.
          let u = plus-small a.units f s.units h in
          let l = lt_at _ _ t in
          let z = sum -ℤ moved_units in
          let e = sub-lawℤ sum moved_units in
          record {
            newtons = omega (arith, plus-small a.newtons moved s.newtons small);
            units = ⊎_elim (λ o. omega (arith, nat_abs-is sum, nat_abs-is z))
                (λ o. omega (arith, nat_abs-is sum, nat_abs-is z)) (one-is-zero z);
          },
    )

    pub grown-down : sum <ℤ negsuc 4399999999999999999
        → Grown a f (a.newtons -ℤ moved) (sum +ℤ moved_units)
    grown-down t = (
      down-same,
      λ k s.
          let u = plus-small a.units f s.units h in
          let l = lt_at _ _ t in
          let z = sum +ℤ moved_units in
          let e = add-law sum moved_units in
          record {
            newtons = omega (arith, minus-small a.newtons moved s.newtons small);
            units = ⊎_elim (λ o. omega (arith, nat_abs-is sum, nat_abs-is z))
                (λ o. omega (arith, nat_abs-is sum, nat_abs-is z)) (one-is-zero z);
          },
    )

  pub grown-stay : sum ≤ℤ moved_units → negsuc 4399999999999999999 ≤ℤ sum → Grown a f a.newtons sum
  grown-stay t v = (
    stay-same,
    λ k s.
        let l = le-at _ _ t in
        let m = le-at _ _ v in
        record {
          newtons = omega (arith, s.newtons);
          units = ⊎_elim (λ o. omega (arith, nat_abs-is sum)) (λ o. omega (arith, nat_abs-is sum)) (one-is-zero sum);
        },
  )

-- ---- less k times a number

pub less-same : (a : Amount) (k z : ℤ)
    → amount_in (amount (a.newtons -ℤ k *ℤ newtons z) (a.units -ℤ k *ℤ pos (remainder z))) ≡ amount_in a -ℤ k *ℤ z
unfolding amount_in
less-same a k z =
    let one = pos newton in
    let rest = pos (remainder z) in
    ap (λ t. t +ℤ (a.units -ℤ k *ℤ rest)) (minus-times a.newtons (k *ℤ newtons z) one)
    ∙ plus-minus (a.newtons *ℤ one) a.units ((k *ℤ newtons z) *ℤ one) (k *ℤ rest)
    ∙ ap (λ t. amount_in a -ℤ t)
    (ap (λ t. t +ℤ k *ℤ rest) (*ℤ-assoc k (newtons z) one)
    ∙ times-plus k (newtons z *ℤ one) rest
    ∙ ap (λ t. k *ℤ t) (newtons-and-remainder z))

-- as the machine has them, and what they can come to
pub less_as : (a : Amount) (k z : ℤ) (n u : Num) → n.is ≡ a.newtons -ℤ k *ℤ newtons z
    → u.is ≡ a.units -ℤ k *ℤ pos (remainder z) → T (leb n.most 60000000000)
    → T (leb u.most 5000000000000000000)
    → (amount_in (amount n.has u.has) ≡ amount_in a -ℤ k *ℤ z) × AmountFits (amount n.has u.has)
less_as a k z n u e f h g = (
  ap₂ (λ p q. amount_in (amount p q)) (n.same ∙ e) (u.same ∙ f) ∙ less-same a k z,
  record { newtons = le_trans (bound n) (leb→le _ _ h); units = le_trans (bound u) (leb→le _ _ g) },
)

-- so many units are no more newtons than these
pub newtons-below : (n : ℕ) (z : ℤ) → nat_abs z ≤ n * newton → nat_abs (newtons z) ≤ n
newtons-below n z h = newtons-small n (pair_of z) (within-is n (pair_of z) (within-pair_of n z h))

-- ---- as a pair

pub settled_is : (a : Amount) → pair (a.newtons +ℤ newtons a.units) (remainder a.units) ≡ pair_of (amount_in a)
unfolding amount_in
settled_is a =
    let u = a.units in
    let n = a.newtons +ℤ newtons u in
    let same : worth n (remainder u) ≡ a.newtons *ℤ pos newton +ℤ u =
    eq-by _ _ (omega (
      arith,
      add-law a.newtons (newtons u),
      up-scale n newton,
      down-scale n newton,
      add-law (n *ℤ pos newton) (pos (remainder u)),
      up-scale (newtons u) newton,
      down-scale (newtons u) newton,
      add-law (newtons u *ℤ pos newton) (pos (remainder u)),
      eq-at (newtons-and-remainder u),
      up-scale a.newtons newton,
      down-scale a.newtons newton,
      add-law (a.newtons *ℤ pos newton) u,
    )) in
    pair_is n (remainder u) (remainder-small u) ∙ ap pair_of same
