-- The factor at a height within a rising profile is what it should be, and a fraction from 0 to 1.
use mathlib.Core.Path.{◌≡◌, refl, sym, ap, ◌∙◌, subst}
use mathlib.Core.Logic.{⊎_elim}
use mathlib.Core.List.Memᴰ
use mathlib.Core.List.{List, [], ◌∷◌}
use Prim.Native.Nat.{ℕ, ◌+◌, ◌-◌, ◌*◌, ◌≤◌, ◌<◌}
use native.Mathlib.Nat.{mul-le-mul_right}
use native.Mathlib.Omega.{arith}
use lib.IntN.{ℤ, pos, neg_ℤ, nat_abs, ◌+ℤ◌, ◌-ℤ◌, ◌*ℤ◌, *ℤ_comm, *ℤ-zero, +ℤ_idl, +ℤ_idr, +ℤ_invr}
use lib.IntN.{pos-+ℤ-pos}
use lib.Signed.{le_z, ◌≤ℤ◌, ◌<ℤ◌, le_z_yes}
use Rattle.whole.specs.Lists.{Every}
use Rattle.whole.proofs.Parts.{le-by}
use Rattle.whole.proofs.Order.{le-true, le-false, ≤ℤ-trans, ≤ℤ-antisym, ≤ℤ-or-<ℤ, <ℤ-≤ℤ, *ℤ-assoc}
use Rattle.whole.proofs.Size.{size-plain, size-rises, size-grows, size-some, pos-minus}
use Rattle.whole.proofs.Tests.{by-test}
use Rattle.entry.specs.declared.Step.{Step}
use Rattle.job.specs.Carried.{lowest_of, last_height}
use Rattle.job.specs.InOrder.{StepInOrder, HeightInOrder, Climbs}
use Rattle.worst.specs.declared.speeds.Factor.{Factor}
use Rattle.worst.specs.Speed.{step_factor, factor_between, factor_at, FactorLies, on_step, between_steps}
use Rattle.worst.specs.Speed.{FactorIs}
use Rattle.worst.specs.Factors.{Fraction}

times-thousand : (x y : ℤ) → x *ℤ y *ℤ pos 1000 ≡ x *ℤ (pos 1000 *ℤ y)
times-thousand x y = *ℤ-assoc x y (pos 1000) ∙ ap (λ z. x *ℤ z) (*ℤ_comm y (pos 1000))

-- ---- a fraction from 0 to 1

-- m / n, in natural numbers
fraction : (m n : ℕ) → m ≤ n → 0 < n → n ≤ 30000000 → Fraction (record { part = pos m; whole = pos n })
fraction m n h s t =
    record {
      part = le-by _ _ (omega arith);
      whole = le-by _ _ (omega arith);
      within = h;
      some = s;
      small = t;
    }

between-numbers : (a b n x y : ℕ) → a ≤ n → n ≤ b → a < b → b ≤ 30000 → x ≤ 1000 → y ≤ 1000
    → Fraction (factor_between (record { height = pos a; factor = pos x }) (record { height = pos b; factor = pos y })
    (pos n))
between-numbers a b n x y h k l m p q =
    let above = pos-minus b n k in
    let below = pos-minus n a h in
    let gap = pos-minus b a (omega arith) in
    let lower = mul-le-mul_right (b - n) p in
    let upper = mul-le-mul_right (n - a) q in
    subst Fraction
    (sym (λ j. record {
      part = (ap (λ z. pos x *ℤ z +ℤ pos y *ℤ (pos n -ℤ pos a)) above
          ∙ ap (λ z. pos x *ℤ pos (b - n) +ℤ pos y *ℤ z) below
          ∙ pos-+ℤ-pos (x * (b - n)) (y * (n - a))) j;
      whole = ap (λ z. pos 1000 *ℤ z) gap j;
    }))
    (fraction (x * (b - n) + y * (n - a)) (1000 * (b - a)) (omega arith) (omega arith) (omega arith))

fraction-between : (s t : Step) (h : ℤ) → StepInOrder s → StepInOrder t → s.height ≤ℤ h → h ≤ℤ t.height
    → s.height <ℤ t.height → Fraction (factor_between s t h)
fraction-between s t h o p low high up =
    let h₁ = o.height.low in
    let f₁ = ≤ℤ-trans (le_z_yes tt) o.factor.low in
    let f₂ = ≤ℤ-trans (le_z_yes tt) p.factor.low in
    let h₂ = p.height.low in
    let hₕ = ≤ℤ-trans h₁ low in
    subst Fraction
    (λ j. factor_between (record { height = size-plain s.height h₁ j; factor = size-plain s.factor f₁ j })
    (record { height = size-plain t.height h₂ j; factor = size-plain t.factor f₂ j }) (size-plain h hₕ j))
    (between-numbers (nat_abs s.height) (nat_abs t.height) (nat_abs h) (nat_abs s.factor) (nat_abs t.factor)
    (size-rises _ _ h₁ low) (size-rises _ _ hₕ high) (size-grows _ _ h₁ up) (size-rises _ _ h₂ p.height.high)
    (size-rises _ _ f₁ o.factor.high)
    (size-rises _ _ f₂ p.factor.high))

fraction-step : (s : Step) → StepInOrder s → Fraction (step_factor s)
fraction-step s o =
    let f = ≤ℤ-trans (le_z_yes tt) o.factor.low in
    subst Fraction (λ j. record { part = size-plain s.factor f j; whole = pos 1000 })
    (fraction (nat_abs s.factor) 1000 (size-rises _ _ f o.factor.high) (omega arith) (omega arith))

-- where there is no profile
pub fraction-none : (h : ℤ) → Fraction (factor_at [] h)
unfolding factor_at
fraction-none h = fraction 1 1 (omega arith) (omega arith) (omega arith)

pub fraction-at : (profile : List Step) (z h : ℤ) → Every StepInOrder profile → Climbs z profile
    → lowest_of profile ≤ℤ h → Fraction (factor_at profile h)
unfolding factor_at
fraction-at [] z h o r low = fraction-none h
fraction-at (s ∷ []) z h o r low = fraction-step s o.0
fraction-at (s ∷ t ∷ ss) z h o r low =
    by-test (le_z h t.height)
    (λ e. rw e (fraction-between s t h o.0 o.1.0 low (le-true h t.height e) r.1.0))
    (λ e. rw e (fraction-at (t ∷ ss) s.height h o.1 r.1 (<ℤ-≤ℤ (le-false h t.height e))))

-- ---- what it should be

-- a straight line has the factor of each of its ends there
at-lower : (s t : Step) → (factor_between s t s.height).part *ℤ pos 1000
    ≡ s.factor *ℤ (factor_between s t s.height).whole
at-lower s t =
    let gap = t.height -ℤ s.height in
    ap (λ z. (s.factor *ℤ gap +ℤ t.factor *ℤ z) *ℤ pos 1000) (+ℤ_invr s.height)
    ∙ ap (λ z. (s.factor *ℤ gap +ℤ z) *ℤ pos 1000) (*ℤ-zero t.factor)
    ∙ ap (λ z. z *ℤ pos 1000) (+ℤ_idr (s.factor *ℤ gap))
    ∙ times-thousand s.factor gap

at-upper : (s t : Step) → (factor_between s t t.height).part *ℤ pos 1000
    ≡ t.factor *ℤ (factor_between s t t.height).whole
at-upper s t =
    let gap = t.height -ℤ s.height in
    ap (λ z. (s.factor *ℤ z +ℤ t.factor *ℤ gap) *ℤ pos 1000) (+ℤ_invr t.height)
    ∙ ap (λ z. (z +ℤ t.factor *ℤ gap) *ℤ pos 1000) (*ℤ-zero s.factor)
    ∙ ap (λ z. z *ℤ pos 1000) (+ℤ_idl (t.factor *ℤ gap))
    ∙ times-thousand t.factor gap

lies-between : (s t : Step) (ss : List Step) (h : ℤ) → s.height ≤ℤ h → h ≤ℤ t.height
    → FactorLies (s ∷ t ∷ ss) h (factor_between s t h)
lies-between s t ss h low high =
    ⊎_elim
    (λ le.
    let e = ≤ℤ-antisym le low in
    on_step s (Memᴰ.head refl) e
    (subst (λ z. (factor_between s t z).part *ℤ pos 1000 ≡ s.factor *ℤ (factor_between s t z).whole) (sym e)
    (at-lower s t)))
    (λ above.
    ⊎_elim
    (λ ge.
    let e = ≤ℤ-antisym high ge in
    on_step t (Memᴰ.tail (Memᴰ.head refl)) e
    (subst (λ z. (factor_between s t z).part *ℤ pos 1000 ≡ t.factor *ℤ (factor_between s t z).whole) (sym e)
    (at-upper s t)))
    (λ below. between_steps s t [] ss refl above below refl) (≤ℤ-or-<ℤ t.height h))
    (≤ℤ-or-<ℤ h s.height)

-- further up
lies-above : (s : Step) (ss : List Step) (h : ℤ) (k : Factor) → FactorLies ss h k → FactorLies (s ∷ ss) h k
lies-above s ss h k (on_step u m e q) = on_step u (Memᴰ.tail m) e q
lies-above s ss h k (between_steps u v before after e low high q) =
    between_steps u v (s ∷ before) after (ap (λ l. s ∷ l) e) low high q

lies-from : (s : Step) (ss : List Step) (h : ℤ) → s.height ≤ℤ h → h ≤ℤ last_height s.height ss
    → FactorLies (s ∷ ss) h (factor_at (s ∷ ss) h)
unfolding factor_at
lies-from s [] h low high = on_step s (Memᴰ.head refl) (≤ℤ-antisym high low) refl
lies-from s (t ∷ ss) h low high =
    by-test (le_z h t.height) (λ e. rw e (lies-between s t ss h low (le-true h t.height e)))
    (λ e.
    rw e (lies-above s (t ∷ ss) h _ (lies-from t ss h (<ℤ-≤ℤ (le-false h t.height e)) high)))

lies_at : (profile : List Step) (h : ℤ) → HeightInOrder profile h → FactorLies profile h (factor_at profile h)
lies_at [] h o = absurd (≤ℤ-trans o.range.low o.within.high).le
lies_at (s ∷ ss) h o = lies-from s ss h o.within.low o.within.high

-- a height within a rising profile
pub factor-is : (profile : List Step) (h : ℤ) → Every StepInOrder profile → Climbs (neg_ℤ (pos 1)) profile
    → HeightInOrder profile h → FactorIs profile h (factor_at profile h)
factor-is profile h o r within =
    let f = fraction-at profile (neg_ℤ (pos 1)) h o r within.within.low in
    record { some = size-some _ f.whole f.some; lies = lies_at profile h within }
