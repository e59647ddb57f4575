-- The third demand for what a job gives: more winds and internal coefficients show no less, and faster winds show no
-- less on their side of zero.
use mathlib.Core.Path.{◌≡◌, refl, sym, ap, ◌∙◌, subst}
use mathlib.Core.Bool.{Bool, true, false, cond}
use mathlib.Core.List.{List, [], ◌∷◌, Memᴰ}
use Prim.Native.Nat.{ℕ, ◌+◌, ◌-◌, ◌*◌, ◌≤◌, ◌<◌}
use native.Mathlib.Nat.{mul-le-mul, mul-pos}
use native.Mathlib.Omega.{arith}
use lib.IntN.{ℤ, pos, negsuc, nat_abs, ◌*ℤ◌, *ℤ_comm, zero-*ℤ}
use lib.ListN.{length, get_or}
use Rattle.whole.proofs.Order.{*ℤ-assoc}
use Rattle.worst.specs.declared.Side.{Side}
use Rattle.worst.specs.declared.Axis.{Axis}
use Rattle.entry.specs.declared.Wind.{Wind}
use Rattle.entry.specs.declared.Face.{Face}
use Rattle.worst.specs.Best.{NoFurther, at}
use Rattle.whole.specs.Lists.{numbers}
use Rattle.worst.specs.Cases.{Case, worst}
use Rattle.job.specs.Carried.{no_wind}
use Rattle.book.specs.Question.{net}
use Rattle.worst.specs.declared.speeds.Factor.{Factor}
use Rattle.worst.specs.Speed.{speed_at}
use Rattle.worst.specs.Forces.{Given, acts, factor_of, face_speed, pressure, area, force, wind_at, internal_at}
use Rattle.worst.specs.Forces.{loads}
use Rattle.whole.proofs.ByPlace.{get_d-member, member-get_d}
use Rattle.whole.proofs.Numbers.{numbers-member, member-numbers}
use Rattle.worst.proofs.AtHeight.{speed-rises}
use Rattle.worst.proofs.Scale.{Raised}
use Rattle.worst.proofs.Growth.{worst-more, worst-faster}

-- ---- what two jobs have in common

-- the same building, profile and faces
pub record SameSite (g g' : Given) : Type 0 where
  pub density : g.density ≡ g'.density
  pub outside : g.outside ≡ g'.outside
  pub profile : g.profile ≡ g'.profile
  pub faces : g.faces ≡ g'.faces

-- every wind of g has its like in g', and so its number
module _ {X : Type 0} (Like : X → X → Type 0) where
  abbrev pub AllIn : List X → List X → Type 0
  AllIn xs ys = (x : X) → Memᴰ x xs → (y : X) × Memᴰ y ys × Like x y

  numbered : (d : X) (xs ys : List X) → AllIn xs ys → (n : ℕ) → Memᴰ n (numbers (length xs) 1)
      → (m : ℕ) × Memᴰ m (numbers (length ys) 1) × Like (get_or xs (n - 1) d) (get_or ys (m - 1) d)
  numbered d xs ys h n mn =
      let b = numbers-member (length xs) 1 mn in
      let y = h (get_or xs (n - 1) d) (get_d-member xs (n - 1) d (omega arith)) in
      let r = member-get_d ys d y.1 in
      let i = r.1 in (
        r.0 + 1,
        member-numbers (r.0 + 1) (length ys) 1 (record { low = omega arith; high = omega arith }),
        subst (Like (get_or xs (n - 1) d)) (sym (ap (λ k. get_or ys k d) (back r.0) ∙ r.2)) y.2,
      )
    where
      back : (k : ℕ) → k + 1 - 1 ≡ k
      back k = omega arith

-- ---- what a face's alternatives and its force go by

module _ (outside : ℤ → ℕ → List ℤ) (direction : ℤ) (f : Face) where
  abbrev alternatives_by : List ℕ
  alternatives_by = cond (acts f direction) (numbers (length (outside direction f.zone)) 1) (1 ∷ [])

  abbrev coefficient : ℕ → ℤ
  coefficient k = get_or (outside direction f.zone) (k - 1) (pos 0)

  abbrev force_by : Axis → ℤ → ℤ → ℤ → ℕ → ℤ
  force_by axis density speed i k =
      cond (acts f direction) (net (coefficient k) i *ℤ pressure density speed *ℤ area axis f) (pos 0)

-- ---- more winds and internal coefficients

pub given-more : (s : Side) (axis : Axis) (g g' : Given) → SameSite g g' → AllIn ◌≡◌ g.winds g'.winds
    → AllIn ◌≡◌ g.internals g'.internals
    → (v : ℤ) (c : Case ℕ ℕ ℕ) (v' : ℤ) (c' : Case ℕ ℕ ℕ) → worst s (loads axis g) ≡ at v c
    → worst s (loads axis g') ≡ at v' c'
    → NoFurther s v v'
given-more s axis g g' same hw hi v c v' c' e e' =
    worst-more (loads axis g) (loads axis g') (λ w w'. wind_at g w ≡ wind_at g' w')
    (λ i i'. internal_at g i ≡ internal_at g' i') s v c v' c' e e'
    (record {
      faces = same.faces;
      wind = numbered ◌≡◌ no_wind g.winds g'.winds hw;
      internal = numbered ◌≡◌ (pos 0) g.internals g'.internals hi;
      alternatives = λ w w' r f. λ j. alternatives_by (same.outside j) (r j).direction f;
    })
    (λ w w' i i' r q f k. λ j.
    let speed = face_speed (same.profile j) (r j) f in
    force_by (same.outside j) (r j).direction f axis (same.density j) speed (q j) k)

-- ---- faster winds

-- the same factor at every face
pub record OneFactor (g : Given) : Type 0 where
  pub factor : Factor
  pub each : (f : Face) → Memᴰ f g.faces → factor_of g.profile f ≡ factor

-- the same direction at a speed that is no lower, where the speed at the factor was above 0
pub record Faster (k : Factor) (w w' : Wind) : Type 0 where
  pub direction : w.direction ≡ w'.direction
  pub some : 0 < nat_abs (speed_at k w.speed)
  pub risen : nat_abs w.speed ≤ nat_abs w'.speed

squared : (z : ℤ) → z *ℤ z ≡ pos (nat_abs z * nat_abs z)
squared (pos n) = refl
squared (negsuc n) = refl

-- the speed squared is a factor of the force
force-squared : (n d a : ℤ) (q : ℕ) → n *ℤ (d *ℤ pos q) *ℤ a ≡ n *ℤ d *ℤ a *ℤ pos q
force-squared n d a q =
    ap (λ z. z *ℤ a) (sym (*ℤ-assoc n d (pos q)))
    ∙ *ℤ-assoc (n *ℤ d) (pos q) a
    ∙ ap (λ z. n *ℤ d *ℤ z) (*ℤ_comm (pos q) a)
    ∙ sym (*ℤ-assoc (n *ℤ d) a (pos q))

module _ (axis : Axis) (g g' : Given) (same : SameSite g g') (one : OneFactor g) where
  -- the force but for the speed squared
  abbrev unit_of : Wind → ℤ → Face → ℕ → ℤ
  unit_of w i f k =
      let n = net (coefficient g.outside w.direction f k) i in
      cond (acts f w.direction) (n *ℤ g.density *ℤ area axis f) (pos 0)

  abbrev speed_of : Wind → ℤ
  speed_of w = speed_at one.factor w.speed

  abbrev square_of : Wind → ℕ
  square_of w = nat_abs (speed_of w) * nat_abs (speed_of w)

  factored : (u : Wind) (f : Face) (t : Bool) (n : ℤ)
      → cond t (n *ℤ pressure g.density (speed_of u) *ℤ area axis f) (pos 0)
      ≡ cond t (n *ℤ g.density *ℤ area axis f) (pos 0) *ℤ pos (square_of u)
  factored u f true n =
      ap (λ (q : ℤ). n *ℤ (g.density *ℤ q) *ℤ area axis f) (squared (speed_of u))
      ∙ force-squared n g.density (area axis f) (square_of u)
  factored u f false n = sym (zero-*ℤ (pos (square_of u)))

  raised : (w w' : Wind) (i : ℤ) → Faster one.factor w w'
      → Raised g.faces (force axis g w i) (force axis g' w' i)
  raised w w' i h =
      record {
        unit = unit_of w i;
        factor = square_of w;
        factor' = square_of w';
        some = mul-pos h.some h.some;
        risen = mul-le-mul risen risen;
        was = λ f m k.
            ap (λ (v : Factor). force_by g.outside w.direction f axis g.density (speed_at v w.speed) i k)
            (one.each f m)
            ∙ by-square w f k;
        becomes = λ f m k.
            (λ j. force_by (outside j) (direction j) f axis (density j) (face_speed (profile j) w' f) i k)
            ∙ ap (λ (v : Factor). force_by g.outside w.direction f axis g.density (speed_at v w'.speed) i k)
            (one.each f m)
            ∙ by-square w' f k;
      }
    where
      outside : g'.outside ≡ g.outside
      outside = sym same.outside

      density : g'.density ≡ g.density
      density = sym same.density

      profile : g'.profile ≡ g.profile
      profile = sym same.profile

      direction : w'.direction ≡ w.direction
      direction = sym h.direction

      risen : nat_abs (speed_of w) ≤ nat_abs (speed_of w')
      risen = speed-rises one.factor w.speed w'.speed h.risen

      by-square : (u : Wind) (f : Face) (k : ℕ)
          → force_by g.outside w.direction f axis g.density (speed_of u) i k
          ≡ unit_of w i f k *ℤ pos (square_of u)
      by-square u f k =
          factored u f (acts f w.direction) (net (coefficient g.outside w.direction f k) i)

  pub given-faster : (s : Side) → AllIn (Faster one.factor) g.winds g'.winds
      → AllIn ◌≡◌ g.internals g'.internals
      → (v : ℤ) (c : Case ℕ ℕ ℕ) (v' : ℤ) (c' : Case ℕ ℕ ℕ) → worst s (loads axis g) ≡ at v c
      → worst s (loads axis g') ≡ at v' c'
      → NoFurther s (pos 0) v → NoFurther s v v'
  given-faster s hw hi v c v' c' e e' =
      let Quicker = Faster one.factor in
      worst-faster (loads axis g) (loads axis g') (λ w w'. Quicker (wind_at g w) (wind_at g' w'))
      (λ i i'. internal_at g i ≡ internal_at g' i') s v c v' c' e e'
      (record {
        faces = same.faces;
        wind = numbered Quicker no_wind g.winds g'.winds hw;
        internal = numbered ◌≡◌ (pos 0) g.internals g'.internals hi;
        alternatives = λ w w' r f. λ j. alternatives_by (same.outside j) (r.direction j) f;
      })
      (λ w w' i i' r q.
      subst (λ x. Raised g.faces (force axis g (wind_at g w) (internal_at g i)) (force axis g' (wind_at g' w') x)) q
      (raised (wind_at g w) (wind_at g' w') (internal_at g i) r))
