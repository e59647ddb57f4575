-- The third demand for accepted jobs: what is shown bounds every case and is reached first where shown; more winds
-- and internal coefficients show no less; faster winds show no less on their side of zero.
use mathlib.Core.Path.{◌≡◌, refl, sym, ap, ◌∙◌}
use mathlib.Core.Bool.{Bool, true, false, cond}
use mathlib.Core.List.{List, [], ◌∷◌, Memᴰ}
use Prim.Native.Nat.{ℕ, ◌-◌}
use native.Mathlib.Omega.{arith}
use lib.IntN.{ℤ, pos}
use lib.ListN.{length}
use Rattle.building.specs.Year.{last_year}
use Rattle.book.specs.Answer.{values_of}
use Rattle.book.specs.Question.{outside_of}
use Rattle.entry.specs.declared.Wind.{Wind}
use Rattle.entry.specs.declared.Face.{Face}
use Rattle.job.specs.Carried.{Carried, no_wind}
use Rattle.job.specs.InOrder.{InOrder}
use Rattle.worst.specs.declared.Side.{Side}
use Rattle.worst.specs.declared.Axis.{Axis}
use Rattle.worst.specs.declared.Stored.{Stored}
use Rattle.worst.specs.Best.{NoFurther, Best, at, IsBest}
use Rattle.whole.specs.Lists.{numbers}
use Rattle.worst.specs.Cases.{Case, cases, case_total, worst, Permitted}
use Rattle.worst.specs.Forces.{acts, outsides, alternatives, wind_at, loads}
use Rattle.pair.proofs.Units.{units-pair_of}
use Rattle.worst.specs.Shown.{shown, total_in}
use Rattle.worst.specs.Worst.{given, extreme}
use Rattle.worst.specs.Stored.{stored_at, extreme_by}
use Rattle.whole.proofs.ByPlace.{get_d-member}
use Rattle.whole.proofs.Numbers.{Between, numbers-member, member-numbers}
use Rattle.worst.proofs.Members.{worst-found, worst-is, cell-shown}
use Rattle.worst.proofs.OneFace.{OneOrTwo, alone, pair}
use Rattle.worst.proofs.Demand.{SameSite, AllIn, OneFactor, Faster, given-more, given-faster}
use Rattle.worst.proofs.Accepted.{given-sound, outside-last}

-- ---- something is shown

first-of-some : (outs : List ℤ) → OneOrTwo outs → Memᴰ 1 (numbers (length outs) 1)
unfolding numbers
first-of-some outs (alone v) = Memᴰ.head refl
first-of-some outs (pair v u) = Memᴰ.head refl

first-alternative : (t : Bool) (outs : List ℤ) → (t ≡ true → OneOrTwo outs)
    → Memᴰ 1 (cond t (numbers (length outs) 1) (1 ∷ []))
first-alternative true outs h = first-of-some outs (h refl)
first-alternative false outs h = Memᴰ.head refl

module _ (axis : Axis) (s : Side) (c : Carried) where
  -- each face has an alternative
  pub some-alternative : InOrder c → (w : Wind) → Memᴰ w c.winds → (f : Face) → Memᴰ f c.faces
      → (k : ℕ) × Memᴰ k (alternatives (given c) w f)
  some-alternative o w mw f mf =
      (1, first-alternative (acts f w.direction) (outsides (given c) w f) (given-sound c o w f mw mf))

  -- the case that an extreme names, and that it is the first worst one
  pub record Shows : Type 0 where
    pub case : Case ℕ ℕ ℕ
    pub found : worst s (loads axis (given c)) ≡ at (total_in (extreme axis s c)) case
    pub best : IsBest s (case_total (loads axis (given c))) (cases (loads axis (given c)))
        (total_in (extreme axis s c)) case
    pub named : extreme axis s c ≡ shown (length c.faces) (at (total_in (extreme axis s c)) case)

  pub extreme-shows : InOrder c → Shows
  unfolding shown
  extreme-shows o =
      let l = loads axis (given c) in
      let first = wind_at (given c) 1 in
      let one : Between 1 (length c.winds) 1 =
      record { low = omega arith; high = omega (arith, o.winds-counted.low) } in
      let one' : Between 1 (length c.internals) 1 =
      record { low = omega arith; high = omega (arith, o.internals-counted.low) } in
      let hw = member-numbers 1 (length c.winds) 1 one in
      let hi = member-numbers 1 (length c.internals) 1 one' in
      let w = get_d-member c.winds 0 no_wind (omega (arith, o.winds-counted.low)) in
      let r = worst-found s l 1 1 hw hi (some-alternative o first w) in
      let e : total_in (extreme axis s c) ≡ r.0 =
      ap (λ (b : Best (Case ℕ ℕ ℕ)). total_in (shown (length c.faces) b)) r.2 ∙ units-pair_of r.0 in
      let f : worst s l ≡ at (total_in (extreme axis s c)) r.1 = r.2 ∙ ap (λ (v : ℤ). at v r.1) (sym e) in
      record {
        case = r.1;
        found = f;
        best = worst-is s l (total_in (extreme axis s c)) r.1 f;
        named = ap (shown (length c.faces)) f;
      }

  -- and that stored sums tell: a permitted case, with what is stored for it
  pub record StoredShows (t : Stored) : Type 0 where
    pub case : Case ℕ ℕ ℕ
    pub permitted : Permitted (loads axis (given c)) case
    pub named : extreme_by axis s t c
        ≡ shown (length c.faces) (at (stored_at axis s t case.wind case.internal) case)

  pub stored-shows : InOrder c → (t : Stored) → StoredShows t
  stored-shows o t =
      let l = loads axis (given c) in
      let one : Between 1 (length c.winds) 1 =
      record { low = omega arith; high = omega (arith, o.winds-counted.low) } in
      let one' : Between 1 (length c.internals) 1 =
      record { low = omega arith; high = omega (arith, o.internals-counted.low) } in
      let r =
      cell-shown s l (λ w m. some-alternative o (wind_at (given c) w) (wind-member w m))
      (λ k. stored_at axis s t k.wind k.internal) 1 1 (member-numbers 1 (length c.winds) 1 one)
      (member-numbers 1 (length c.internals) 1 one') in
      record {
        case = r.case;
        permitted = r.permitted;
        named = ap (shown (length c.faces)) r.found;
      }
    where
      wind-member : (w : ℕ) → Memᴰ w (numbers (length c.winds) 1) → Memᴰ (wind_at (given c) w) c.winds
      wind-member w m =
          let b = numbers-member (length c.winds) 1 m in
          get_d-member c.winds (w - 1) no_wind (omega (arith, b.low, b.high))

-- ---- more, and faster

module _ (c c' : Carried) (building : c.building ≡ c'.building) (profile : c.profile ≡ c'.profile)
    (faces : c.faces ≡ c'.faces) (o : InOrder c) (o' : InOrder c') where
  -- whatever the years, both are in order by the last one's reading
  shared : (direction : ℤ) (zone : ℕ)
      → outside_of c.year c.building direction zone ≡ outside_of c'.year c'.building direction zone
  shared direction zone =
      outside-last c o direction zone ∙ ap (λ b. outside_of (pos last_year) b direction zone) building
      ∙ sym (outside-last c' o' direction zone)

  same-site : SameSite (given c) (given c')
  same-site =
      record {
        density = ap (λ b. b.density) building;
        outside = λ k. λ direction zone. values_of (shared direction zone k);
        profile = profile;
        faces = faces;
      }

  -- every wind and internal coefficient of c is one of c'
  pub extreme-more : AllIn ◌≡◌ c.winds c'.winds → AllIn ◌≡◌ c.internals c'.internals
      → (axis : Axis) (s : Side) → NoFurther s (total_in (extreme axis s c)) (total_in (extreme axis s c'))
  extreme-more hw hi axis s =
      let f = extreme-shows axis s c o in
      let f' = extreme-shows axis s c' o' in
      given-more s axis (given c) (given c') same-site hw hi _ f.case _ f'.case f.found f'.found

  -- every wind of c has one of c' in its direction that is no slower, at one factor for all faces
  pub extreme-faster : (one : OneFactor (given c)) → AllIn (Faster one.factor) c.winds c'.winds
      → AllIn ◌≡◌ c.internals c'.internals
      → (axis : Axis) (s : Side) → NoFurther s (pos 0) (total_in (extreme axis s c))
      → NoFurther s (total_in (extreme axis s c)) (total_in (extreme axis s c'))
  extreme-faster one hw hi axis s =
      let f = extreme-shows axis s c o in
      let f' = extreme-shows axis s c' o' in
      given-faster axis (given c) (given c') same-site one s hw hi _ f.case _ f'.case f.found f'.found
