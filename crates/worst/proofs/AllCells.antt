-- The sums of a cell are those that the engine reckons, and the best cell of stored sums is what they tell of the job.
use mathlib.Core.Path.{◌≡◌, refl, sym, ap, ◌∙◌}
use mathlib.Core.Bool.{true}
use mathlib.Core.List.{List, map, Memᴰ}
use Prim.Native.Nat.{ℕ, ◌-◌, ◌<◌}
use native.Mathlib.Omega.{arith}
use lib.IntN.{ℤ, pos, ◌-ℤ◌, ◌*ℤ◌}
use lib.ListN.{length, length-map}
use Rattle.whole.proofs.Lists.{first_of-length, first_of-get_d}
use Rattle.whole.proofs.ByPlace.{get_d-member}
use Rattle.building.specs.declared.Building.{Building}
use Rattle.building.specs.Year.{last_year}
use Rattle.book.specs.Answer.{values_of}
use Rattle.book.specs.Question.{outside_of}
use Rattle.job.specs.declared.Job.{Job}
use Rattle.entry.specs.declared.Wind.{Wind}
use Rattle.entry.specs.declared.Step.{Step}
use Rattle.entry.specs.declared.Face.{Face}
use Rattle.pair.specs.Total.{pair_of, units}
use Rattle.pair.proofs.Units.{pair_of-units}
use Rattle.job.specs.Carried.{carried, most_faces, no_wind, no_face}
use Rattle.pair.specs.declared.Pair.{Pair}
use Rattle.worst.specs.declared.Side.{Side}
use Rattle.worst.specs.declared.Side.TheVariants.{Greatest, Least}
use Rattle.worst.specs.declared.Axis.{Axis}
use Rattle.worst.specs.declared.Axis.TheVariants.{X, Y, Z}
use Rattle.worst.specs.declared.Extreme.{Extreme}
use Rattle.worst.specs.declared.Stored.{Stored}
use Rattle.worst.specs.declared.tops.Top.{Top}
use Rattle.worst.specs.declared.tops.Ends.{Ends}
use Rattle.worst.specs.Best.{Best, at, best}
use Rattle.whole.specs.Lists.{numbers}
use Rattle.worst.specs.Cases.{Loads, Case, worst}
use Rattle.worst.specs.Forces.{Given, acts, outsides, factor_of, face_speed, pressure, area, wind_at}
use Rattle.worst.specs.Forces.{internal_at, loads}
use Rattle.worst.specs.Shown.{padded, shown}
use Rattle.worst.specs.Worst.{given}
use Rattle.worst.specs.Stored.{best_choice, value_of, cell_of, stored_at, chosen_of, case_of, cell_cases, extreme_by}
use Rattle.worst.specs.Stored.{six_by}
use Rattle.worst.specs.Table.{first_and_last}
use Rattle.worst.specs.Quick.{over, sum, tagged}
use Rattle.worst.specs.Engine.{weight, reach, pick, reach_of, pick_of, faces_of, axes_of, axes_under, sums_on}
use Rattle.worst.specs.Engine.{cell_total, Cell, cell, top_at}
use Rattle.worst.specs.Engine.{wind_numbered, internal_numbered, cell_with, best_up_to, alternatives_at}
use Rattle.worst.specs.Engine.{extreme_with, six_of}
use Rattle.worst.specs.Proper.{Proper, ProperEnds}
use Rattle.worst.proofs.Kept.{proper-top}
use Rattle.worst.proofs.Better.{best-over, over-each, over-map, over-same, over-same-in, tagged-over}
use Rattle.worst.proofs.Quick.{best-choice, worst-cells}
use Rattle.whole.proofs.Numbers.{numbers-member}
use Rattle.worst.proofs.CarriedFaces.{as_carried, axes-carried, picks-carried}
use Rattle.worst.proofs.OneFace.{OneOrTwo, face-best, sum-parted}

-- every face has one or two coefficients under every wind, where it takes part
abbrev pub Sound : Given → Type 0
Sound g = (w : Wind) (f : Face) → Memᴰ w g.winds → Memᴰ f g.faces → acts f w.direction ≡ true
    → OneOrTwo (outsides g w f)

-- the coefficients of a job's zones are those of the last year's reading, by which the engine asks for them
abbrev pub ByLast : Job → Type 0
ByLast j = (direction : ℤ) (zone : ℕ)
    → (given (carried j)).outside direction zone ≡ values_of (outside_of (pos last_year) j.building direction zone)

-- the number of one of the job's winds, and of one of its internal coefficients
abbrev pub WindNumber : Job → ℕ → Type 0
WindNumber j w = Memᴰ w (numbers (length (given (carried j)).winds) 1)

abbrev pub InternalNumber : Job → ℕ → Type 0
InternalNumber j i = Memᴰ i (numbers (length (given (carried j)).internals) 1)

-- the total of a cell, from the sums of its wind
cell-total : (axis : Axis) (s : Side) (b : Building) (p : List Step) (w : Wind) (fs : List Face) (i : ℤ)
    → sum (λ f. reach_of s axis b w (factor_of p f) f) fs
    -ℤ i *ℤ pos 10 *ℤ sum (λ f. weight axis b w (factor_of p f) f) fs
    ≡ cell_total s (sums_on axis (axes_of b p w fs)) i
cell-total X Greatest b p w fs i = refl
cell-total X Least b p w fs i = refl
cell-total Y Greatest b p w fs i = refl
cell-total Y Least b p w fs i = refl
cell-total Z Greatest b p w fs i = refl
cell-total Z Least b p w fs i = refl

module _ (j : Job) (last : ByLast j) (axis : Axis) (s : Side) where
  abbrev g : Given
  g = given (carried j)

  -- ---- the wind and the internal coefficient of a number

  wind-counts : (w : ℕ) → WindNumber j w → w - 1 < length g.winds
  wind-counts w m = let b = numbers-member (length g.winds) 1 m in omega arith

  wind-in : (w : ℕ) → WindNumber j w → Memᴰ (wind_at g w) g.winds
  wind-in w m = get_d-member g.winds (w - 1) no_wind (wind-counts w m)

  wind-is : (w : ℕ) → WindNumber j w → wind_at g w ≡ wind_numbered j.winds w
  unfolding carried
  wind-is w m =
      let all = first_of-length no_wind j.winds.count j.winds.entry in
      first_of-get_d no_wind j.winds.count (w - 1) j.winds.entry (omega (arith, wind-counts w m, all))

  internal-is : (i : ℕ) → InternalNumber j i → internal_at g i ≡ internal_numbered j.internals i
  unfolding carried
  internal-is i m =
      let b = numbers-member (length g.internals) 1 m in
      let all = first_of-length (pos 0) j.internals.count j.internals.entry in
      first_of-get_d (pos 0) j.internals.count (i - 1) j.internals.entry
      (omega (arith, b.low, b.high, all))

  -- ---- one cell

  -- what a face comes to under a wind and an internal coefficient
  abbrev reached : Wind → Face → ℤ
  reached w f = reach_of s axis j.building w (factor_of g.profile f) f

  abbrev weighed : Wind → Face → ℤ
  weighed w f = weight axis j.building w (factor_of g.profile f) f

  abbrev value : ℕ → ℕ → Face → ℤ
  value w i f = reached (wind_at g w) f -ℤ internal_at g i *ℤ pos 10 *ℤ weighed (wind_at g w) f

  abbrev picked : Wind → Face → ℕ
  picked w f = pick_of s axis j.building w (factor_of g.profile f) f

  abbrev chosen_under : Wind → List ℕ
  chosen_under w = map (picked w) g.faces

  abbrev total_of : Wind → ℤ → ℤ
  total_of u c = cell_total s (sums_on axis (axes_under j u)) c

  -- the best choice of a cell, at a total
  abbrev found : Wind → ℤ → Best (List ℕ)
  found u v = at v (chosen_under u)

  face-is : Sound g → (w i : ℕ) (f : Face) → WindNumber j w → InternalNumber j i → Memᴰ f g.faces
      → best s ((loads axis g).force w i f) ((loads axis g).alternatives w f)
      ≡ at (value w i f) (picked (wind_at g w) f)
  unfolding carried
  face-is sound w i f mw mi mf =
      let u = wind_at g w in
      let weight = weighed u f in
      face-best s (internal_at g i) (pressure g.density (face_speed g.profile u f)) (area axis f)
      (acts f u.direction) (outsides g u f) (sound u f (wind-in w mw) mf)
      ∙ (λ k.
      let o = first_and_last (last u.direction f.zone k) in
      at (reach s o weight -ℤ internal_at g i *ℤ pos 10 *ℤ weight) (pick s o weight))

  -- the best choice of a cell is what the engine finds there
  pub choice-is : Sound g → (w i : ℕ) → WindNumber j w → InternalNumber j i
      → best_choice s (loads axis g) w i
      ≡ found (wind_numbered j.winds w) (total_of (wind_numbered j.winds w) (internal_numbered j.internals i))
  unfolding carried
  choice-is sound w i mw mi =
      let c = internal_at g i in
      let u = wind_at g w in
      best-choice s ((loads axis g).alternatives w) ((loads axis g).force w i) (value w i) (picked u) g.faces
      (λ f mf. face-is sound w i f mw mi mf)
      ∙ ap (found u) (sum-parted (reached u) (weighed u) (c *ℤ pos 10) g.faces)
      ∙ ap (found u) (cell-total axis s j.building g.profile u g.faces c)
      ∙ ap (λ a. found u (cell_total s (sums_on axis a) c)) (axes-carried j u)
      ∙ (λ k. found (wind-is w mw k) (total_of (wind-is w mw k) (internal-is i mi k)))

  -- ---- all cells

  abbrev l : Loads ℕ ℕ Face ℕ
  l = loads axis g

  abbrev case_at : Cell → Case ℕ ℕ ℕ
  case_at t =
      record { wind = t.wind; internal = t.internal; chosen = chosen_under (wind_numbered j.winds t.wind) }

  -- the best of the cells' cases, at whatever value each cell has
  abbrev valued : (ℕ → ℕ → ℤ) → ℕ → ℕ → Best (Case ℕ ℕ ℕ)
  valued v w i = at (v w i) (case_of s l w i)

  cases-over : (v : ℕ → ℕ → ℤ) → best s (λ k. v k.wind k.internal) (cell_cases s l)
      ≡ over s (λ w. over s (valued v w) l.internals) l.winds
  cases-over v =
      best-over s _ (cell_cases s l)
      ∙ over-each s _ _ l.winds
      ∙ over-same s _ _ (λ w. over-map s _ (case_of s l w) l.internals) l.winds

  case-is : Sound g → (v : ℕ → ℕ → ℤ) (w i : ℕ) → WindNumber j w → InternalNumber j i
      → valued v w i ≡ tagged case_at (at (v w i) (cell w i))
  unfolding tagged
  case-is sound v w i mw mi =
      ap (λ b. at (v w i) (record { wind = w; internal = i; chosen = chosen_of b })) (choice-is sound w i mw mi)

  abbrev cells_by : (ℕ → ℕ → ℤ) → ℕ → ℕ → Best Cell
  cells_by v winds internals = over s (λ w. over s (λ i. at (v w i) (cell w i)) (numbers internals 1)) (numbers winds 1)

  cells_are : Sound g → (v : ℕ → ℕ → ℤ) → best s (λ k. v k.wind k.internal) (cell_cases s l)
      ≡ tagged case_at (cells_by v j.winds.count j.internals.count)
  unfolding carried
  cells_are sound v =
      let winds = first_of-length no_wind j.winds.count j.winds.entry in
      let internals = first_of-length (pos 0) j.internals.count j.internals.entry in
      cases-over v
      ∙ over-same-in s _ _ l.winds
      (λ w mw.
      over-same-in s _ _ l.internals (λ i mi. case-is sound v w i mw mi)
      ∙ sym (tagged-over s case_at (λ i. at (v w i) (cell w i)) l.internals))
      ∙ sym (tagged-over s case_at _ l.winds)
      ∙ (λ k. tagged case_at (cells_by v (winds k) (internals k)))

  -- ---- as it is shown

  abbrev case : Top Pair → Extreme
  case t = extreme_with t j.faces.count (alternatives_at axis s j t)

  extreme-is : Sound g → (t : Stored) (e : Top Pair) → Proper e.total
      → at (units e.total) (cell e.wind e.internal)
      ≡ best_up_to axis s t j.internals.count j.winds.count
      → case e ≡ extreme_by axis s t (carried j)
  unfolding carried shown tagged
  extreme-is sound t e p q =
      let fs = faces_of j.faces in
      let all = length-map fs (as_carried j) ∙ first_of-length no_face j.faces.count j.faces.entry in
      let faces = sym all in
      let picks = picks-carried j axis s (wind_numbered j.winds e.wind) fs in
      let same : pair_of (units e.total) ≡ e.total = pair_of-units e.total p in
      (λ k. record {
        total = sym same k;
        wind = e.wind;
        internal = e.internal;
        faces = j.faces.count;
        alternative = padded most_faces (sym picks k);
      })
      ∙ ap (λ b. shown j.faces.count (tagged case_at b)) q
      ∙ (λ k. shown (faces k) (sym (cells_are sound (stored_at axis s t)) k))

  -- ---- where each cell has its own sum, it is the worst of all cases

  pub own-worst : Sound g → (v : ℕ → ℕ → ℤ)
      → ((w i : ℕ) → WindNumber j w → InternalNumber j i → v w i ≡ value_of (best_choice s l w i))
      → best s (λ k. v k.wind k.internal) (cell_cases s l) ≡ worst s l
  unfolding tagged
  own-worst sound v h =
      cases-over v
      ∙ over-same-in s _ _ l.winds
      (λ w mw. over-same-in s _ _ l.internals (λ i mi.
      let e = choice-is sound w i mw mi in
      ap (λ z. at z (case_of s l w i)) (h w i mw mi)
      ∙ ap (λ b. at (value_of b) (record { wind = w; internal = i; chosen = chosen_of b })) e
      ∙ ap (tagged (λ ks. record { wind = w; internal = i; chosen = ks })) (sym e)))
      ∙ sym (worst-cells l s)

-- so the tops that the engine finds, shown, are what the stored sums tell
pub six-are : (j : Job) → ByLast j → Sound (given (carried j)) → (t : Stored) (e : Ends Pair) → ProperEnds e
    → ((axis : Axis) (s : Side) → let u = top_at axis s e in
    at (units u.total) (cell u.wind u.internal) ≡ best_up_to axis s t j.internals.count j.winds.count)
    → six_of j e ≡ six_by t (carried j)
unfolding six_by
six-are j last sound t e p h =
    λ k. record {
      x = record { greatest = on X Greatest k; least = on X Least k };
      y = record { greatest = on Y Greatest k; least = on Y Least k };
      z = record { greatest = on Z Greatest k; least = on Z Least k };
    }
  where
    on : (axis : Axis) (s : Side) → case j last axis s (top_at axis s e) ≡ extreme_by axis s t (carried j)
    on axis s = extreme-is j last axis s sound t (top_at axis s e) (proper-top e p axis s) (h axis s)

-- ---- the sums of a cell

-- as the engine has them
pub cell-is : (j : Job) → ByLast j → Sound (given (carried j)) → (w i : ℕ) → WindNumber j w → InternalNumber j i
    → cell_of (given (carried j)) w i
    ≡ cell_with (axes_under j (wind_numbered j.winds w)) (internal_numbered j.internals i)
cell-is j last sound w i mw mi =
    λ k. record {
      x = record { greatest = on X Greatest k; least = on X Least k };
      y = record { greatest = on Y Greatest k; least = on Y Least k };
      z = record { greatest = on Z Greatest k; least = on Z Least k };
    }
  where
    on : (axis : Axis) (s : Side) → pair_of (value_of (best_choice s (loads axis (given (carried j))) w i))
        ≡ pair_of (cell_total s (sums_on axis (axes_under j (wind_numbered j.winds w)))
        (internal_numbered j.internals i))
    on axis s = ap (λ b. pair_of (value_of b)) (choice-is j last axis s sound w i mw mi)
