-- The six extremes of an accepted job are what may be shown for it, and nothing else is.
use mathlib.Core.Path.{◌≡◌, refl, sym, ap, subst, ◌∙◌}
use mathlib.Core.Logic.{⊎_elim}
use mathlib.Core.Bool.{true≢false}
use mathlib.Core.List.Memᴰ
use mathlib.Core.List.{List, [], ◌∷◌, Memᴰ}
use native.Mathlib.Omega.{arith}
use Prim.Native.Nat.{ℕ, ◌<◌}
use lib.IntN.{pos, nat_abs}
use lib.ListN.{get_or}
use lib.Signed.{◌<ℤ◌, le_z_yes}
use Rattle.whole.specs.Newton.{newton}
use Rattle.whole.proofs.Newton.{remainder-small}
use Rattle.pair.specs.Total.{pair_of}
use Rattle.pair.proofs.Units.{pair_of-units}
use borrow.Author.Tests.{lt-ltb}
use Rattle.whole.specs.Lists.{Every}
use Rattle.whole.proofs.Order.{≤ℤ-trans}
use Rattle.whole.proofs.Size.{size-rises, size-grows}
use Rattle.whole.proofs.Lists.{every-member}
use Rattle.whole.proofs.ByPlace.{get_d-member}
use Rattle.page.specs.Writing.{Writing, writing, buffer_after}
use Rattle.building.specs.declared.Building.{Building}
use Rattle.building.specs.Year.{has_heights}
use Rattle.entry.specs.declared.Wind.{Wind}
use Rattle.entry.specs.declared.Face.{Face}
use Rattle.job.specs.Carried.{Carried, no_face, most_faces}
use Rattle.job.specs.InOrder.{InOrder, WindInOrder}
use Rattle.job.specs.Walk.{Reading, Accepted}
use Rattle.job.proofs.Years.{later-heights}
use Rattle.sheet.specs.Sheet.{job_writing, job_buffer}
use Rattle.worst.specs.declared.Side.{Side}
use Rattle.worst.specs.declared.Side.TheVariants.{Greatest, Least}
use Rattle.worst.specs.declared.Axis.{Axis}
use Rattle.worst.specs.declared.Axis.TheVariants.{X, Y, Z}
use Rattle.worst.specs.declared.Extreme.{Extreme}
use Rattle.worst.specs.declared.Six.{Six}
use Rattle.worst.specs.Best.{NoFurther}
use Rattle.worst.specs.Cases.{Case, cases, case_total}
use Rattle.worst.specs.declared.speeds.Factor.{Factor}
use Rattle.worst.specs.Speed.{unchanged, factor_at, speed_at}
use Rattle.worst.specs.Forces.{factor_of, face_speed, loads}
use Rattle.worst.specs.Shown.{padded, shown, total_in}
use Rattle.worst.specs.Worst.{given, extreme, six_extremes}
use Rattle.worst.proofs.AtHeight.{speed-stays}
use Rattle.worst.proofs.Meaning.{is_best-unique}
use Rattle.worst.proofs.Demand.{AllIn, OneFactor, Faster}
use Rattle.worst.proofs.Promises.{extreme-shows, extreme-more, extreme-faster}
use Rattle.report.specs.Lines.{six_text}
use Rattle.report.specs.Report.{report_text, totals_text}
use Rattle.claims.specs.Shown.{Shows, ShowsSix, Reported, Includes, More, Raised, OneHeight, SomeSpeed}
use Rattle.claims.specs.Shown.{OneSpeed}
use Rattle.claims.specs.Shown as faster
use Rattle.claims.specs.Written.{Written}
use Rattle.column.proofs.ReportLines.{one-is}
use Rattle.claims.proofs.Written.{text-written, written-unique}
use Rattle.claims.proofs.Again.{job-written}

-- ---- one extreme

module _ (c : Carried) (axis : Axis) (side : Side) where
  unfoldable pub extreme-is-shown : InOrder c → Shows c axis side (extreme axis side c)
  unfolding shown
  extreme-is-shown o =
      let f = extreme-shows axis side c o in
      record {
        case = f.case;
        best = f.best;
        remainder = subst (λ x. x.total.remainder < newton) (sym f.named) (remainder-small _);
        wind = ap (λ x. x.wind) f.named;
        internal = ap (λ x. x.internal) f.named;
        faces = ap (λ x. x.faces) f.named;
        alternative = ap (λ x. x.alternative) f.named;
      }

  pub shows-unique : {e e' : Extreme} → Shows c axis side e → Shows c axis side e' → e ≡ e'
  shows-unique {e} {e'} h k =
      let l = loads axis (given c) in
      let u =
      is_best-unique side (case_total l) (cases l) (total_in e) (total_in e') h.case k.case h.best k.best in
      let same : h.case ≡ k.case = u.1 in
      let wind = h.wind ∙ ap (λ x. x.wind) same ∙ sym k.wind in
      let internal = h.internal ∙ ap (λ x. x.internal) same ∙ sym k.internal in
      let proper : (x : Extreme) → x.total.remainder < newton → pair_of (total_in x) ≡ x.total =
      λ x t. pair_of-units x.total (lt-ltb x.total.remainder newton t) in
      let total = sym (proper e h.remainder) ∙ ap pair_of u.0 ∙ proper e' k.remainder in
      let alternative =
      h.alternative ∙ ap (λ (x : Case ℕ ℕ ℕ). padded most_faces x.chosen) same ∙ sym k.alternative in
      λ i.
      record {
        total = total i;
        wind = wind i;
        internal = internal i;
        faces = (h.faces ∙ sym k.faces) i;
        alternative = alternative i;
      }

-- ---- all six

pub six-shown : (c : Carried) → InOrder c → ShowsSix c (six_extremes c)
six-shown c o axis side = subst (Shows c axis side) (sym (one-is c axis side)) (extreme-is-shown c axis side o)

-- the report of a job in order, written
module _ {x : Reading} {c : Carried} (o : InOrder c) (a : x ≡ Accepted c) (before : List ℕ) {after : List ℕ}
    {w : Writing} where
  pub reported : (w ≡ job_writing report_text x before) × (after ≡ job_buffer report_text x before)
      → Reported c before after w
  unfolding report_text
  reported p = record { six = six_extremes c; shows = six-shown c o; written = job-written report_text a before p }

  pub reported-totals : (w ≡ writing (totals_text x) before) × (after ≡ buffer_after (totals_text x) before)
      → Reported c before after w
  unfolding report_text
  reported-totals p =
      let text = ap totals_text a in
      record {
        six = six_extremes c;
        shows = six-shown c o;
        written =
            text-written (report_text c) before
            (p.0 ∙ ap (λ t. writing t before) text, p.1 ∙ ap (λ t. buffer_after t before) text);
      }

pub six-unique : (c : Carried) {six six' : Six} → ShowsSix c six → ShowsSix c six' → six ≡ six'
six-unique c h k =
    let same : (axis : Axis) (side : Side) → _ = λ axis side. shows-unique c axis side (h axis side) (k axis side) in
    λ i.
    record {
      x = record { greatest = same X Greatest i; least = same X Least i };
      y = record { greatest = same Y Greatest i; least = same Y Least i };
      z = record { greatest = same Z Greatest i; least = same Z Least i };
    }

pub reported-unique : (c : Carried) (before : List ℕ) {after after' : List ℕ} {w w' : Writing}
    → Reported c before after w → Reported c before after' w' → (w ≡ w') × (after ≡ after')
reported-unique c before {after' = after'} {w' = w'} h k =
    written-unique (six_text c.year h.six) before h.written
    (subst (λ (six : Six). Written (six_text c.year six) before after' w')
    (six-unique c k.shows h.shows) k.written)

-- ---- two jobs

included : {X : Type 0} {xs ys : List X} → Includes ys xs → AllIn ◌≡◌ xs ys
included h x m = (x, h x m, refl)

-- one factor for all faces, at which every wind has a speed above 0
record AtOneFactor (c : Carried) : Type 0 where
  one : OneFactor (given c)
  some : (w : Wind) → Memᴰ w c.winds → 0 < nat_abs (speed_at one.factor w.speed)

-- in year 1 it is 1, and speeds are above 0
first-year : (c : Carried) → InOrder c → c.profile ≡ [] → AtOneFactor c
unfolding factor_at
first-year c o e =
    record {
      one = record { factor = unchanged; each = λ f m. ap (λ p. factor_at p f.height) e };
      some = λ w m.
          let least = (every-member (WindInOrder c.building) c.winds o.winds m).least-speed in
          let stays = speed-stays unchanged w.speed (≤ℤ-trans (le_z_yes tt) least) (omega arith) refl in
          omega (arith, ap nat_abs stays, size-rises (pos 1) w.speed (le_z_yes tt) least);
    }

-- and else that of the one height, at which the first face has its speeds
one-height : (c : Carried) → InOrder c → OneHeight c → SomeSpeed c → AtOneFactor c
one-height c o h speeds =
    let same : (f : Face) → Memᴰ f c.faces → factor_of c.profile f ≡ factor_at c.profile h.0 =
    λ f m. ap (factor_at c.profile) (every-member (λ g. g.height ≡ h.0) c.faces h.1 m) in
    let first = get_or c.faces 0 no_face in
    let in-faces = get_d-member c.faces 0 no_face (omega (arith, o.faces-counted.low)) in
    record {
      one = record { factor = factor_at c.profile h.0; each = same };
      some = λ w m.
          let all =
          every-member (λ u. Every (λ f. pos 0 <ℤ face_speed c.profile u f) c.faces) c.winds speeds m in
          let above = every-member (λ f. pos 0 <ℤ face_speed c.profile w f) c.faces all in-faces in
          subst (λ k. 0 < nat_abs (speed_at k w.speed)) (same first in-faces)
          (size-grows (pos 0) _ (le_z_yes tt) above);
    }

at-one-factor : (c : Carried) → InOrder c → OneSpeed c → AtOneFactor c
at-one-factor c o =
    ⊎_elim
    (λ e.
    ⊎_elim (λ y. first-year c o y.profile)
    (λ y. absurd (true≢false (sym (later-heights c.year y.year) ∙ ap has_heights e))) o.form)
    (λ s. one-height c o s.0 s.1)

-- each wind has its faster one in its own place
raised : (k : Factor) (g : Building) (ws vs : List Wind) → Every (WindInOrder g) ws
    → ((w : Wind) → Memᴰ w ws → 0 < nat_abs (speed_at k w.speed)) → Raised ws vs → AllIn (Faster k) ws vs
raised k g [] [] o s r x m = absurd (Memᴰ.not-nil m)
raised k g [] (v ∷ vs) o s r x m = absurd r
raised k g (w ∷ ws) [] o s r x m = absurd r
raised k g (w ∷ ws) (v ∷ vs) o s r x m =
    ⊎_elim
    (λ e.
    let risen = size-rises w.speed v.speed (≤ℤ-trans (le_z_yes tt) o.0.least-speed) r.1 in
    let f : Faster k w v = record { direction = r.0; some = s w (Memᴰ.head refl); risen = risen } in
    (v, Memᴰ.head refl, subst (λ (u : Wind). Faster k u v) (sym e) f))
    (λ n.
    let t = raised k g ws vs o.1 (λ u m. s u (Memᴰ.tail m)) r.2 x n in
    (t.0, Memᴰ.tail t.1, t.2))
    (Memᴰ.cases_cons m)

module _ {c d : Carried} (o : InOrder c) (p : InOrder d) (axis : Axis) (side : Side) where
  pub more-no-less : More c d → NoFurther side (total_in (extreme axis side c)) (total_in (extreme axis side d))
  more-no-less m =
      extreme-more c d m.building m.profile m.faces o p (included m.winds) (included m.internals) axis
      side

  pub faster-no-less : faster.Faster c d → OneSpeed c → NoFurther side (pos 0) (total_in (extreme axis side c))
      → NoFurther side (total_in (extreme axis side c)) (total_in (extreme axis side d))
  faster-no-less m speeds =
      let at = at-one-factor c o speeds in
      extreme-faster c d m.building m.profile m.faces o p at.one
      (raised at.one.factor c.building c.winds d.winds o.winds at.some m.winds)
      (λ x n. (x, subst (Memᴰ x) m.internals n, refl)) axis side
