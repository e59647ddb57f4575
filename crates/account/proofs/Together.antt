-- The steps of one face come to its account.
use mathlib.Core.Path.{◌≡◌, refl, ap, ◌∙◌}
use mathlib.Core.Bool.{Bool, true, false, cond}
use Prim.Native.Nat.{ℕ, ◌-◌}
use lib.IntN.{ℤ, pos, ◌*ℤ◌, zero-*ℤ}
use lib.ListN.{get_or}
use Rattle.verdict.specs.Verdict.{accepted}
use Rattle.book.specs.Answer.{Answer}
use Rattle.book.specs.Question.{outside_of, net}
use Rattle.entry.specs.declared.Wind.{Wind}
use Rattle.entry.specs.declared.Face.{Face}
use Rattle.job.specs.Carried.{Carried}
use Rattle.worst.specs.declared.UnderWind.{UnderWind}
use Rattle.worst.specs.Forces.{Given, acts, outsides, area, wind_at, internal_at, face_at}
use Rattle.worst.specs.Worst.{given}
use Rattle.worst.specs.UnderWind.{under_wind}
use Rattle.answers.specs.declared.Extreme.{Extreme}
use Rattle.sharing.specs.Column.{column}
use Rattle.column.specs.Column.{axis_of, forces_shown}
use Rattle.account.specs.declared.Account.{Account}
use Rattle.account.specs.declared.coefficients.FaceCoefficients.{FaceCoefficients}
use Rattle.account.specs.Account.{no_rows, cited_rows, face_account}
use Rattle.account.specs.Coefficients.{face_coefficients, no_coefficients}

pub no-force : (p a : ℤ) → pos 0 *ℤ p *ℤ a ≡ pos 0
no-force p a = ap (λ z. z *ℤ a) (zero-*ℤ p) ∙ zero-*ℤ a

module _ (c : Carried) (line : ℤ) (e : Extreme) (k : ℕ) where
  abbrev g : Given
  g = given c

  abbrev w : Wind
  w = wind_at g e.wind

  abbrev internal : ℤ
  internal = internal_at g e.internal

  abbrev f : Face
  f = face_at g k

  abbrev a : ℕ
  a = get_or e.alternative (k - 1) 0

  abbrev asked : Answer
  asked = outside_of c.year c.building w.direction f.zone

  abbrev under : UnderWind
  under = under_wind g w f

  abbrev on_axis : ℤ
  on_axis = area (axis_of line) f

  -- the steps, put together, by whether the face takes part and at a force
  abbrev pub account : FaceCoefficients → ℤ → Account
  account o z =
      record {
        verdict = accepted;
        zone = f.zone;
        alternative = a;
        rows = o.rows;
        outside = o.outside;
        net = o.net;
        speed = under.speed;
        pressure = under.pressure;
        area = on_axis;
        force = z;
        newtons = get_or (column (forces_shown (axis_of line) g e)) (k - 1) (pos 0);
      }

  abbrev pub coefficients_shown : Bool → FaceCoefficients
  coefficients_shown t = cond t (face_coefficients asked a internal) no_coefficients

  pub account-is : let o = coefficients_shown (acts f w.direction) in
      account o (o.net *ℤ under.pressure *ℤ on_axis) ≡ face_account c line e k
  unfolding face_account
  account-is = go (acts f w.direction)
    where
      n : ℤ
      n = net (get_or (outsides g w f) (a - 1) (pos 0)) internal

      go : (t : Bool) → let o = coefficients_shown t in
          account o (o.net *ℤ under.pressure *ℤ on_axis)
          ≡ account (record {
            rows = cond t (cited_rows asked) no_rows;
            outside = cond t (get_or (outsides g w f) (a - 1) (pos 0)) (pos 0);
            net = cond t n (pos 0);
          }) (cond t (n *ℤ under.pressure *ℤ on_axis) (pos 0))
      go true = refl
      go false = ap (account no_coefficients) (no-force under.pressure on_axis)

  -- part by part, as the code has them
  pub put-together : (zone : ℕ) → zone ≡ f.zone → (o : FaceCoefficients)
      → o ≡ coefficients_shown (acts f w.direction)
      → (u : UnderWind) → u ≡ under → (here : ℤ) → here ≡ on_axis → (z : ℤ) → z ≡ o.net *ℤ u.pressure *ℤ here
      → (n : ℤ) → n ≡ get_or (column (forces_shown (axis_of line) g e)) (k - 1) (pos 0)
      → ◌≡◌ {A = Account}
      (record {
        verdict = accepted;
        zone = zone;
        alternative = a;
        rows = o.rows;
        outside = o.outside;
        net = o.net;
        speed = u.speed;
        pressure = u.pressure;
        area = here;
        force = z;
        newtons = n;
      }) (face_account c line e k)
  put-together zone ez o eo u eu here eh z ef n en =
      (λ i. record {
        verdict = accepted;
        zone = ez i;
        alternative = a;
        rows = (eo i).rows;
        outside = (eo i).outside;
        net = (eo i).net;
        speed = (eu i).speed;
        pressure = (eu i).pressure;
        area = eh i;
        force = (ef ∙ (λ k. (eo k).net *ℤ (eu k).pressure *ℤ eh k)) i;
        newtons = en i;
      })
      ∙ account-is
