-- Of every account the force is net coefficient × pressure number × area.
use mathlib.Core.Path.{◌≡◌, refl, sym}
use mathlib.Core.Bool.{Bool, true, false, cond}
use Prim.Native.Nat.{ℕ}
use lib.Dec.{eqb}
use lib.IntN.{ℤ, pos, nat_abs, ◌*ℤ◌}
use lib.ListN.{length}
use Rattle.verdict.specs.Verdict.{refusal}
use Rattle.building.specs.Test.{beyond}
use Rattle.job.specs.Carried.{Carried}
use Rattle.job.specs.Walk as walk
use Rattle.worst.specs.Forces.{acts, wind_at, face_at}
use Rattle.worst.specs.Worst.{given, six_extremes}
use Rattle.answers.specs.declared.Extreme.{Extreme}
use Rattle.answers.specs.Answers.{host_line}
use Rattle.account.specs.declared.Account.{Account}
use Rattle.account.specs.Account.{face_account, no_account, account_on, account_of}
use Rattle.account.proofs.Together.{no-force}

abbrev pub IsProduct : Account → Type 0
IsProduct x = x.force ≡ x.net *ℤ x.pressure *ℤ x.area

of-face : (c : Carried) (line : ℤ) (e : Extreme) (k : ℕ) → IsProduct (face_account c line e k)
unfolding face_account
of-face c line e k =
    let x = face_account c line e k in
    go (acts (face_at (given c) k) (wind_at (given c) e.wind).direction) _ x.pressure x.area
  where
    go : (t : Bool) (n p a : ℤ) → cond t (n *ℤ p *ℤ a) (pos 0) ≡ cond t n (pos 0) *ℤ p *ℤ a
    go true n p a = refl
    go false n p a = sym (no-force p a)

-- one of two
either : (t : Bool) (x y : Account) → IsProduct x → IsProduct y → IsProduct (cond t x y)
either true x y p q = p
either false x y p q = q

pub is-product : (r : walk.Reading) (line face : ℤ) → IsProduct (account_of r line face)
unfolding account_of
is-product (walk.Accepted c) line face =
    let e = host_line c.year (six_extremes c) line in
    let own = face_account c line e (nat_abs face) in
    either (eqb e.verdict.number 0) (account_on c line e face) (no_account e.verdict)
    (either (beyond (pos 1) (pos (length c.faces)) face) (no_account (refusal 9 0)) own refl
    (of-face c line e (nat_abs face))) refl
is-product (walk.Refused v) line face = refl
