-- `reach::called_for`: the first line of those that are called for.
use Prim.Native.Nat.{ℕ, zero, suc, ◌<◌}
use mathlib.Core.Path.{◌≡◌, refl, ap}
use mathlib.Core.List.{List, ◌++◌, map}
use native.Mathlib.Omega.{arith}
use lib.ListN.{length, drop, drop_of_length-le}
use lib.Seq.{drop-cons}
use Rattle.rules.specs.declared.Section.{Section}
use Rattle.rules.specs.declared.Section.TheVariants.{«V»}
use Rattle.rules.specs.declared.Kind.{Kind}
use Rattle.rules.specs.declared.Kind.TheVariants.{Count, Entry}
use Rattle.rules.specs.Sections.{sections}
use Rattle.job.specs.Walk.{entries}
use Rattle.std.specs.Prelude.{Some}
use Rattle.slip.specs.Slip.{called}
use Rattle.slip.proofs.reach.called_for.Goals as goal

some_left : (sec : Section) (left : ℕ) (ks : List Kind) → (left ≡ 0 → ⊥)
    → Some (Entry sec) ≡ called (entries sec left ++ ks)
some_left sec zero ks h = absurd (h refl)
some_left sec (suc n) ks h = refl

pub returns-then-left-ne0 : goal.returns-then-left-ne0
returns-then-left-ne0 c =
    let a = c.args in
    some_left a.sec a.left (map Count (drop a.begun (sections a.heights))) c.if-left-ne0.true

pub returns-then-begun-section_count : goal.returns-then-begun-section_count
returns-then-begun-section_count c =
    let a = c.args in
    let few : a.begun < length (sections a.heights) = omega (
      arith,
      c.section_count.ensures,
      c.if-begun-section_count.true,
    ) in
    rw (c.if-left-ne0.false, drop-cons (sections a.heights) a.begun «V» few)
    (ap (λ (s : Section). Some (Count s)) c.section_at.ensures)

pub returns : goal.returns
returns c =
    let a = c.args in
    rw (
      c.if-left-ne0.false,
      drop_of_length-le (sections a.heights) {i = a.begun}
          (omega (arith, c.section_count.ensures, c.if-begun-section_count.false)),
    )
