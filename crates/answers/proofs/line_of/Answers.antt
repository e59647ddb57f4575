-- `line_of`: the arms are the tests of `report_line`, in its order. The machine tells a number by its bits.
-- an arm's own number, with the year read back
use Prim.Native.Nat.{ℕ}
use mathlib.Core.Path.{◌≡◌, refl, sym, ap, ap₂, ◌∙◌}
use lib.IntN.{ℤ, pos, negsuc}
use mir.Syntax.{w64}
use mir.Val.{to_z, of_z}
use mir.Facts.{to_z-of_z}
use Rattle.whole.proofs.Tests.{tests}
use Rattle.verdict.specs.Verdict.{refusal}
use Rattle.worst.specs.declared.Six.{Six}
use Rattle.answers.specs.Answers.{no_host_extreme, report_line, host_line}
use Rattle.answers.proofs.line_of.Goals.{Start}
use Rattle.answers.proofs.line_of.Goals as goal

arm : (t : Start) (n : ℕ) → of_z w64 t.args.line ≡ n
    → host_line (to_z w64 (of_z w64 t.args.year)) t.args.six (to_z w64 n)
    ≡ host_line t.args.year t.args.six t.args.line
arm t n e =
    ap₂ (λ (y z : ℤ). host_line y t.args.six z) (to_z-of_z t.ranges.year)
    (sym (ap (to_z w64) e) ∙ to_z-of_z t.ranges.line)

-- none of the six
no_line : (year : ℤ) (s : Six) (z : ℤ) → (of_z w64 z ≡ 1 → ⊥) → (of_z w64 z ≡ 2 → ⊥) → (of_z w64 z ≡ 3 → ⊥)
    → (of_z w64 z ≡ 4 → ⊥) → (of_z w64 z ≡ 5 → ⊥) → (of_z w64 z ≡ 6 → ⊥)
    → no_host_extreme (refusal 3 0) ≡ host_line year s z
unfolding report_line
no_line year s (pos n) a b c d e f = search tests
no_line year s (negsuc n) a b c d e f = refl

pub returns-in-1 : goal.returns-in-1
unfolding report_line
returns-in-1 c = c.extreme_of.ensures ∙ arm (goal.at.returns-in-1 c).Start 1 c.in-1.in-1-own.keys1

pub returns-in-2 : goal.returns-in-2
unfolding report_line
returns-in-2 c = c.extreme_of-in-2.ensures ∙ arm (goal.at.returns-in-2 c).Start 2 c.in-2.in-2-own.keys2

pub returns-in-3 : goal.returns-in-3
unfolding report_line
returns-in-3 c = c.extreme_of-in-3.ensures ∙ arm (goal.at.returns-in-3 c).Start 3 c.in-3.in-3-own.keys3

pub returns-in-4 : goal.returns-in-4
unfolding report_line
returns-in-4 c = c.extreme_of-in-4.ensures ∙ arm (goal.at.returns-in-4 c).Start 4 c.in-4.in-4-own.keys4

pub returns-in-5 : goal.returns-in-5
unfolding report_line
returns-in-5 c = c.extreme_of-in-5.ensures ∙ arm (goal.at.returns-in-5 c).Start 5 c.in-5.in-5-own.keys5

pub returns-in-6 : goal.returns-in-6
unfolding report_line
returns-in-6 c = c.extreme_of-in-6.ensures ∙ arm (goal.at.returns-in-6 c).Start 6 c.in-6.in-6-own.keys6

pub returns-in_default : goal.returns-in_default
returns-in_default c =
    let a = c.args in
    let r = c.in_default.in_default-own.rest in
    let none = no_line a.year a.six a.line in
    c.no_extreme.ensures
    ∙ none r.0.0.0.0.0.1 r.0.0.0.0.1 r.0.0.0.1 r.0.0.1 r.0.1 r.1
