-- `read_into` meets its contract: line by line, what comes of the rest is what comes of the whole text.
use Prim.Native.Nat.{ℕ, suc, ◌≤◌, ◌-◌}
use mathlib.Core.Path.{◌≡◌}
use mathlib.Core.List.{List}
use lib.IntN.{ℤ}
use lib.ListN.{length}
use Rattle.rules.specs.declared.Before.{Before}
use Rattle.rules.specs.declared.Section.{Section}
use Rattle.rules.specs.Sections.{section_at}
use Rattle.job.specs.declared.Winds.{Winds}
use Rattle.job.specs.declared.Internals.{Internals}
use Rattle.job.specs.declared.Profile.{Profile}
use Rattle.sheet.specs.Parts.{setting_of}
use Rattle.sheet.proofs.OneMore.{Kept}
use Rattle.sheet.proofs.SoFar.{ReadSoFar}
use Rattle.sheet.proofs.read.read_into.Given as goal

-- what is kept, in parts
abbrev pub kept_in : Before → Winds → Internals → Profile → ℕ → List ℤ → Kept
kept_in b winds internals profile faces list =
    record { setting = setting_of b winds internals profile; faces = faces; list = list }

abbrev pub invariant-loop-left : goal.invariant-loop-left
invariant-loop-left l =
    (length l.flat ≡ length l.initial.flat)
    × ReadSoFar (length l.flat) l.s l.heights (section_at l.heights l.i) l.left (suc l.i) l.b
    (kept_in l.b l.winds l.internals l.profile l.faces l.flat) l.line l.next

abbrev pub decreases-loop-left : goal.decreases-loop-left
decreases-loop-left l = l.left

abbrev pub invariant-loop-i : goal.invariant-loop-i
invariant-loop-i l =
    (l.i ≤ l.i-end)
    × (length l.flat ≡ length l.initial.flat)
    × ((sec : Section) × ReadSoFar (length l.flat) l.s l.heights sec 0 l.i l.b
    (kept_in l.b l.winds l.internals l.profile l.faces l.flat) l.line l.next)

abbrev pub decreases-loop-i : goal.decreases-loop-i
decreases-loop-i l = l.i-end - l.i
