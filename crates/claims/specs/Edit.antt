-- What an edit of a worksheet is refused for: the first of its faults, in the order of paper 02's item 4.
use Rattle.std.specs.Prelude.{◌≡◌, ℕ, ◌+◌, ◌≤◌, ◌<◌, ℤ, pos, ◌≤ℤ◌}
use Rattle.verdict.specs.declared.Verdict.{Verdict}
use Rattle.verdict.specs.Verdict.{refusal}
use Rattle.building.specs.Year.{has_heights}
use Rattle.entry.specs.declared.Face.{Face}
use Rattle.entry_written.specs.Fields.{face_fields}
use Rattle.rules.specs.declared.Section.TheVariants.{F}
use Rattle.rules.specs.declared.Kind.TheVariants.{Entry}
use Rattle.rules.specs.Sections.{about, line_fault}
use Rattle.job.specs.declared.Job.{Job}
use Rattle.job.specs.Carried.{before, carried}
use Rattle.job.specs.Lines.{lines_of, face_line}
use Rattle.edits.specs.Edits.{Edit, Add, Replace, TakeOut}
use Rattle.claims.specs.Fault.{Faulty, Faultless}

module _ (j : Job) where
  abbrev pub faces : ℕ
  faces = j.faces.count

  -- "no such face": faces count from 1
  abbrev pub There : ℤ → Type 0
  There k = (pos 1 ≤ℤ k) × (k ≤ℤ pos faces)

  abbrev pub NoSuchFace : Edit → Type 0
  NoSuchFace (Add f) = ⊥
  NoSuchFace (Replace k f) = There k → ⊥
  NoSuchFace (TakeOut k) = There k → ⊥

  -- "a full worksheet on add, or taking out the only face"
  abbrev pub FullOrOnly : Edit → Type 0
  FullOrOnly (Add f) = (about F).most j.year ≤ faces
  FullOrOnly (Replace k f) = ⊥
  FullOrOnly (TakeOut k) = faces ≤ 1

  -- the fault that a face would have as a line of the sheet
  abbrev pub face_fault : Face → ℕ
  face_fault f = line_fault (Entry F) (before (carried j)) (face_fields (has_heights j.year) f)

  -- "the new face's own faults", and the place that it would have
  abbrev pub NewFace : Edit → ℕ → ℕ → Type 0
  NewFace (Add f) k n = (k ≡ faces + 1) × (n ≡ face_fault f)
  NewFace (Replace i f) k n = (pos k ≡ i) × (n ≡ face_fault f)
  NewFace (TakeOut i) k n = ⊥

  -- each after those before it
  pub data EditFault (e : Edit) : Verdict → Type 0 where
    held-job : {v : Verdict} → Faulty (lines_of (carried j)) v → EditFault e v
    no-such-face : Faultless (lines_of (carried j)) → NoSuchFace e → EditFault e (refusal 9 0)
    full-or-only : Faultless (lines_of (carried j)) → (NoSuchFace e → ⊥) → FullOrOnly e → EditFault e (refusal 2 0)
    new-face : (k n : ℕ) → Faultless (lines_of (carried j)) → (NoSuchFace e → ⊥) → (FullOrOnly e → ⊥)
        → NewFace e k n → 0 < n → EditFault e (refusal n (face_line (carried j) k))
