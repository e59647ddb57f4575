-- A new face that is refused gets the number and line that the sheet with it would get.
use mathlib.Core.Path.{◌≡◌, refl, sym, ap, ◌∙◌, subst}
use mathlib.Core.Bool.{Bool, true, false}
use mathlib.Core.List.{List, [], ◌∷◌, ◌++◌}
use Prim.Native.Nat.{ℕ, ◌+◌, ◌-◌, ◌<◌}
use native.Mathlib.Omega.{arith}
use lib.IntN.{ℤ, nat_abs}
use lib.ListN.{length, get_or, take, drop, length-append, length-drop}
use lib.Seq.{length-take-le, take-append_seam, take_all, take_at, get_or_at}
use Rattle.whole.specs.Lists.{Every}
use Rattle.whole.proofs.Lists.{every_map}
use Rattle.whole.proofs.Pieces.{every_first}
use Rattle.verdict.specs.Verdict.{refusal}
use Rattle.building.specs.Year.{has_heights, face_limit}
use Rattle.building.proofs.Accepted as range
use Rattle.rules.specs.declared.Section.TheVariants.{F}
use Rattle.rules.specs.declared.Kind.TheVariants.{Entry}
use Rattle.rules.specs.Sections.{line_fault}
use Rattle.entry.specs.declared.Face.{Face}
use Rattle.entry.specs.Says.{carried_face}
use Rattle.entry_written.specs.Fields.{face_fields}
use Rattle.job.specs.declared.Job.{Job}
use Rattle.job.specs.Carried as job
use Rattle.job.specs.Carried.{Carried, carried, no_face, before}
use Rattle.job.specs.InOrder.{Within, InOrder}
use Rattle.job.specs.Lines.{entries_of, sheet_of, lines_of, face_line}
use Rattle.job.specs.Walk.{Accepted, Refused, read_lines, judged}
use Rattle.job.proofs.InOrder.{in-order-accepted}
use Rattle.job.proofs.Sheet.{sheet-in-order, sheet-said, in-order-all}
use Rattle.edits.specs.Edits.{Add, Replace, new_face}
use Rattle.edits.proofs.Counts.{few-faces}
use Rattle.edits.proofs.AtFace.{refused-at-face}
use Rattle.edits.proofs.Accepted.{after, carried-edited, many}

-- what is in order is read as it is written
as_read : (c : Carried) → InOrder c → read_lines (sheet_of (has_heights c.year) (entries_of c)) ≡ Accepted c
unfolding lines_of
as_read c o = in-order-accepted c o

same-fields : (h : Bool) (f : Face) → face_fields h (carried_face h f) ≡ face_fields h f
same-fields true f = refl
same-fields false f = refl

module _ (j : Job) (o : InOrder (carried j)) where
  abbrev c : Carried
  c = carried j

  abbrev h : Bool
  h = has_heights c.year

  abbrev fault_of : Face → ℕ
  fault_of f = line_fault (Entry F) (before c) (face_fields h f)

  -- no face that is held has a fault
  held-fine : Every (λ f. fault_of f ≡ 0) c.faces
  held-fine =
      let es = entries_of c in
      let in-sheet = sheet-in-order es h c (as_read c o) in
      let all = in-order-all es in-sheet F tt tt in
      every_map (λ x. line_fault (Entry F) (before c) x ≡ 0) (face_fields h) c.faces
      (subst (λ d. Every (λ x. line_fault (Entry F) (before d) x ≡ 0) (es F)) (sym (sheet-said es h c (as_read c o)))
      all)

  -- face i of some faces is new, and those before it are held
  at_place : (fs : List Face) (i : ℕ) (f : Face) → Within 1 (face_limit c.year) (length fs) → i < length fs
      → take i fs ≡ take i c.faces → get_or fs i no_face ≡ carried_face h f → (fault_of f ≡ 0 → ⊥)
      → (d : Carried) → d ≡ job.with_faces fs c
      → read_lines (lines_of d) ≡ Refused (refusal (fault_of f) (face_line c (i + 1)))
  at_place fs i f few l first new z d q =
      let same = ap fault_of new ∙ ap (line_fault (Entry F) (before c)) (same-fields h f) in
      let fine = subst (Every (λ g. fault_of g ≡ 0)) (sym first) (every_first _ i c.faces held-fine) in
      ap (λ x. read_lines (lines_of x)) q
      ∙ refused-at-face c o fs few i l fine (λ y. z (sym same ∙ y))
      ∙ ap (λ n. Refused (refusal n (face_line c (i + 1)))) same

  pub add-refused : (f : Face) → j.faces.count < face_limit c.year
      → ((new_face (j.faces.count + 1) f j).number ≡ 0 → ⊥)
      → judged (after j o (Add f)) ≡ Refused (new_face (j.faces.count + 1) f j)
  unfolding judged carried
  add-refused f room z =
      let fs = c.faces in
      let new = carried_face h f in
      let all = many j o in
      let n = length-append fs (new ∷ []) in
      at_place (fs ++ (new ∷ [])) j.faces.count f
      (record { low = omega (arith, n); high = omega (arith, n, all) })
      (omega (arith, n, all))
      (ap (λ k. take k (fs ++ (new ∷ []))) (sym all) ∙ take-append_seam fs (new ∷ [])
      ∙ sym (ap (λ k. take k fs) (sym all) ∙ take_all (length fs) fs (omega arith)))
      (get_or_at fs new [] no_face j.faces.count all) z (carried (after j o (Add f))) (carried-edited j o (Add f))

  pub replace-refused : (k : ℤ) (f : Face) → range.Within 1 j.faces.count k
      → ((new_face (nat_abs k) f j).number ≡ 0 → ⊥)
      → judged (after j o (Replace k f)) ≡ Refused (new_face (nat_abs k) f j)
  unfolding judged carried
  replace-refused k f w z =
      let fs = c.faces in
      let new = carried_face h f in
      let all = many j o in
      let n = nat_abs k in
      let front = length-take-le (n - 1) fs (omega (arith, all, w.to)) in
      let rest = length-drop n fs in
      let both = length-append (take (n - 1) fs) (new ∷ drop n fs) in
      let few = few-faces j o in
      let last : n - 1 + 1 ≡ n = omega (arith, w.from) in
      at_place (take (n - 1) fs ++ (new ∷ drop n fs)) (n - 1) f
      (record { low = omega (arith, both); high = omega (arith, front, rest, both, all, w.from, w.to, few.1) })
      (omega (arith, both, front))
      (take_at (take (n - 1) fs) (new ∷ drop n fs) (n - 1) front)
      (get_or_at (take (n - 1) fs) new (drop n fs) no_face (n - 1) front) z (carried (after j o (Replace k f)))
      (carried-edited j o (Replace k f))
      ∙ ap (λ m. Refused (refusal (fault_of f) (face_line c m))) last
