-- The verdict of an edit is the first of its faults, and no other.
use mathlib.Core.Path.{◌≡◌, refl, sym, ap, ◌∙◌, subst}
use mathlib.Core.Logic.{⊎_elim}
use Prim.Native.Nat.{ℕ, ◌+◌, ◌≤◌, ◌<◌}
use native.Mathlib.Omega.{arith}
use lib.Dec.{eqb, ltb}
use lib.IntN.{ℤ, pos, nat_abs}
use borrow.Author.Tests.{le-ltb, ltb-true, ltb-false, eqb-true, eqb-false}
use Rattle.whole.proofs.Tests.{by-test}
use Rattle.verdict.specs.declared.Verdict.{Verdict}
use Rattle.verdict.specs.Verdict.{accepted, refusal, ◌or_then◌, Refuses}
use Rattle.verdict.proofs.After.{then-later, then-earlier}
use Rattle.building.specs.Test.{beyond}
use Rattle.building.specs.Year.{face_limit}
use Rattle.building.proofs.Ranges.{not_beyond, is_within}
use Rattle.building.proofs.Accepted as range
use Rattle.entry.specs.declared.Face.{Face}
use Rattle.job.specs.declared.Job.{Job}
use Rattle.job.specs.Carried.{carried}
use Rattle.job.specs.Lines.{lines_of, face_line}
use Rattle.job.specs.Walk.{verdict}
use Rattle.edits.specs.Edits.{Edit, Add, Replace, TakeOut, held_job, no_such_face, full, only_face, new_face}
use Rattle.edits.specs.Edits.{edit_verdict}
use Rattle.edits.proofs.Checks.{verdict-accepted}
use Rattle.claims.specs.Fault.{Faulty, at, Faultless}
use Rattle.claims.specs.Edit.{There, face_fault, EditFault, held-job}
use Rattle.claims.specs.Edit.{no-such-face, full-or-only, new-face}
use Rattle.claims.proofs.Fault as fault
use Rattle.claims.proofs.Question.{clash}

module _ (j : Job) where
  abbrev Fine : Type 0
  Fine = Faultless (lines_of (carried j))

  -- ---- each check by itself

  held-faulty : {v : Verdict} → Faulty (lines_of (carried j)) v → (held_job j ≡ v) × Refuses v
  held-faulty (at f) = (ap verdict (fault.job-faulty j (at f)), λ z. absurd (omega (arith, f.some)))

  past-held : Fine → (w : Verdict) → (held_job j or_then w) ≡ w
  past-held f w = then-later (held_job j) w (ap (λ x. (verdict x).number) (fault.job-faultless j f))

  missing : (k : ℤ) → (There j k → ⊥) → no_such_face k j ≡ refusal 9 0
  missing k h =
      by-test (beyond (pos 1) (pos j.faces.count) k) (λ t. rw t)
      (λ t. absurd (h (not_beyond (pos 1) (pos j.faces.count) k t)))

  there : (k : ℤ) → ((There j k → ⊥) → ⊥) → (no_such_face k j).number ≡ 0
  there k h =
      by-test (beyond (pos 1) (pos j.faces.count) k)
      (λ t. absurd (h (λ i. clash t (is_within (pos 1) (pos j.faces.count) k i.0 i.1))))
      (λ t. rw t)

  past-there : (k : ℤ) → ((There j k → ⊥) → ⊥) → (w : Verdict) → (no_such_face k j or_then w) ≡ w
  past-there k h w = then-later (no_such_face k j) w (there k h)

  abbrev most : ℕ
  most = face_limit j.year

  is-full : most ≤ j.faces.count → full j ≡ refusal 2 0
  is-full h = rw (le-ltb j.faces.count most h)

  past-full : (most ≤ j.faces.count → ⊥) → (w : Verdict) → (full j or_then w) ≡ w
  past-full h w =
      then-later (full j) w
      (by-test (ltb j.faces.count most) (λ t. rw t) (λ t. absurd (h (ltb-false j.faces.count most t))))

  is-only : j.faces.count ≤ 1 → only_face j ≡ refusal 2 0
  is-only h = rw (le-ltb 1 j.faces.count h)

  past-only : (j.faces.count ≤ 1 → ⊥) → (w : Verdict) → (only_face j or_then w) ≡ w
  past-only h w =
      then-later (only_face j) w
      (by-test (ltb 1 j.faces.count) (λ t. rw t) (λ t. absurd (h (ltb-false 1 j.faces.count t))))

  own : (k n : ℕ) (f : Face) → n ≡ face_fault j f → 0 < n
      → (new_face k f j or_then accepted) ≡ refusal n (face_line (carried j) k)
  own k n f e h =
      then-earlier (new_face k f j) accepted (λ z. absurd (omega (arith, e)))
      ∙ ap (λ m. refusal m (face_line (carried j) k)) (sym e)

  held_first : {v : Verdict} → Faulty (lines_of (carried j)) v → (w : Verdict) → (held_job j or_then w) ≡ v
  held_first h w =
      let p = held-faulty h in
      then-earlier (held_job j) w (λ z. p.1 (sym (ap (λ u. u.number) p.0) ∙ z)) ∙ p.0

  -- ---- the first of them

  pub fault-is : (e : Edit) {v : Verdict} → EditFault j e v → edit_verdict e j ≡ v
  unfolding edit_verdict
  fault-is (Add f) (held-job h) = held_first h _
  fault-is (Replace k f) (held-job h) = held_first h _
  fault-is (TakeOut k) (held-job h) = held_first h _
  fault-is (Add f) (no-such-face g h) = absurd h
  fault-is (Replace k f) (no-such-face g h) =
      past-held g _ ∙ ap (λ u. u or_then new_face (nat_abs k) f j or_then accepted) (missing k h)
  fault-is (TakeOut k) (no-such-face g h) = past-held g _ ∙ ap (λ u. u or_then only_face j or_then accepted)
      (missing k h)
  fault-is (Add f) (full-or-only g n h) =
      past-held g _ ∙ ap (λ u. u or_then new_face (j.faces.count + 1) f j or_then accepted) (is-full h)
  fault-is (Replace k f) (full-or-only g n h) = absurd h
  fault-is (TakeOut k) (full-or-only g n h) = past-held g _ ∙ past-there k n _
      ∙ ap (λ u. u or_then accepted) (is-only h)
  fault-is (Add f) (new-face k m g n h (p, q) s) =
      past-held g _ ∙ past-full h _ ∙ own (j.faces.count + 1) m f q s
      ∙ ap (λ i. refusal m (face_line (carried j) i)) (sym p)
  fault-is (Replace i f) (new-face k m g n h (p, q) s) =
      past-held g _ ∙ past-there i n _ ∙ own (nat_abs i) m f q s
      ∙ ap (λ z. refusal m (face_line (carried j) (nat_abs z))) (sym p)
  fault-is (TakeOut i) (new-face k m g n h p s) = absurd p

  -- ---- where it is refused, it has such a fault

  as-fault : (e : Edit) {v : Verdict} → EditFault j e v → EditFault j e (edit_verdict e j)
  as-fault e f = subst (EditFault j e) (sym (fault-is e f)) f

  -- the number asked for, and the number of faces
  by_number : {P : Type 0} (k : ℤ) → ((There j k → ⊥) → P) → (There j k → pos (nat_abs k) ≡ k → P) → P
  by_number k none some =
      by-test (beyond (pos 1) (pos j.faces.count) k)
      (λ t. none (λ i. clash t (is_within (pos 1) (pos j.faces.count) k i.0 i.1)))
      (λ t. some (not_beyond (pos 1) (pos j.faces.count) k t) (range.within 1 j.faces.count k t).plain)

  by_count : {P : Type 0} (m n : ℕ) → (n ≤ m → P) → ((n ≤ m → ⊥) → P) → P
  by_count m n most more =
      by-test (ltb m n) (λ t. more (λ h. absurd (omega (arith, ltb-true m n t)))) (λ t. most (ltb-false m n t))

  by-fault : {P : Type 0} (f : Face) → (face_fault j f ≡ 0 → P) → (0 < face_fault j f → P) → P
  by-fault f none some =
      by-test (eqb (face_fault j f) 0) (λ t. none (eqb-true (face_fault j f) 0 t))
      (λ t. let h = eqb-false (face_fault j f) 0 t in some (omega arith))

  -- the held job is in order
  behind : (e : Edit) → Fine → Refuses (edit_verdict e j) → EditFault j e (edit_verdict e j)
  unfolding edit_verdict
  behind (Add f) g r =
      by_count j.faces.count most (λ h. as-fault (Add f) (full-or-only g (λ x. x) h))
      (λ h. by-fault f
      (λ z. absurd (r (ap (λ v. v.number) (past-held g _ ∙ past-full h _ ∙ then-later (new_face _ f j) accepted z))))
      (λ s. as-fault (Add f) (new-face (j.faces.count + 1) (face_fault j f) g (λ x. x) h (refl, refl) s)))
  behind (Replace k f) g r =
      by_number k (λ h. as-fault (Replace k f) (no-such-face g h))
      (λ t plain. by-fault f
      (λ z.
      let none = past-held g _ ∙ past-there k (λ n. n t) _ ∙ then-later (new_face _ f j) accepted z in
      absurd (r (ap (λ v. v.number) none)))
      (λ s. as-fault (Replace k f) (new-face (nat_abs k) (face_fault j f) g (λ n. n t) (λ x. x) (plain, refl) s)))
  behind (TakeOut k) g r =
      by_number k (λ h. as-fault (TakeOut k) (no-such-face g h))
      (λ t plain. by_count 1 j.faces.count (λ h. as-fault (TakeOut k) (full-or-only g (λ n. n t) h))
      (λ h. absurd (r (ap (λ v. v.number) (past-held g _ ∙ past-there k (λ n. n t) _ ∙ past-only h _)))))

  fault-there : (e : Edit) → Refuses (edit_verdict e j) → EditFault j e (edit_verdict e j)
  fault-there e r =
      ⊎_elim (λ g. behind e g r) (λ f. as-fault e (held-job f.1)) (fault.faultless-or-faulty (lines_of (carried j)))

  -- so where there is none, it is accepted
  pub none_is : (e : Edit) → ((v : Verdict) → EditFault j e v → ⊥) → edit_verdict e j ≡ accepted
  none_is e h =
      verdict-accepted j e
      (by-test (eqb (edit_verdict e j).number 0) (λ t. eqb-true _ 0 t)
      (λ t. absurd (h (edit_verdict e j) (fault-there e (eqb-false _ 0 t)))))
