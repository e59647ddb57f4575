-- Item 8 of paper 02: the plain engine.
use mathlib.Core.Path.{◌≡◌, refl, sym, ap, ◌∙◌}
use mathlib.Core.Logic.{⊎_elim}
use mathlib.Core.Bool.{Bool, true, false, cond, true≢false, ◌||◌}
use mathlib.Core.List.Memᴰ
use mathlib.Core.List.{List, [], ◌∷◌, Memᴰ}
use Prim.Native.Nat.{ℕ, ◌≤◌, ◌<◌}
use borrow.Author.Tests.{eq-eqb, eqb-true, le-leb, lt-leb}
use lib.Dec.{leb}
use lib.ListN.{length}
use Rattle.std.specs.Prelude.{Err, IsOk}
use Rattle.std.specs.Result.{is_ok}
use Rattle.whole.proofs.Tests.{or-true}
use Rattle.verdict.specs.Verdict.{refusal}
use Rattle.entry.specs.declared.Wind.{Wind}
use Rattle.entry.specs.declared.Face.{Face}
use Rattle.job.specs.declared.Job.{Job}
use Rattle.job.specs.Carried.{carried}
use Rattle.job.specs.Lines.{lines_of}
use Rattle.job.specs.Walk.{Reading, Accepted, Refused, judged}
use Rattle.sheet.specs.Sheet.{reading, job_writing, job_buffer}
use Rattle.worst.specs.Forces.{Given, alternatives}
use Rattle.worst.specs.Worst.{given, reckoned, worst_of}
use Rattle.report.specs.Report.{report_text}
use Rattle.answers.specs.declared.Text.{Text}
use Rattle.answers.specs.Answers.{host_text}
use Rattle.plain.specs.Plain.{any_of, two_somewhere, faces_with_two, plainly, plain_of}
use Rattle.claims.specs.Contract.{Always}
use Rattle.claims.specs.Fault.{Faultless, GetsFault}
use Rattle.claims.proofs.Contracts as of
use Rattle.claims.proofs.Fault as fault

-- ---- the statements

-- "must give the same six lines as the first engine on every job it takes"
abbrev pub SameSixLines : Type 0
SameSixLines = Always of.worst-cases.Post (λ κ a r s. Always of.plain-cases.Post (λ κ' b q t.
    a.0 ≡ b.0 → IsOk q → q ≡ r))

-- and so for a host in C: on every sheet that is not refused with 10 both answer the same, with the same bytes
abbrev pub SameText : Type 0
SameText = Always of.aral-report.Post (λ κ a r s. Always of.aral-plain.Post (λ κ' b q t.
    a.0.now ≡ b.0.now → a.1.0.now ≡ b.1.0.now → (q.verdict.number ≡ 10 → ⊥)
    → (q ≡ r) × (t.1.0.now ≡ s.1.0.now)))

-- "for jobs with at most 8 faces that have two alternatives under at least one of their winds": how many a job has
abbrev pub with_two : Job → ℕ
with_two j = faces_with_two (given (carried j))

pub record TakesFew : Type 0 where
  -- a job in order with at most 8 is taken
  pub few : Always of.plain-cases.Post (λ κ a r s. Faultless (lines_of (carried a.0)) → with_two a.0 ≤ 8
      → IsOk r)
  -- "Refusals: more such faces 10, line 0, after the job's own": and there is no other result then
  pub own : GetsFault of.plain-cases.Post (λ κ a. lines_of (carried a.0))
      (λ κ a v. Err v)
  pub more : Always of.plain-cases.Post (λ κ a r s. Faultless (lines_of (carried a.0)) → 8 < with_two a.0
      → r ≡ Err (refusal 10 0))

-- a face is counted exactly if it "has two alternatives under at least one of" the winds
pub record CountsTwo : Type 0 where
  pub counted : (g : Given) (f : Face) (w : Wind) → Memᴰ w g.winds → length (alternatives g w f) ≡ 2
      → two_somewhere g f ≡ true
  pub only : (g : Given) (f : Face) → two_somewhere g f ≡ true
      → (w : Wind) × Memᴰ w g.winds × (length (alternatives g w f) ≡ 2)

-- ---- the proofs

-- what is accepted is reckoned as it is
taken : (r : Reading) → IsOk (reckoned (plainly r)) → reckoned (plainly r) ≡ reckoned r
taken (Refused v) e = refl
taken (Accepted c) e = go (leb (faces_with_two (given c)) 8) e
  where
    go : (t : Bool) → IsOk (reckoned (cond t (Accepted c) (Refused (refusal 10 0))))
        → reckoned (cond t (Accepted c) (Refused (refusal 10 0))) ≡ reckoned (Accepted c)
    go true h = refl
    go false h = absurd (true≢false (sym h))

same : (j : Job) → IsOk (plain_of j) → plain_of j ≡ worst_of j
unfolding plain_of worst_of
same j = taken (judged j)

pub same-six-lines : SameSixLines
same-six-lines κ a r s p κ' b q t h e v =
    let plain = h ∙ ap plain_of (sym e) in
    plain ∙ same a.0 (sym (ap is_ok plain) ∙ v) ∙ sym p

-- what is not refused with 10 is read as it is
read-plainly : (x : Reading) (buf : List ℕ)
    → ((host_text (job_writing report_text (plainly x) buf)).verdict.number ≡ 10 → ⊥) → plainly x ≡ x
read-plainly (Refused v) buf h = refl
read-plainly (Accepted c) buf h = go (leb (faces_with_two (given c)) 8) h
  where
    go : (t : Bool)
        → let x = cond t (Accepted c) (Refused (refusal 10 0)) in
        ((host_text (job_writing report_text x buf)).verdict.number ≡ 10 → ⊥)
        → cond t (Accepted c) (Refused (refusal 10 0)) ≡ Accepted c
    go true k = refl
    go false k = absurd (k refl)

pub same_text : SameText
same_text κ a r s p κ' b q t h same buffer ten =
    let x = reading b.0.now in
    let buf = b.1.0.now in
    let is = read-plainly x buf (λ e. ten (ap (λ (y : Text). y.verdict.number) h.0 ∙ e)) in
    let one : plainly x ≡ reading a.0.now = is ∙ ap reading (sym same) in (
      h.0 ∙ (λ i. host_text (job_writing report_text (one i) (sym buffer i))) ∙ sym p.0,
      h.1 ∙ (λ i. job_buffer report_text (one i) (sym buffer i)) ∙ sym p.1,
    )

-- by what a job is judged, and whether few of its faces have two
judged-plain : (j : Job) (r : Reading) → judged j ≡ r → plain_of j ≡ reckoned (plainly r)
unfolding plain_of
judged-plain j r e = ap (λ x. reckoned (plainly x)) e

in_order : (j : Job) (t : Bool) → Faultless (lines_of (carried j)) → leb (with_two j) 8 ≡ t
    → plain_of j ≡ reckoned (cond t (Accepted (carried j)) (Refused (refusal 10 0)))
in_order j t f e =
    judged-plain j (Accepted (carried j)) (fault.job-faultless j f)
    ∙ ap (λ k. reckoned (cond k (Accepted (carried j)) (Refused (refusal 10 0)))) e

pub takes-few : TakesFew
takes-few =
    record {
      few = λ κ a r s p f h.
          ap is_ok (p ∙ in_order a.0 true f (le-leb (with_two a.0) 8 h));
      own = λ κ a r s p v f. p ∙ judged-plain a.0 (Refused v) (fault.job-faulty a.0 f);
      more = λ κ a r s p f h. p ∙ in_order a.0 false f (lt-leb (with_two a.0) 8 h);
    }

module _ {A : Type 0} (has : A → Bool) where
  any_here : {x : A} (l : List A) → Memᴰ x l → has x ≡ true → any_of has l ≡ true
  unfolding any_of
  any_here [] m e = absurd (Memᴰ.not-nil m)
  any_here {x} (y ∷ l) m e =
      ⊎_elim (λ q. or_left (has y) (any_of has l) (ap has (sym q) ∙ e)) (λ n. or_right (has y) (any_here l n e))
      (Memᴰ.cases_cons m)
    where
      or_left : (t u : Bool) → t ≡ true → (t || u) ≡ true
      or_left t u h = rw h

      or_right : (t : Bool) {u : Bool} → u ≡ true → (t || u) ≡ true
      or_right true h = refl
      or_right false h = h

  any_told : (l : List A) → any_of has l ≡ true → (x : A) × Memᴰ x l × (has x ≡ true)
  unfolding any_of
  any_told [] e = absurd (true≢false (sym e))
  any_told (y ∷ l) e =
      ⊎_elim (λ h. (y, Memᴰ.head refl, h)) (λ h. later (any_told l h)) (or-true (has y) (any_of has l) e)
    where
      later : (x : A) × Memᴰ x l × (has x ≡ true) → (x : A) × Memᴰ x (y ∷ l) × (has x ≡ true)
      later r = (r.0, Memᴰ.tail r.1, r.2)

pub counts-two : CountsTwo
counts-two =
    record {
      counted = λ g f w m e. any_here _ g.winds m (eq-eqb _ 2 e);
      only = λ g f e.
          let r = any_told _ g.winds e in
          (r.0, r.1, eqb-true _ 2 r.2);
    }
