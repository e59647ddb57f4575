-- One line for each public function that is lent a buffer and may refuse: "A refused call changes no byte of any
-- buffer."
use mathlib.Core.Path.{◌≡◌, refl, sym, ap, subst, ◌∙◌}
use mathlib.Core.Bool.{Bool, true, false, cond, true≢false}
use mathlib.Core.List.{List, [], ◌∷◌, ◌++◌}
use Prim.Native.Nat.{ℕ, zero, suc}
use lib.Dec.{leb, eqb}
use lib.IntN.{ℤ, pos}
use lib.ListN.{length, take, drop, replicate}
use Rattle.std.specs.Prelude.{Result, Ok, Err, IsErr}
use Rattle.claims.specs.Contract.{RefusedUnchanged, RefusedCleared, IsRefused}
use Rattle.claims.proofs.Contracts as of
use Rattle.verdict.specs.declared.Verdict.{Verdict}
use Rattle.verdict.specs.Verdict.{accepted, refusal, Refuses}
use Rattle.whole.specs.Lists.{first_of}
use Rattle.whole.proofs.Tests.{by-test}
use Rattle.entry.specs.Flat.{flat_faces}
use Rattle.page.specs.Writing.{Writing, writing, buffer_after}
use Rattle.sharing.specs.Column.{column, sharing}
use Rattle.sharing.proofs.Entries.{column-length}
use Rattle.whole.specs.Digits.{decimal}
use Rattle.job.specs.Carried.{Carried}
use Rattle.job.specs.Walk.{Reading, Accepted, Refused, judged}
use Rattle.sheet.specs.Sheet.{reading, sheet_text, job_writing, job_buffer}
use Rattle.sheet.specs.declared.read.Head.{Head}
use Rattle.sheet.specs.Head.{head_of, flat_after}
use Rattle.mend.specs.declared.Mending.{Mending}
use Rattle.mend.specs.Mending.{room_for, has_room, mending_of, text_after, list_after}
use Rattle.plain.specs.Plain.{plainly}
use Rattle.report.specs.Report.{report_text, stored_text, totals_text}
use Rattle.answers.specs.declared.Text.{Text}
use Rattle.answers.specs.Answers.{host_text, host_total}
use Rattle.job.specs.Setting.{record_with}
use Rattle.column.specs.Setting.{judged_with}
use Rattle.column.specs.Column.{forces_on, column_verdict, column_after}

-- nothing but zeros
flat-none : (n : ℕ) → first_of (pos 0) n (flat_faces []) ≡ replicate n (pos 0)
unfolding flat_faces first_of
flat-none zero = refl
flat-none (suc n) = ap (λ l. pos 0 ∷ l) (flat-none n)

flat-cleared : (x : Reading) (lent : List ℤ) → IsErr (head_of x) → flat_after x lent ≡ replicate (length lent) (pos 0)
flat-cleared (Accepted c) lent h = absurd (true≢false (sym h))
flat-cleared (Refused v) lent h = flat-none (length lent)

-- ---- whatever text is put into a buffer, and whatever text about a job

module _ (text buf : List ℕ) where
  put-kept : IsRefused (writing text buf) → buffer_after text buf ≡ buf
  put-kept = go (leb (length text) (length buf))
    where
      go : (t : Bool) → IsRefused (cond t (Ok (length text)) (Err (refusal 7 0)))
          → cond t (text ++ drop (length text) buf) buf ≡ buf
      go true h = absurd h
      go false h = refl

  text-kept : {r : Writing} {after : List ℕ} → (r ≡ writing text buf) × (after ≡ buffer_after text buf) → IsRefused r
      → after ≡ buf
  text-kept p h = p.1 ∙ put-kept (subst IsRefused p.0 h)

module _ (text : Carried → List ℕ) (x : Reading) (buf : List ℕ) where
  put-job-kept : (x : Reading) → IsRefused (job_writing text x buf) → job_buffer text x buf ≡ buf
  put-job-kept (Accepted c) h = put-kept (text c) buf h
  put-job-kept (Refused v) h = refl

  job-kept : {r : Writing} {after : List ℕ} → (r ≡ job_writing text x buf) × (after ≡ job_buffer text x buf)
      → IsRefused r → after ≡ buf
  job-kept p h = p.1 ∙ put-job-kept x (subst IsRefused p.0 h)

-- so too from C, where a refusal is told by its verdict
host-refused : {t : Text} (w : Writing) → t ≡ host_text w → Refuses t.verdict → IsRefused w
host-refused (Ok n) e h = absurd (h (ap (λ x. x.verdict.number) e))
host-refused (Err v) e h = tt

-- a column of newtons goes into a list of signed numbers
share-kept : (fs old : List ℤ) {r : Verdict} {after : List ℤ}
    → (r ≡ sharing fs old) × (after ≡ buffer_after (column fs) old) → Refuses r → after ≡ old
share-kept fs old p h =
    p.1 ∙ ap (λ n. laid (leb n (length old))) (column-length fs)
    ∙ go (leb (length fs) (length old)) (subst Refuses p.0 h)
  where
    laid : Bool → List ℤ
    laid t = cond t (column fs ++ drop (length (column fs)) old) old

    go : (t : Bool) → Refuses (cond t accepted (refusal 7 0)) → laid t ≡ old
    go true h = absurd (h refl)
    go false h = refl

column-kept : (x : Reading) (line : ℤ) (old : List ℤ) {r : Verdict} {after : List ℤ}
    → (r ≡ column_verdict x line old) × (after ≡ column_after x line old) → Refuses r → after ≡ old
unfolding column_verdict column_after
column-kept x line old {r} {after} p h = go (eqb (host_total x line).verdict.number 0) refl p.0 p.1
  where
    go : (t : Bool) → eqb (host_total x line).verdict.number 0 ≡ t
        → r ≡ cond t (sharing (forces_on line x) old) (host_total x line).verdict
        → after ≡ cond t (buffer_after (column (forces_on line x)) old) old → after ≡ old
    go true e q b = share-kept (forces_on line x) old (q, b) h
    go false e q b = b

-- ---- a text and a list put into two buffers

module _ (text out list : List ℕ) where
  both-kept : {r : Mending} {out' list' : List ℕ}
      → (r ≡ mending_of text out list) × (out' ≡ text_after text out list) × (list' ≡ list_after text out list)
      → Refuses r.verdict → ◌≡◌ {A = List ℕ × List ℕ} (out', list') (out, list)
  both-kept {r} {out'} {list'} p h =
      by-test (room_for text out list)
      (λ t.
      let e : r ≡ has_room text = p.0 ∙ rw t in
      absurd (h (ap (λ (m : Mending). m.verdict.number) e)))
      (λ t.
      let o : out' ≡ out = p.1 ∙ rw t in
      let l : list' ≡ list = p.2 ∙ rw t in
      λ i. (o i, l i))

-- ---- the list

emit-unchanged : RefusedUnchanged of.emit.Post (λ κ r. IsRefused r) (λ κ a. a.1.1.0.now)
    (λ κ s. s.1.1.0.now)
emit-unchanged κ a r s p h = text-kept (take a.1.0 a.0.now) a.1.1.0.now p h

share-unchanged : RefusedUnchanged of.share.Post (λ κ r. Refuses r) (λ κ a. a.1.0.now) (λ κ s. s.1.0.now)
share-unchanged κ a r s p h = share-kept a.0.now a.1.0.now p h

write-decimal-unchanged : RefusedUnchanged of.write-decimal.Post (λ κ r. IsRefused r) (λ κ a. a.1.0.now)
    (λ κ s. s.1.0.now)
write-decimal-unchanged κ a r s p h = text-kept (decimal a.0) a.1.0.now p h

mend-unchanged : RefusedUnchanged of.mend.Post {B = List ℕ × List ℕ} (λ κ r. Refuses r.verdict)
    (λ κ a. (a.1.0.now, a.1.1.0.now)) (λ κ s. (s.1.0.now, s.1.1.0.now))
mend-unchanged κ a r s p h = both-kept a.0.now a.1.0.now a.1.1.0.now p h

write-sheet-unchanged : RefusedUnchanged of.write-sheet.Post (λ κ r. IsRefused r) (λ κ a. a.1.0.now)
    (λ κ s. s.1.0.now)
write-sheet-unchanged κ a r s p h = job-kept sheet_text (judged a.0) a.1.0.now p h

-- the numbers of the faces are lent to the reader by the engine, never by a host
read-into-cleared : RefusedCleared of.read-into.Post (λ κ r. IsErr r) (λ κ a. a.1.0.now) (λ κ s. s.1.0.now)
read-into-cleared κ a r s p h =
    p.1
    ∙ flat-cleared (reading a.0.now) a.1.0.now (subst (λ (q : Result Head Verdict). IsErr q) p.0 h)

write-report-unchanged : RefusedUnchanged of.write-report.Post (λ κ r. IsRefused r) (λ κ a. a.1.0.now)
    (λ κ s. s.1.0.now)
write-report-unchanged κ a r s p h = job-kept report_text (judged a.0) a.1.0.now p h

write-read-unchanged : RefusedUnchanged of.write-read.Post (λ κ r. IsRefused r) (λ κ a. a.1.0.now)
    (λ κ s. s.1.0.now)
write-read-unchanged κ a r s p h = job-kept report_text (reading a.0.now) a.1.0.now p h

write-plain-unchanged : RefusedUnchanged of.write-plain.Post (λ κ r. IsRefused r) (λ κ a. a.1.0.now)
    (λ κ s. s.1.0.now)
write-plain-unchanged κ a r s p h = job-kept report_text (plainly (judged a.0)) a.1.0.now p h

write-stored-unchanged : RefusedUnchanged of.write-stored.Post (λ κ r. IsRefused r) (λ κ a. a.1.1.0.now)
    (λ κ s. s.1.1.0.now)
write-stored-unchanged κ a r s p h = job-kept (stored_text a.1.0) (judged a.0) a.1.1.0.now p h

write-totals-unchanged : RefusedUnchanged of.write-totals.Post (λ κ r. IsRefused r) (λ κ a. a.1.0.now)
    (λ κ s. s.1.0.now)
write-totals-unchanged κ a r s p h = text-kept (totals_text (reading a.0.now)) a.1.0.now p h

aral-rewrite-unchanged : RefusedUnchanged of.aral-rewrite.Post (λ κ r. Refuses r.verdict) (λ κ a. a.1.0.now)
    (λ κ s. s.1.0.now)
aral-rewrite-unchanged κ a r s p h =
    let w = job_writing sheet_text (reading a.0.now) a.1.0.now in
    job-kept sheet_text (reading a.0.now) a.1.0.now (refl, p.1) (host-refused w p.0 h)

aral-report-unchanged : RefusedUnchanged of.aral-report.Post (λ κ r. Refuses r.verdict) (λ κ a. a.1.0.now)
    (λ κ s. s.1.0.now)
aral-report-unchanged κ a r s p h =
    let w = job_writing report_text (reading a.0.now) a.1.0.now in
    job-kept report_text (reading a.0.now) a.1.0.now (refl, p.1) (host-refused w p.0 h)

aral-plain-unchanged : RefusedUnchanged of.aral-plain.Post (λ κ r. Refuses r.verdict) (λ κ a. a.1.0.now)
    (λ κ s. s.1.0.now)
aral-plain-unchanged κ a r s p h =
    let x = plainly (reading a.0.now) in
    let w = job_writing report_text x a.1.0.now in
    job-kept report_text x a.1.0.now (refl, p.1) (host-refused w p.0 h)

aral-mend-unchanged : RefusedUnchanged of.aral-mend.Post {B = List ℕ × List ℕ} (λ κ r. Refuses r.verdict)
    (λ κ a. (a.1.0.now, a.1.1.0.now)) (λ κ s. (s.1.0.now, s.1.1.0.now))
aral-mend-unchanged κ a r s p h = both-kept a.0.now a.1.0.now a.1.1.0.now p h

aral-show-unchanged : RefusedUnchanged of.aral-show.Post (λ κ r. Refuses r.verdict) (λ κ a. a.1.0.now)
    (λ κ s. s.1.0.now)
aral-show-unchanged κ a r s p h =
    let text = stored_text a.0.sums in
    let w = job_writing text (judged a.0.job) a.1.0.now in
    job-kept text (judged a.0.job) a.1.0.now (refl, p.1) (host-refused w p.0 h)

aral-write-unchanged : RefusedUnchanged of.aral-write.Post (λ κ r. Refuses r.verdict) (λ κ a. a.1.0.now)
    (λ κ s. s.1.0.now)
aral-write-unchanged κ a r s p h =
    let w = job_writing sheet_text (judged a.0.job) a.1.0.now in
    job-kept sheet_text (judged a.0.job) a.1.0.now (refl, p.1) (host-refused w p.0 h)

aral-digits-unchanged : RefusedUnchanged of.aral-digits.Post (λ κ r. Refuses r.verdict) (λ κ a. a.1.0.now)
    (λ κ s. s.1.0.now)
aral-digits-unchanged κ a r s p h =
    let w = writing (decimal a.0) a.1.0.now in
    text-kept (decimal a.0) a.1.0.now (refl, p.1) (host-refused w p.0 h)

unkept-show-unchanged : RefusedUnchanged of.unkept-show.Post (λ κ r. Refuses r.verdict) (λ κ a. a.1.0.now)
    (λ κ s. s.1.0.now)
unkept-show-unchanged κ a r s p h =
    let w = job_writing report_text (judged a.0) a.1.0.now in
    job-kept report_text (judged a.0) a.1.0.now (refl, p.1) (host-refused w p.0 h)

column-of-unchanged : RefusedUnchanged of.column-of.Post (λ κ r. Refuses r) (λ κ a. a.1.1.0.now)
    (λ κ s. s.1.1.0.now)
column-of-unchanged κ a r s p h = column-kept (judged a.0) a.1.0 a.1.1.0.now p h

column-in-unchanged : RefusedUnchanged of.column-in.Post (λ κ r. Refuses r) (λ κ a. a.1.1.1.0.now)
    (λ κ s. s.1.1.1.0.now)
column-in-unchanged κ a r s p h =
    column-kept (judged (record_with a.0 a.1.0)) a.1.1.0 a.1.1.1.0.now p h

aral-column-unchanged : RefusedUnchanged of.aral-column.Post (λ κ r. Refuses r) (λ κ a. a.1.1.1.0.now)
    (λ κ s. s.1.1.1.0.now)
aral-column-unchanged κ a r s p h =
    column-kept (judged_with a.0 a.1.0.now) a.1.1.0 a.1.1.1.0.now p h
