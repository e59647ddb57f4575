-- `read_sheet` meets its contract: the numbers that were read give the faces back, and these the record.
use Prim.Native.Nat.{ℕ, ◌*◌, ◌≤◌}
use mathlib.Core.Path.{◌≡◌, sym, ap, ◌∙◌}
use mathlib.Core.List.{List, []}
use native.Mathlib.Omega.{arith}
use lib.IntN.{ℤ, pos}
use lib.ListN.{length, replicate, length-replicate}
use Rattle.whole.specs.Lists.{first_of}
use Rattle.verdict.specs.Verdict.{accepted}
use Rattle.entry.specs.declared.Face.{Face}
use Rattle.entry.specs.Flat.{per_face, faces_in, flat_faces}
use Rattle.entry.proofs.Flat.{faces-none}
use Rattle.job.specs.declared.Faces.{Faces}
use Rattle.job.specs.Carried.{Carried, no_face, most_faces, recorded, no_job}
use Rattle.job.specs.Setting.{record_with}
use Rattle.job.specs.Walk.{Accepted}
use Rattle.sheet.specs.declared.read.Head.{Head}
use Rattle.sheet.specs.Head.{head_in, flat_after}
use Rattle.sheet.specs.Sheet.{reading, answer}
use Rattle.sheet.proofs.Answered.{head-accepted, head-refused}
use Rattle.sheet.proofs.FacesBack.{faces-read, few-read, recorded-parts}
use Rattle.sheet.proofs.read.read_sheet.Goals.{In-Ok}
use Rattle.sheet.proofs.read.read_sheet.Goals as goal

abbrev zeros : List ℤ
zeros = replicate 1440 (pos 0)

-- a record with these faces
abbrev faces_of : List Face → ℕ → Faces
faces_of fs n = record { count = n; entry = first_of no_face most_faces fs }

-- what was accepted
module _ (c : In-Ok) where
  told : (d : Carried) × (reading c.args.s.now ≡ Accepted d) × (c.in-Ok.head ≡ head_in d)
  told = head-accepted (reading c.args.s.now) (sym c.read_into.ensures.0 ∙ c.in-Ok.is)

pub faces_in-requires : goal.faces_in-requires
faces_in-requires c =
    let t = told (goal.at.faces_in-requires c).In-Ok in
    let n = ap (λ (h : Head). h.faces) t.2 in
    omega (arith, n, few-read c.args.s.now t.0 t.1)

pub returns-in-Ok : goal.returns-in-Ok
returns-in-Ok c =
    let s = c.args.s.now in
    let t = told (goal.at.returns-in-Ok c).In-Ok in
    let fs = t.0.faces in
    let head = t.2 in
    let list : c.read_into.new.flat ≡ first_of (pos 0) (length zeros) (flat_faces fs) =
    c.read_into.ensures.1 ∙ ap (λ r. flat_after r zeros) t.1 in
    let room : per_face * length fs ≤ length zeros =
    omega (arith, few-read s t.0 t.1, length-replicate 1440 (pos 0)) in
    let faces : c.faces_in.result ≡ faces_of fs (length fs) =
    c.faces_in.ensures
    ∙ (λ i. faces_of (faces_in (head i).faces (list i)) (head i).faces)
    ∙ ap (λ (l : List Face). faces_of l (length fs)) (faces-read s t.0 t.1 (length zeros) room) in
    let job : c.with_faces-job.result ≡ recorded t.0 =
    c.with_faces-job.ensures ∙ (λ i. record_with (head i).setting (faces i)) ∙ sym (recorded-parts t.0) in
    (λ i. record { verdict = accepted; job = job i }) ∙ sym (ap answer t.1)

pub returns-in-Err : goal.returns-in-Err
unfolding recorded
returns-in-Err c =
    let refused = head-refused (reading c.args.s.now) (sym c.read_into.ensures.0 ∙ c.in-Err.is) in
    let faces : c.faces_in-in-Err.result ≡ faces_of [] 0 =
    c.faces_in-in-Err.ensures ∙ ap (λ (l : List Face). faces_of l 0) (faces-none c.read_into.new.flat) in
    let job : c.with_faces-job-in-Err.result ≡ no_job =
    c.with_faces-job-in-Err.ensures ∙ (λ i. record_with (c.no_setting.ensures i) (faces i)) in
    (λ i. record { verdict = c.in-Err.v; job = job i }) ∙ sym (ap answer refused)
