-- A sheet that was read into a lent list: refused, or the job that it carries.
use mathlib.Core.Path.{◌≡◌, sym, ap, ap₂, ◌∙◌, subst}
use mathlib.Core.List.{List}
use Prim.Native.Nat.{ℕ, ◌*◌, ◌≤◌}
use native.Mathlib.Omega.{arith}
use lib.IntN.{ℤ, pos}
use lib.ListN.{length}
use Rattle.std.specs.Prelude.{Result, Ok, Err}
use Rattle.whole.specs.Lists.{first_of}
use Rattle.whole.proofs.Lists.{first_of-get_d}
use Rattle.verdict.specs.declared.Verdict.{Verdict}
use Rattle.entry.specs.Flat.{per_face, flat_faces}
use Rattle.entry.proofs.Flat.{face-back}
use Rattle.job.specs.Carried.{Carried, carried, recorded, most_faces, no_face}
use Rattle.job.specs.InOrder.{InOrder}
use Rattle.job.specs.Walk.{Accepted}
use Rattle.job.proofs.Records.{in-order-recorded}
use Rattle.job.proofs.Room.{few-faces}
use Rattle.sheet.specs.declared.read.Head.{Head}
use Rattle.sheet.specs.Head.{head_of, head_in, flat_after}
use Rattle.sheet.specs.Sheet.{reading}
use Rattle.sheet.proofs.Answered.{head-accepted, head-refused}
use Rattle.sheet.proofs.FacesBack.{reading-in-order, small-zones}
use Rattle.worst.specs.declared.Six.{Six}
use Rattle.worst.specs.declared.Reckoning.{Reckoning}
use Rattle.worst.specs.Lent.{job_by}
use Rattle.worst.specs.Worst.{reckoned, six_extremes}
use Rattle.worst.proofs.LentFaces.{Laid, lent-carried}

-- the job that it carries, in order, with its faces in the list l if this has room for them
pub record Stands (s : List ℕ) (h : Head) (l : List ℤ) (room : ℕ) : Type 0 where
  pub carries : Carried
  pub reads : reading s ≡ Accepted carries
  pub in_order : InOrder carries
  pub head : h ≡ head_in carries
  pub same : per_face * h.faces ≤ room → carried (job_by h.setting h.faces l) ≡ carries
  pub few : h.faces ≤ most_faces

module _ (s : List ℕ) {r : Result Head Verdict} (e : r ≡ head_of (reading s)) where
  pub read-refused : {v : Verdict} → r ≡ Err v → ◌≡◌ {A = Result Reckoning Verdict} (Err v) (reckoned (reading s))
  read-refused is = ap reckoned (sym (head-refused (reading s) (sym e ∙ is)))

  pub read-stands : {h : Head} → r ≡ Ok h → (lent : List ℤ) {l : List ℤ} → l ≡ flat_after (reading s) lent
      → Stands s h l (length lent)
  unfolding recorded
  read-stands {h} is lent {l} q =
      record {
        carries = c;
        reads = a.1;
        in_order = o;
        head = a.2;
        same = same;
        few = subst (λ (k : Head). k.faces ≤ most_faces) (sym a.2) (few-faces c o);
      }
    where
      a : (c : Carried) × (reading s ≡ Accepted c) × (h ≡ head_in c)
      a = head-accepted (reading s) (sym e ∙ is)

      c : Carried
      c = a.0

      o : InOrder c
      o = reading-in-order s c a.1

      list : l ≡ first_of (pos 0) (length lent) (flat_faces c.faces)
      list = q ∙ ap (λ r. flat_after r lent) a.1

      laid : per_face * length c.faces ≤ length lent
          → Laid (recorded c).faces (first_of (pos 0) (length lent) (flat_faces c.faces))
      laid room i t =
          face-back c.faces (small-zones c o) (length lent) room no_face i t
          ∙ sym (first_of-get_d no_face most_faces i c.faces (omega (arith, few-faces c o)))

      same : per_face * h.faces ≤ length lent → carried (job_by h.setting h.faces l) ≡ c
      same room =
          let n : h.faces ≡ length c.faces = ap (λ (k : Head). k.faces) a.2 in
          (λ i. carried (job_by (a.2 i).setting (a.2 i).faces (list i)))
          ∙ lent-carried (recorded c) (first_of (pos 0) (length lent) (flat_faces c.faces)) (laid (omega (arith, n)))
          ∙ in-order-recorded c o

-- where the list has room for its faces, what is reckoned of it is what is reckoned of what was read
module _ {s : List ℕ} {h : Head} {l : List ℤ} {room : ℕ} (t : Stands s h l room)
    (fits : per_face * h.faces ≤ room) where
  pub stands-in-order : InOrder (carried (job_by h.setting h.faces l))
  stands-in-order = subst InOrder (sym (t.same fits)) t.in_order

  pub stands-reckoned : {year : ℤ} → year ≡ h.setting.year → {six : Six}
      → six ≡ six_extremes (carried (job_by h.setting h.faces l))
      → ◌≡◌ {A = Result Reckoning Verdict} (Ok (record { year = year; six = six })) (reckoned (reading s))
  unfolding recorded
  stands-reckoned y x =
      ap₂ told (y ∙ ap (λ (k : Head). k.setting.year) t.head) (x ∙ ap six_extremes (t.same fits))
      ∙ ap reckoned (sym t.reads)
    where
      told : ℤ → Six → Result Reckoning Verdict
      told year six = Ok (record { year = year; six = six })
