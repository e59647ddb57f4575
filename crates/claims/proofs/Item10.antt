-- Item 10 of paper 02: sheets mended.
use mathlib.Core.Path.{◌≡◌, sym, ap, ◌∙◌}
use mathlib.Core.Logic.{◌⊎◌, inl, inr}
use mathlib.Core.Bool.{true, false}
use mathlib.Core.Bool as bool
use mathlib.Core.List.{List, []}
use Prim.Native.Nat.{ℕ, ◌*◌, ◌≤◌, ◌<◌}
use native.Mathlib.Omega.{arith}
use borrow.Author.Tests.{le-leb, lt-leb}
use lib.Dec.{leb}
use lib.ListN.{length, drop}
use Rattle.whole.specs.Lists.{Every}
use Rattle.verdict.specs.Verdict.{accepted}
use Rattle.lines.specs.Lines.{lines_in, NotBad}
use Rattle.job.specs.Carried.{Carried}
use Rattle.job.specs.Walk.{Accepted, verdict}
use Rattle.sheet.specs.Sheet.{reading}
use Rattle.mend.specs.declared.Mending.{Mending}
use Rattle.mend.specs.Mended.{ended, mended}
use Rattle.mend.specs.Changes.{Change, changes, as_numbers}
use Rattle.mend.specs.Mending.{room_for, no_room}
use Rattle.mend.specs.Told.{PlacesRise, Tells, unnamed}
use Rattle.mend.specs.Restored.{restored}
use Rattle.mend.proofs.Counted.{numbers-length}
use Rattle.mend.proofs.Again.{mended-again}
use Rattle.mend.proofs.Untouched.{in-form-unchanged, accepted-unchanged}
use Rattle.mend.proofs.Places.{places-rise}
use Rattle.mend.proofs.Telling.{changes-tell, mended-unnamed}
use Rattle.mend.proofs.Restoring.{restored-received}
use Rattle.claims.specs.Contract.{Always}
use Rattle.claims.specs.Mended.{text_in, list_in}
use Rattle.claims.proofs.Contracts as of
use Rattle.claims.proofs.Mended as got

-- ---- the statements

-- what holds of the text received, the mended text and the list, where the call is not refused
abbrev pub Mends : (List ℕ → List ℕ → List Change → Type 0) → Type 0
Mends So = Always of.aral-mend.Post (λ κ a r s. r.verdict ≡ accepted
    → So a.0.now (text_in r s.1.0.now) (list_in r s.1.1.0.now))

-- "It takes out, in this order, every carriage return; ..": the four passes, and the end
abbrev pub TakesOut : Type 0
TakesOut = Mends (λ received text list. (text ≡ mended received) × (list ≡ changes received))

-- "list each byte taken out or added, in the order received: line, kind, and place in the line received, from 1 (an
-- added end stands one past the last byte)": each change stands at its byte, and before all that follow it
abbrev pub ListsInOrder : Type 0
ListsInOrder = Mends (λ received text list. Every (Tells received) list × PlacesRise list)

-- "It changes nothing else": the text is the one received without the bytes that the list names, and with its end
abbrev pub ChangesNothingElse : Type 0
ChangesNothingElse = Mends (λ received text list. text ≡ ended (unnamed list 1 1 received))

-- nor anything in the buffers behind them
abbrev pub LeavesTheRest : Type 0
LeavesTheRest = Always of.aral-mend.Post (λ κ a r s. r.verdict ≡ accepted
    → (drop r.length s.1.0.now ≡ drop r.length a.1.0.now)
    × (drop (3 * r.changes) s.1.1.0.now ≡ drop (3 * r.changes) a.1.1.0.now))

-- and text and list are enough to undo it, byte for byte
abbrev pub CanBeUndone : Type 0
CanBeUndone = Mends (λ received text list. restored text list ≡ received)

-- "a mended sheet mended again, or a sheet that was in form, is the same with an empty list"
abbrev pub Same : List ℕ → List ℕ → List Change → Type 0
Same received text list = (text ≡ received) × (list ≡ [])

pub record StaysMended : Type 0 where
  pub again : Always of.aral-mend.Post (λ κ a r s. r.verdict ≡ accepted
      → Mends (λ received text list. received ≡ text_in r s.1.0.now → Same received text list))
  pub form : Mends (λ received text list. Every (Every NotBad) (lines_in received) → Same received text list)
  pub sheet : Mends (λ received text list. (c : Carried) → reading received ≡ Accepted c → Same received text list)

-- "If the mended text is still refused, it stands and its refusal is given beside the list": what reading it answers
abbrev pub RefusalBeside : Type 0
RefusalBeside = Always of.aral-mend.Post (λ κ a r s. r.verdict ≡ accepted
    → Always of.aral-read.Post (λ κ' b v t. b.0.now ≡ text_in r s.1.0.now → r.refused ≡ v))

-- "Refusals: 7 if the text or the list has no room, with both buffers as before"; and no other
pub record RefusedForRoom : Type 0 where
  pub short : Always of.aral-mend.Post (λ κ a r s.
      (length a.1.0.now < length (mended a.0.now))
      ⊎ (length a.1.1.0.now < 3 * length (changes a.0.now))
      → (r ≡ no_room) × (s.1.0.now ≡ a.1.0.now) × (s.1.1.0.now ≡ a.1.1.0.now))
  pub room : Always of.aral-mend.Post (λ κ a r s. length (mended a.0.now) ≤ length a.1.0.now
      → 3 * length (changes a.0.now) ≤ length a.1.1.0.now → r.verdict ≡ accepted)

-- ---- the proofs

pub takes_out : TakesOut
takes_out κ a r s p v = got.as-defined a.0.now a.1.0.now a.1.1.0.now p v

-- the others are laws of the definitions
pub lists-in-order : ListsInOrder
lists-in-order κ a r s p v =
    rw (takes_out κ a r s p v).1 (changes-tell a.0.now, places-rise a.0.now)

pub changes-nothing-else : ChangesNothingElse
changes-nothing-else κ a r s p v = let e = takes_out κ a r s p v in rw (e.0, e.1) (mended-unnamed a.0.now)

pub leaves-the-rest : LeavesTheRest
leaves-the-rest κ a r s p v = got.rest-is a.0.now a.1.0.now a.1.1.0.now p v

pub can-be-undone : CanBeUndone
can-be-undone κ a r s p v = let e = takes_out κ a r s p v in rw (e.0, e.1) (restored-received a.0.now)

pub stays-mended : StaysMended
stays-mended =
    record {
      again = λ κ a r s p v κ' b q t h w same.
          let e = takes_out κ' b q t h w in
          let m : b.0.now ≡ mended a.0.now = same ∙ (takes_out κ a r s p v).0 in
          let k = mended-again a.0.now in
          (e.0 ∙ ap mended m ∙ k.0 ∙ sym m, e.1 ∙ ap changes m ∙ k.1);
      form = λ κ a r s p v h.
          let e = takes_out κ a r s p v in
          let k = in-form-unchanged a.0.now h in
          (e.0 ∙ k.0, e.1 ∙ k.1);
      sheet = λ κ a r s p v c h.
          let e = takes_out κ a r s p v in
          let k = accepted-unchanged a.0.now c h in
          (e.0 ∙ k.0, e.1 ∙ k.1);
    }

pub refusal-beside : RefusalBeside
refusal-beside κ a r s p v κ' b w t q e =
    ap (λ (m : Mending). m.refused) (got.answer-is a.0.now a.1.0.now a.1.1.0.now p v)
    ∙ ap (λ (x : List ℕ). verdict (reading x)) (sym (e ∙ (takes_out κ a r s p v).0))
    ∙ sym q

module _ (s out list : List ℕ) where
  short-room : (length out < length (mended s)) ⊎ (length list < 3 * length (changes s)) → room_for s out list ≡ false
  short-room (inl h) = rw (lt-leb (length (mended s)) (length out) h)
  short-room (inr h) =
      rw (lt-leb (length (as_numbers (changes s))) (length list) (omega (arith, numbers-length (changes s))))
      (bool.and-false (leb (length (mended s)) (length out)))

  enough-room : length (mended s) ≤ length out → 3 * length (changes s) ≤ length list → room_for s out list ≡ true
  enough-room h k =
      rw (
        le-leb (length (mended s)) (length out) h,
        le-leb (length (as_numbers (changes s))) (length list) (omega (arith, numbers-length (changes s))),
      )

pub refused-for-room : RefusedForRoom
refused-for-room =
    record {
      short = λ κ a r s p h.
          let e = short-room a.0.now a.1.0.now a.1.1.0.now h in
          (p.0 ∙ rw e, p.1 ∙ rw e, p.2 ∙ rw e);
      room = λ κ a r s p h k.
          ap (λ (m : Mending). m.verdict) p.0
          ∙ rw (enough-room a.0.now a.1.0.now a.1.1.0.now h k);
    }
