-- What the code counts is what the definitions ask for, and so is what comes of it in the buffers.
use Prim.Native.Nat.{ℕ, ◌+◌, ◌-◌, ◌*◌, ◌/◌, ◌≤◌, ◌<◌}
use mathlib.Core.Path.{◌≡◌, refl, sym, ap, ◌∙◌}
use mathlib.Core.Bool.{Bool, true, false, not}
use mathlib.Core.Bool as bool
use mathlib.Core.List.{List, ◌++◌}
use native.Mathlib.Omega.{arith}
use lib.Dec.{eqb, leb}
use lib.ListN.{length, take, drop, length-append}
use lib.Seq.{sets, take_at}
use borrow.Author.Tests.{le-leb, lt-leb}
use Rattle.whole.proofs.Tests.{by-test}
use Rattle.page.proofs.Put.{put-start}
use Rattle.verdict.specs.declared.Verdict.{Verdict}
use Rattle.verdict.specs.Verdict.{accepted}
use Rattle.job.specs.Walk.{verdict}
use Rattle.sheet.specs.Sheet.{reading}
use Rattle.mend.specs.declared.tally.Tally.{Tally}
use Rattle.mend.specs.declared.Mending.{Mending}
use Rattle.mend.specs.Mended.{left, final, with_end, mended}
use Rattle.mend.specs.Changes.{Change, changes_from, changes, as_numbers}
use Rattle.mend.specs.Mending.{room_for, no_room, mending_of, text_after, list_after}
use Rattle.mend.specs.OneWalk.{at_start, fates_from, tallied, nothing_tallied, tally_ended}
use Rattle.mend.proofs.Counted.{tallied-kept, tallied-last, tallied-listed, numbers-length}
use Rattle.mend.proofs.Passes.{fates-walked}

-- the three equations of the contract
abbrev pub Meets : (s out list : List ℕ) → Mending → (out' list' : List ℕ) → Type 0
Meets s out list r out' list' =
    (r ≡ mending_of s out list) × (out' ≡ text_after s out list) × (list' ≡ list_after s out list)

module _ (s : List ℕ) (t all : Tally) (ht : t ≡ tallied nothing_tallied (fates_from at_start s))
    (ha : all ≡ tally_ended t) where
  abbrev added : Bool
  added = not (eqb t.last 10)

  last-is : t.last ≡ final 10 (left (fates_from at_start s))
  last-is = rw ht (tallied-last nothing_tallied (fates_from at_start s))

  text-is : mended s ≡ with_end added (left (fates_from at_start s))
  unfolding mended
  text-is = rw (fates-walked s, last-is)

  list-is : changes s ≡ changes_from added 1 1 (fates_from at_start s)
  unfolding changes
  list-is = rw (fates-walked s, last-is)

  pub text-length : length (mended s) ≡ all.kept
  text-length =
      let k : t.kept ≡ 0 + length (left (fates_from at_start s)) =
      rw ht (tallied-kept nothing_tallied (fates_from at_start s)) in
      ap length text-is
      ∙ length-append (left (fates_from at_start s)) _
      ∙ by-test (eqb t.last 10) (λ e. rw (ha, e) (omega arith)) (λ e. rw (ha, e) (omega arith))

  pub list_length : length (changes s) ≡ all.taken
  list_length =
      let k = tallied-listed added nothing_tallied 1 1 (fates_from at_start s) in
      let m : t.taken ≡ (tallied nothing_tallied (fates_from at_start s)).taken = ap (λ (y : Tally). y.taken) ht in
      ap length list-is
      ∙ by-test (eqb t.last 10) (λ e. rw (ha, e) (omega (arith, rw e at k)))
      (λ e. rw (ha, e) (omega (arith, rw e at k)))

  numbers-many : length (as_numbers (changes s)) ≡ 3 * all.taken
  numbers-many = omega (arith, numbers-length (changes s), list_length)

  module _ (out list : List ℕ) where
    module _ (r : Mending) (hr : r ≡ no_room) where
      refused : room_for s out list ≡ false → Meets s out list r out list
      refused e = (hr ∙ rw e, rw e, rw e)

      pub no-text-room : length out < all.kept → Meets s out list r out list
      no-text-room h = refused (rw (lt-leb (length (mended s)) (length out) (omega (arith, text-length))))

      pub no-list-room : length list / 3 < all.taken → Meets s out list r out list
      no-list-room h =
          refused
          (rw (lt-leb (length (as_numbers (changes s))) (length list) (omega (arith, numbers-many)))
          (bool.and-false (leb (length (mended s)) (length out))))

    module _ (h : all.kept ≤ length out) (k : all.taken ≤ length list / 3) {out' list' : List ℕ}
        (w : (out' ≡ sets out 0 (with_end added (left (fates_from at_start s))))
        × (list' ≡ sets list 0 (as_numbers (changes_from added 1 1 (fates_from at_start s))))) where
      text-fits : length (mended s) ≤ length out
      text-fits = omega (arith, text-length)

      list-fits : length (as_numbers (changes s)) ≤ length list
      list-fits = omega (arith, numbers-many)

      out-is : out' ≡ mended s ++ drop (length (mended s)) out
      out-is =
          put-start {l = out} {s = mended s} (record { end = refl; bytes = w.0 ∙ ap (sets out 0) (sym text-is) })
          text-fits

      list'-is : list' ≡ as_numbers (changes s) ++ drop (length (as_numbers (changes s))) list
      list'-is =
          put-start {l = list} {s = as_numbers (changes s)}
          (record { end = refl; bytes = w.1 ∙ ap (λ (cs : List Change). sets list 0 (as_numbers cs)) (sym list-is) })
          list-fits

      -- the text stands whole at the start of the buffer, and is read there
      pub within : all.kept ≤ length out'
      within =
          omega (arith, ap length out-is, length-append (mended s) (drop (length (mended s)) out), text-length)

      pub room-for-both : (v : Verdict) → v ≡ verdict (reading (take (all.kept - 0) (drop 0 out')))
          → Meets s out list
          (record { verdict = accepted; length = all.kept; changes = all.taken; refused = v }) out' list'
      room-for-both v e =
          let f : room_for s out list ≡ true = rw (le-leb _ _ text-fits, le-leb _ _ list-fits) in
          let z : length (mended s) ≡ all.kept - 0 = omega (arith, text-length) in
          let p : take (all.kept - 0) out' ≡ mended s =
          rw out-is (take_at (mended s) (drop (length (mended s)) out) (all.kept - 0) z) in
          let told = e ∙ ap (λ (x : List ℕ). verdict (reading x)) p in
          (rw f (rw (text-length, list_length, told)), rw f out-is, rw f list'-is)
