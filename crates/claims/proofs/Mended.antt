-- What a host has after a call that is not refused is what the definitions say: the mended text and its changes.
use mathlib.Core.Path.{◌≡◌, refl, sym, ap, ◌∙◌}
use mathlib.Core.Bool.{true}
use mathlib.Core.List.{List, [], ◌∷◌, ◌++◌}
use Prim.Native.Nat.{ℕ, ◌*◌}
use native.Mathlib.Omega.{arith}
use lib.ListN.{length, take, drop}
use lib.Seq.{take_at, drop-append_seam}
use Rattle.whole.proofs.Tests.{by-test}
use Rattle.verdict.specs.declared.Verdict.{Verdict}
use Rattle.verdict.specs.Verdict.{accepted}
use Rattle.mend.specs.declared.Mending.{Mending}
use Rattle.mend.specs.Mended.{mended}
use Rattle.mend.specs.Changes.{Change, changes, as_numbers}
use Rattle.mend.specs.Mending.{room_for, has_room, mending_of, text_after, list_after}
use Rattle.mend.proofs.Counted.{numbers-length}
use Rattle.claims.specs.Mended.{text_in, changes_in, list_in}

changes-read : (cs : List Change) → changes_in (as_numbers cs) ≡ cs
unfolding changes_in as_numbers
changes-read [] = refl
changes-read (c ∷ cs) = ap (λ (l : List Change). c ∷ l) (changes-read cs)

-- the three equations of the contract, and that the call is not refused
module _ (s out list : List ℕ) {r : Mending} {out' list' : List ℕ}
    (p : (r ≡ mending_of s out list) × (out' ≡ text_after s out list) × (list' ≡ list_after s out list))
    (v : r.verdict ≡ accepted) where
  has_room_lem : room_for s out list ≡ true
  has_room_lem =
      by-test (room_for s out list) (λ t. t)
      (λ t.
      let e : (mending_of s out list).verdict ≡ accepted = sym (ap (λ (m : Mending). m.verdict) p.0) ∙ v in
      absurd (omega (arith, ap (λ (w : Verdict). w.number) (rw t at e))))

  pub answer-is : r ≡ has_room s
  answer-is = p.0 ∙ rw has_room_lem

  -- the text is as long as is told, and stands at the start of its buffer; so does the list
  text-long : length (mended s) ≡ r.length
  text-long = sym (ap (λ (m : Mending). m.length) answer-is)

  list-long : length (as_numbers (changes s)) ≡ 3 * r.changes
  list-long = numbers-length (changes s) ∙ ap (λ (m : Mending). 3 * m.changes) (sym answer-is)

  text-there : out' ≡ mended s ++ drop (length (mended s)) out
  text-there = p.1 ∙ rw has_room_lem

  list-there : list' ≡ as_numbers (changes s) ++ drop (length (as_numbers (changes s))) list
  list-there = p.2 ∙ rw has_room_lem

  text-is : text_in r out' ≡ mended s
  text-is =
      ap (take r.length) text-there
      ∙ take_at (mended s) (drop (length (mended s)) out) r.length text-long

  list-is : list_in r list' ≡ changes s
  list-is =
      let ns = as_numbers (changes s) in
      ap (λ (l : List ℕ). changes_in (take (3 * r.changes) l)) list-there
      ∙ ap changes_in (take_at ns (drop (length ns) list) (3 * r.changes) list-long)
      ∙ changes-read (changes s)

  pub as-defined : (text_in r out' ≡ mended s) × (list_in r list' ≡ changes s)
  as-defined = (text-is, list-is)

  -- and what is after them is as it was
  pub rest-is : (drop r.length out' ≡ drop r.length out)
      × (drop (3 * r.changes) list' ≡ drop (3 * r.changes) list)
  rest-is = (
    rw (sym text-long) (ap (drop (length (mended s))) text-there ∙ drop-append_seam (mended s) _),
    rw (sym list-long)
        (ap (drop (length (as_numbers (changes s)))) list-there ∙ drop-append_seam (as_numbers (changes s)) _),
  )
