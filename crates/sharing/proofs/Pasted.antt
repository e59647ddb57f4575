-- A column put over the start of a lent list, entry by entry.
use mathlib.Core.Path.{◌≡◌, sym, ap, ◌∙◌}
use mathlib.Core.List.{List, ◌++◌}
use Prim.Native.Nat.{ℕ, ◌+◌, ◌≤◌, ◌<◌}
use native.Mathlib.Numerals.{add-one}
use native.Mathlib.Omega.{arith}
use borrow.Author.Tests.{le-leb}
use lib.IntN.{ℤ, pos}
use lib.ListN.{length, set, drop}
use lib.Seq.{paste, paste-suc, length-paste, take_all}
use Rattle.page.specs.Writing.{buffer_after}
use Rattle.sharing.specs.Column.{share_of, column}
use Rattle.sharing.proofs.Entries.{column-length, column-at}

-- the list with the first i entries
abbrev pub pasted : List ℤ → List ℤ → ℕ → List ℤ
pasted fs old i = paste old 0 (column fs) i

module _ (fs old : List ℤ) (room : length fs ≤ length old) where
  pub pasted_length : (i : ℕ) → i ≤ length fs → length (pasted fs old i) ≡ length old
  pasted_length i h = length-paste old 0 (column fs) i (omega arith) (omega (arith, column-length fs))

  pub pasted-next : (i : ℕ) → i < length fs → set (pasted fs old i) i (share_of fs i) ≡ pasted fs old (i + 1)
  pasted-next i h =
      let e : i ≡ 0 + i = omega arith in
      let x = sym (column-at fs i h) in
      (λ k. set (pasted fs old i) (e k) (x k))
      ∙ paste-suc old 0 (column fs) i (pos 0) (omega arith) (omega (arith, column-length fs))
      ∙ ap (pasted fs old) (sym (add-one i))

  pub pasted-all : pasted fs old (length fs) ≡ buffer_after (column fs) old
  pasted-all =
      let n = column-length fs in
      let e : 0 + length fs ≡ length (column fs) = omega arith in
      let t = take_all (length fs) (column fs) (omega arith) in
      (λ k. t k ++ drop (e k) old) ∙ simp (le-leb (length (column fs)) (length old) (omega arith))
