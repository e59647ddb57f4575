-- Newtons read off a column that was put into a list of zeros.
use mathlib.Core.Path.{◌≡◌, refl, sym, ap, ◌∙◌}
use mathlib.Core.List.{List, [], ◌∷◌, ◌++◌}
use Prim.Native.Nat.{ℕ, zero, suc, ◌≤◌}
use native.Mathlib.Omega.{arith}
use borrow.Author.Tests.{eq-eqb, le-leb}
use lib.IntN.{ℤ, pos}
use lib.ListN.{length, get_or, drop, replicate}
use Rattle.page.specs.Writing.{buffer_after}
use Rattle.job.specs.declared.Job.{Job}
use Rattle.job.specs.Carried.{carried, most_faces}
use Rattle.job.specs.Walk.{Reading, judged}
use Rattle.worst.specs.Forces.{force, wind_at, internal_at}
use Rattle.worst.specs.Worst.{given, six_extremes}
use Rattle.worst.specs.Rows.{Taken}
use Rattle.worst.proofs.Rows.{faces-counted, ready}
use Rattle.answers.specs.declared.Extreme.{Extreme}
use Rattle.answers.specs.Answers.{host_line, host_total}
use Rattle.sharing.specs.Column.{column}
use Rattle.sharing.proofs.Entries.{column-length}
use Rattle.column.specs.Column.{at_choice, axis_of, forces_shown, forces_on, column_after}

-- there is no more than one force for each face
choice-short : {F A : Type 0} (force : F → A → ℤ) (fs : List F) (ks : List A)
    → length (at_choice force fs ks) ≤ length fs
unfolding at_choice
choice-short force [] ks = omega arith
choice-short force (f ∷ fs) [] = omega arith
choice-short force (f ∷ fs) (k ∷ ks) = omega (arith, choice-short force fs ks)

zeros : (n k : ℕ) → get_or (replicate n (pos 0)) k (pos 0) ≡ pos 0
zeros zero k = refl
zeros (suc n) zero = refl
zeros (suc n) (suc k) = zeros n k

-- past the last entry zeros stand, which is also what is read where there is none
put_front : (l : List ℤ) (n k : ℕ) → length l ≤ n
    → get_or (l ++ drop (length l) (replicate n (pos 0))) k (pos 0) ≡ get_or l k (pos 0)
put_front [] n k h = zeros n k
put_front (x ∷ l) zero k h = absurd (omega arith)
put_front (x ∷ l) (suc n) zero h = refl
put_front (x ∷ l) (suc n) (suc k) h = put_front l n k (omega arith)

module _ (j : Job) (t : Taken j) (line : ℤ) (e : Extreme)
    (shown : e ≡ host_line (carried j).year (six_extremes (carried j)) line) (some : e.verdict.number ≡ 0) where
  abbrev own : List ℤ
  own = forces_shown (axis_of line) (given (carried j)) e

  told : host_total (judged j) line ≡ e
  told = ap (λ (r : Reading). host_total r line) t.accepted ∙ sym shown

  forces : forces_on line (judged j) ≡ own
  forces =
      ap (forces_on line) t.accepted
      ∙ ap (forces_shown (axis_of line) (given (carried j))) (sym shown)

  few : length (column own) ≤ most_faces
  few =
      let g = given (carried j) in
      let short =
      choice-short (force (axis_of line) g (wind_at g e.wind) (internal_at g e.internal)) g.faces e.alternative
      in
      omega (arith, column-length own, short, faces-counted j t, (ready j t).profiled.few)

  pub newtons-read : (k : ℕ)
      → get_or (column_after (judged j) line (replicate most_faces (pos 0))) k (pos 0) ≡ get_or (column own) k (pos 0)
  unfolding column_after
  newtons-read k =
      rw (eq-eqb _ 0 (ap (λ (x : Extreme). x.verdict.number) told ∙ some))
      (ap (λ l. get_or (buffer_after (column l) (replicate most_faces (pos 0))) k (pos 0)) forces
      ∙ rw (le-leb (length (column own)) most_faces few) (put_front (column own) most_faces k few))
