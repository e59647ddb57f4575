-- The first n of a list without one of them: those behind it move up, and the place that is then free holds d.
use mathlib.Core.Path.{◌≡◌, sym, ap, ◌∙◌}
use mathlib.Core.List.{List, ◌∷◌, ◌++◌, append-nil}
use Prim.Native.Nat.{ℕ, suc, ◌≤◌, ◌<◌}
use native.Mathlib.Omega.{arith}
use lib.ListN.{length, get_or, take, drop, set, drop_of_length-le}
use lib.Seq.{take-suc-set, take-set-lt, drop-set-lt, drop-cons, get_or-take, length-take-le, append_snoc, set_split}

module _ {A : Type 0} (d : A) (n : ℕ) where
  -- without the one behind the first i
  abbrev pub moved : ℕ → List A → List A
  moved i l = (take i l ++ drop (suc i) (take n l)) ++ (d ∷ drop n l)

  -- the next one moved up
  pub moved-next : (i : ℕ) (l : List A) → suc i < n → n ≤ length l
      → moved (suc i) (set l i (get_or l (suc i) d)) ≡ moved i l
  moved-next i l h k =
      let x = get_or l (suc i) d in
      let first = take-suc-set l i x (omega arith) in
      let kept =
      ap (drop (suc (suc i))) (take-set-lt n l i x (omega arith))
      ∙ drop-set-lt (suc (suc i)) (take n l) i x (omega arith) in
      let rest = drop-set-lt n l i x (omega arith) in
      let next =
      drop-cons (take n l) (suc i) d (omega (arith, length-take-le n l k))
      ∙ ap (λ y. y ∷ drop (suc (suc i)) (take n l)) (get_or-take n l (suc i) d h) in
      (λ j. (first j ++ kept j) ++ (d ∷ rest j))
      ∙ ap (λ m. m ++ (d ∷ drop n l))
      (append_snoc (take i l) x (drop (suc (suc i)) (take n l)) ∙ ap (λ m. take i l ++ m) (sym next))

  -- the last place freed
  pub moved-last : (i : ℕ) (l : List A) → suc i ≡ n → n ≤ length l → set l i d ≡ moved i l
  moved-last i l e k =
      let none = drop_of_length-le (take n l) {i = suc i} (omega (arith, length-take-le n l k)) in
      set_split l i d (omega arith)
      ∙ ap (λ m. take i l ++ (d ∷ drop m l)) e
      ∙ ap (λ m. m ++ (d ∷ drop n l)) (sym (ap (λ m. take i l ++ m) none ∙ append-nil (take i l)))
