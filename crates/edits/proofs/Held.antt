-- Faces added, replaced and taken out, as the entries of a record are moved.
use mathlib.Core.Path.{◌≡◌, sym, ap, ap₂, ◌∙◌}
use mathlib.Core.List.{List, [], ◌∷◌, ◌++◌}
use Prim.Native.Nat.{ℕ, suc, ◌+◌, ◌-◌, ◌≤◌, ◌<◌}
use native.Mathlib.Numerals.{add-one}
use native.Mathlib.Omega.{arith}
use lib.ListN.{length, take, drop, set, length-append, length-set, length-drop, take-append-drop}
use lib.Seq.{length-take-le, set_split, set-append_left, append_snoc, drop-drop, take-take}
use Rattle.entry.specs.declared.Face.{Face}
use Rattle.job.specs.declared.Faces.{Faces}
use Rattle.job.specs.Carried.{no_face}
use Rattle.whole.proofs.Moved.{moved}
use Rattle.edits.specs.Faces.{replace, added, replaced, taken_out}

abbrev pub faces : ℕ → List Face → Faces
faces n l = record { count = n; entry = l }

module _ (n : ℕ) (l : List Face) where
  pub added_is : (f : Face) → n < length l → faces (n + 1) (set l n f) ≡ added f (faces n l)
  added_is f h =
      let all = length-take-le n l (omega arith) in
      ap₂ faces (omega (arith, length-append (take n l) (f ∷ []), all))
      (set_split l n f h ∙ ap (λ m. take n l ++ (f ∷ drop m l)) (sym (add-one n))
      ∙ ap (λ m. take n l ++ (f ∷ m)) (sym (drop-drop 1 n l))
      ∙ sym (append_snoc (take n l) f (drop 1 (drop n l))))

  module _ (k : ℕ) (low : 0 < k) (high : k ≤ n) (room : n ≤ length l) where
    before : suc (k - 1) ≡ k
    before = omega arith

    all : length (take n l) ≡ n
    all = length-take-le n l room

    set-face : (f : Face) → set (take n l) (k - 1) f ≡ replace k f (take n l)
    set-face f =
        set_split (take n l) (k - 1) f (omega (arith, all))
        ∙ ap (λ m. take (k - 1) (take n l) ++ (f ∷ drop m (take n l))) before

    pub replaced-is : (f : Face) → faces n (set l (k - 1) f) ≡ replaced k f (faces n l)
    replaced-is f =
        ap₂ faces (sym (ap length (sym (set-face f)) ∙ length-set (take n l) (k - 1) f ∙ all))
        (ap (λ m. set m (k - 1) f) (sym (take-append-drop n l))
        ∙ set-append_left (take n l) (drop n l) (k - 1) f (omega (arith, all))
        ∙ ap (λ m. m ++ drop n l) (set-face f))

    pub taken-out-is : faces (n - 1) (moved no_face n (k - 1) l) ≡ taken_out k (faces n l)
    taken-out-is =
        let first = length-take-le (k - 1) (take n l) (omega (arith, all)) in
        let rest = length-drop k (take n l) in
        let both = length-append (take (k - 1) (take n l)) (drop k (take n l)) in
        ap₂ faces (omega (arith, first, rest, both, all))
        (λ i. (sym (take-take (k - 1) n l (omega arith)) i ++ drop (before i) (take n l)) ++ (no_face ∷ drop n l))
