-- Laws of `split` and `lines_in`: the first part of a text ends where its first separator stands, and the rest is split
-- alike.
use Prim.Native.Nat.{ℕ, zero, suc, ◌+◌, ◌≤◌, ◌<◌}
use mathlib.Core.Path.{◌≡◌, refl, ap, ◌∙◌, sym}
use mathlib.Core.Logic.{⊎_elim}
use mathlib.Core.Bool.{true, false, cond, ◌||◌}
use mathlib.Core.List.{List, [], ◌∷◌, ◌++◌}
use native.Mathlib.Numerals.{add-one}
use native.Mathlib.Omega.{arith}
use lib.Dec.{ltb, eqb, leb-suc-suc}
use lib.ListN.{length, get_or, take, drop, drop_of_length-le, length-append, length-drop}
use lib.Seq.{drop-cons, take_all, take-append_seam, drop-append-add}
use borrow.Author.Tests.{lt-ltb, le-ltb, eq-eqb, ne_eqb, eqb-true, eqb-false, ltb-true, ltb-false}
use Rattle.whole.proofs.Tests.{by-test, or-true, or-false}
use Rattle.field.specs.declared.Field.{Field}
use Rattle.field.specs.declared.Field.TheVariants.{Bad}
use Rattle.lines.specs.Lines.{onto, split, fields_of, lines_from, lines_in}
use Rattle.lines.specs.Held.{until, field_length}

-- ---- the first b

module _ (b : ℕ) (s : List ℕ) (i : ℕ) where
  pub until-here : i < length s → get_or s i 0 ≡ b → until b (drop i s) ≡ 0
  unfolding until
  until-here h e = rw (drop-cons s i 0) (simp (eq-eqb _ _ e))

  pub until-on : i < length s → (get_or s i 0 ≡ b → ⊥) → until b (drop i s) ≡ suc (until b (drop (i + 1) s))
  unfolding until
  until-on h e = rw (add-one, drop-cons s i 0) (simp (ne_eqb _ _ e))

  pub until_end : length s ≤ i → until b (drop i s) ≡ 0
  unfolding until
  until_end h = rw (drop_of_length-le s h)

-- the first space or LF
module _ (s : List ℕ) (i : ℕ) where
  module _ (h : i < length s) where
    pub end-here : (eqb (get_or s i 0) 32 || eqb (get_or s i 0) 10) ≡ true → field_length (drop i s) ≡ 0
    end-here t =
        ⊎_elim (λ e. omega (arith, until-here 32 s i h (eqb-true _ _ e)))
        (λ e. omega (arith, until-here 10 s i h (eqb-true _ _ e)))
        (or-true (eqb (get_or s i 0) 32) (eqb (get_or s i 0) 10) t)

    pub end_on : (eqb (get_or s i 0) 32 || eqb (get_or s i 0) 10) ≡ false
        → field_length (drop i s) ≡ suc (field_length (drop (i + 1) s))
    end_on t =
        let e = or-false (eqb (get_or s i 0) 32) (eqb (get_or s i 0) 10) t in
        omega (arith, until-on 32 s i h (eqb-false _ _ e.0), until-on 10 s i h (eqb-false _ _ e.1))

pub until-le : (b : ℕ) (s : List ℕ) → until b s ≤ length s
unfolding until
until-le b [] = omega arith
until-le b (x ∷ xs) = by-test (eqb x b) (λ e. rw e (omega arith)) (λ e. rw e (omega (arith, until-le b xs)))

-- b itself stands behind them, and none among them
pub until-at : (b : ℕ) (s : List ℕ) → until b s < length s → get_or s (until b s) 0 ≡ b
unfolding until
until-at b [] h = absurd (omega arith)
until-at b (x ∷ xs) h =
    by-test (eqb x b) (λ e. rw e (eqb-true x b e)) (λ e. let k = rw e at h in rw e (until-at b xs (omega arith)))

pub until-take : (b : ℕ) (s : List ℕ) (n : ℕ) → n ≤ until b s → until b (take n s) ≡ n
unfolding until
until-take b s zero h = refl
until-take b [] (suc n) h = absurd (omega arith)
until-take b (x ∷ xs) (suc n) h =
    by-test (eqb x b) (λ e. let k = rw e at h in absurd (omega arith))
    (λ e. let k = rw e at h in rw e (ap suc (until-take b xs n (omega arith))))

-- ---- parts

-- the first part, and those behind the first b
pub split-until : (b : ℕ) (s : List ℕ)
    → split b s ≡ take (until b s) s ∷ cond (ltb (until b s) (length s)) (split b (drop (suc (until b s)) s)) []
unfolding split until
split-until b [] = refl
split-until b (x ∷ xs) =
    by-test (eqb x b) (λ e. rw (e, lt-ltb 0 (suc (length xs)) (omega arith)))
    (λ e. rw e (rw (split-until b xs, leb-suc-suc) refl))

pub split-more : (b : ℕ) (s : List ℕ) → until b s < length s
    → split b s ≡ take (until b s) s ∷ split b (drop (suc (until b s)) s)
split-more b s h = rw (split-until b s, lt-ltb (until b s) (length s) h)

pub split-last : (b : ℕ) (s : List ℕ) → length s ≤ until b s → split b s ≡ s ∷ []
split-last b s h = rw (split-until b s, le-ltb (until b s) (length s) h, take_all (until b s) s h)

-- ---- a text with no b in it

abbrev pub Free : ℕ → List ℕ → Type 0
Free b s = until b s ≡ length s

free-cons : (b x : ℕ) (s : List ℕ) → Free b (x ∷ s) → (eqb x b ≡ false) × Free b s
unfolding until
free-cons b x s h =
    by-test (eqb x b) (λ e. absurd (let q : 0 ≡ suc (length s) = rw e at h in omega arith))
    (λ e. let q : suc (until b s) ≡ suc (length s) = rw e at h in (e, omega arith))

pub free-append : (b : ℕ) (s t : List ℕ) → Free b s → Free b t → Free b (s ++ t)
unfolding until
free-append b [] t h k = k
free-append b (x ∷ s) t h k = let f = free-cons b x s h in rw f.0 (ap suc (free-append b s t f.1 k))

pub free_one : (b x : ℕ) → (x ≡ b → ⊥) → Free b (x ∷ [])
unfolding until
free_one b x h = rw (ne_eqb x b h)

until-seam : (b : ℕ) (s t : List ℕ) → Free b s → until b (s ++ (b ∷ t)) ≡ length s
unfolding until
until-seam b [] t h = rw (eq-eqb b b refl)
until-seam b (x ∷ s) t h = let f = free-cons b x s h in rw f.0 (ap suc (until-seam b s t f.1))

pub split-seam : (b : ℕ) (s t : List ℕ) → Free b s → split b (s ++ (b ∷ t)) ≡ s ∷ split b t
split-seam b s t h =
    let u = until-seam b s t h in
    split-more b (s ++ (b ∷ t)) (rw (u, length-append) (omega arith))
    ∙ rw (u, take-append_seam, ← add-one, drop-append-add)

-- behind a byte that is not b
pub split-past : (b : ℕ) (s : List ℕ) (x : ℕ) (t q : List ℕ) (qs : List (List ℕ)) → Free b s → (x ≡ b → ⊥)
    → split b t ≡ q ∷ qs
    → split b (s ++ (x ∷ t)) ≡ (s ++ (x ∷ q)) ∷ qs
unfolding split
split-past b [] x t q qs h n e = rw (ne_eqb x b n, e)
split-past b (y ∷ s) x t q qs h n e = let f = free-cons b y s h in rw (f.0, split-past b s x t q qs f.1 n e)

pub split_one : (b : ℕ) (s : List ℕ) → Free b s → split b s ≡ s ∷ []
split_one b s h = split-last b s (omega arith)

-- ---- parts put together again

unfoldable pub joined : ℕ → List (List ℕ) → List ℕ
joined b [] = []
joined b (p ∷ []) = p
joined b (p ∷ q ∷ ps) = p ++ (b ∷ joined b (q ∷ ps))

joined-onto : (b x : ℕ) (ps : List (List ℕ)) → joined b (onto x ps) ≡ x ∷ joined b ps
unfolding joined
joined-onto b x [] = refl
joined-onto b x (p ∷ []) = refl
joined-onto b x (p ∷ q ∷ ps) = refl

joined-more : (b : ℕ) (p t : List ℕ) → joined b (p ∷ split b t) ≡ p ++ (b ∷ joined b (split b t))
unfolding joined
joined-more b p t = rw (split-until b t)

pub split-joined : (b : ℕ) (s : List ℕ) → joined b (split b s) ≡ s
unfolding split joined
split-joined b [] = refl
split-joined b (x ∷ xs) =
    by-test (eqb x b)
    (λ e.
    rw e
    (joined-more b [] xs
    ∙ ap (λ (l : List ℕ). b ∷ l) (split-joined b xs)
    ∙ ap (λ (y : ℕ). y ∷ xs) (sym (eqb-true x b e))))
    (λ e. rw e (joined-onto b x (split b xs) ∙ ap (λ (l : List ℕ). x ∷ l) (split-joined b xs)))

-- ---- lines

rows_of-more : (l t : List ℕ) → lines_from (l ∷ split 10 t) ≡ fields_of l ∷ lines_from (split 10 t)
unfolding lines_from
rows_of-more l t = rw (split-until 10 t)

-- the first line, and those behind its LF
pub rows_more : (s : List ℕ) → until 10 s < length s
    → lines_in s ≡ fields_of (take (until 10 s) s) ∷ lines_in (drop (suc (until 10 s)) s)
unfolding lines_in
rows_more s h = ap lines_from (split-more 10 s h) ∙ rows_of-more (take (until 10 s) s) (drop (suc (until 10 s)) s)

pub rows_none : lines_in [] ≡ []
unfolding lines_in lines_from split
rows_none = refl

-- a text with no LF
pub rows-open : (x : ℕ) (s : List ℕ) → Free 10 (x ∷ s) → lines_in (x ∷ s) ≡ (Bad ∷ []) ∷ []
unfolding lines_in lines_from
rows-open x s h = rw (split_one 10 (x ∷ s) h)

pub rows-seam : (l t : List ℕ) → Free 10 l → lines_in (l ++ (10 ∷ t)) ≡ fields_of l ∷ lines_in t
unfolding lines_in
rows-seam l t h = ap lines_from (split-seam 10 l t h) ∙ rows_of-more l t

-- at the end of a text no line is left, and before it one is
pub rows_end : (s : List ℕ) (at : ℕ) → length s ≤ at → lines_in (drop at s) ≡ []
rows_end s at h = ap lines_in (drop_of_length-le s h) ∙ rows_none

pub rows-some : (s : List ℕ) (at : ℕ) → at < length s
    → (x : List Field) × (xs : List (List Field)) × (lines_in (drop at s) ≡ x ∷ xs)
rows-some s at h = go (drop at s) (rw length-drop (omega arith))
  where
    go : (t : List ℕ) → 0 < length t → (x : List Field) × (xs : List (List Field)) × (lines_in t ≡ x ∷ xs)
    go [] k = absurd (omega arith)
    go (y ∷ t) k =
        by-test (ltb (until 10 (y ∷ t)) (length (y ∷ t)))
        (λ e. (
          fields_of (take (until 10 (y ∷ t)) (y ∷ t)),
          lines_in (drop (suc (until 10 (y ∷ t))) (y ∷ t)),
          rows_more (y ∷ t) (ltb-true _ _ e),
        ))
        (λ e. (
          Bad ∷ [],
          [],
          rows-open y t (omega (arith, until-le 10 (y ∷ t), ltb-false (until 10 (y ∷ t)) (length (y ∷ t)) e)),
        ))
