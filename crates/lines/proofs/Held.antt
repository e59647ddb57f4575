-- Laws of a line that is held: what `line_at` gives at a place, against the lines_in of the text from there on.
use Prim.Native.Nat.{ℕ, suc, ◌+◌, ◌≤◌, ◌<◌, min}
use mathlib.Core.Path.{◌≡◌, refl, ap, ◌∙◌, sym}
use mathlib.Core.List.{List, [], ◌∷◌, map}
use native.Mathlib.Omega.{arith}
use lib.Dec.{ltb, leb}
use lib.ListN.{length, get_or, take, drop, length-drop, length-map, length-take, get_or-eq_default, get_or-map}
use lib.Seq.{sets-eq, drop-drop, take_at, length-take-le, get_or-take}
use borrow.Author.Tests.{le-leb, lt-leb, ltb-true, ltb-false, leb-true, leb-false}
use Rattle.whole.proofs.Tests.{by-test}
use Rattle.field.specs.declared.Field.{Field}
use Rattle.field.specs.declared.Field.TheVariants.{Bad}
use Rattle.lines.specs.declared.Slot.{Slot}
use Rattle.lines.specs.declared.Line.{Line}
use Rattle.lines.specs.Lines.{fields_of, lines_in}
use Rattle.lines.specs.Held.{slot, blank, no_line, held_line, first_line, line_at, held, until}
use Rattle.lines.proofs.Lines.{Free, until-le, split-until, split-more, split-last, rows_more, rows_none}
use Rattle.lines.proofs.Lines.{rows-open}

-- ---- a line by where its LF stands

module _ (s : List ℕ) (at : ℕ) where
  line-out : length s ≤ at + until 10 (drop at s) → line_at s at ≡ no_line
  unfolding line_at first_line
  line-out h = rw (split-last 10 (drop at s) (rw length-drop (omega arith)))

  pub line-in : at + until 10 (drop at s) < length s
      → line_at s at ≡ held_line (at + until 10 (drop at s) + 1) (fields_of (take (until 10 (drop at s)) (drop at s)))
  unfolding line_at first_line
  line-in h =
      rw (split-more 10 (drop at s) (rw length-drop (omega arith)))
      (rw (
        split-until 10 (drop (suc (until 10 (drop at s))) (drop at s)),
        length-take-le (until 10 (drop at s)) (drop at s) (until-le 10 (drop at s)),
      ))

-- ---- the fields that are held

-- how long an array of structs is, of which the machine has the list of their parts
pub mapped-length : (X Y : Type 0) (f : X → Y) (l : List X) (n : ℕ) → length (map f l) ≡ n → length l ≡ n
mapped-length X Y f l n e = sym (length-map l f) ∙ e

module _ (x : Line) (i : ℕ) where
  held-length : length (held x) ≤ x.count
  held-length = simp (length-map, length-take) (omega arith)

  pub held-count : length x.fields ≡ 6 → length (held x) ≡ min x.count 6
  held-count six = simp (length-map, length-take) (rw six)

  pub held-past : x.count ≤ i → get_or (held x) i Bad ≡ Bad
  held-past h = get_or-eq_default (held x) Bad (omega (arith, held-length))

  pub held-six : length x.fields ≤ 6 → 6 ≤ i → get_or (held x) i Bad ≡ Bad
  held-six h k = get_or-eq_default (held x) Bad (simp (length-map, length-take) (omega arith))

  pub held_at : i < x.count → get_or (held x) i Bad ≡ (get_or x.fields i (slot Bad)).field
  held_at h =
      get_or-map (λ (s : Slot). s.field) (take x.count x.fields) i (slot Bad)
      ∙ ap (λ (s : Slot). s.field) (get_or-take x.count x.fields i (slot Bad) h)

-- up to six fields are held as they are, and of more none
module _ (next : ℕ) (fs : List Field) where
  map-slots : (gs : List Field) → map (λ (s : Slot). s.field) (map slot gs) ≡ gs
  map-slots [] = refl
  map-slots (g ∷ gs) = ap (λ (r : List Field). g ∷ r) (map-slots gs)

  pub held_all : length fs ≤ 6 → (held (held_line next fs) ≡ fs) × ((held_line next fs).next ≡ next)
  unfolding held_line
  held_all h =
      let n : length (map slot fs) ≡ length fs = length-map fs slot in
      rw (le-leb (length fs) 6 h) (
        rw (
          sets-eq (map slot fs) blank 0 (omega arith),
          take_at (map slot fs) (drop (0 + length (map slot fs)) blank) (length fs) n,
        )
            (map-slots fs),
        refl,
      )

  pub held_none : 6 < length fs → held (held_line next fs) ≡ []
  unfolding held_line
  held_none h = rw (lt-leb (length fs) 6 h)

-- ---- a place of a text

-- What the line at a place says of the text from there on: it is the first line; or nothing is held, and no line is
-- left, or one that
-- is not ended, or a first line of more than six fields.
pub data At (s : List ℕ) (at : ℕ) (x : Line) : Type 0 where
  taken : lines_in (drop at s) ≡ held x ∷ lines_in (drop x.next s) → At s at x
  gone : held x ≡ [] → lines_in (drop at s) ≡ [] → At s at x
  unended : held x ≡ [] → lines_in (drop at s) ≡ (Bad ∷ []) ∷ [] → At s at x
  long : (fs : List Field) (rest : List (List Field)) → held x ≡ [] → lines_in (drop at s) ≡ fs ∷ rest → 6 < length fs
      → At s at x

module _ (s : List ℕ) (at : ℕ) where
  at_open : (t : List ℕ) → drop at s ≡ t → Free 10 t → held (line_at s at) ≡ [] → At s at (line_at s at)
  at_open [] e h z = gone z (ap lines_in e ∙ rows_none)
  at_open (y ∷ t) e h z = unended z (ap lines_in e ∙ rows-open y t h)

  at_ended : at + until 10 (drop at s) < length s → At s at (line_at s at)
  at_ended h =
      let u = until 10 (drop at s) in
      let fs = fields_of (take u (drop at s)) in
      let q : at + suc u ≡ at + u + 1 = omega arith in
      let l = line-in s at h in
      let r : lines_in (drop at s) ≡ fs ∷ lines_in (drop (at + u + 1) s) =
      rows_more (drop at s) (rw length-drop (omega arith)) ∙ rw (drop-drop, q) in
      by-test (leb (length fs) 6)
      (λ t.
      let g = held_all (at + u + 1) fs (leb-true (length fs) 6 t) in
      let n : (line_at s at).next ≡ at + u + 1 = rw l g.1 in
      let k : held (line_at s at) ≡ fs = rw l g.0 in
      taken (r ∙ rw (k, n)))
      (λ t. long fs _ (rw l (held_none (at + u + 1) fs (leb-false (length fs) 6 t))) r (leb-false (length fs) 6 t))

  at-line : At s at (line_at s at)
  at-line =
      by-test (ltb (at + until 10 (drop at s)) (length s)) (λ t. at_ended (ltb-true _ _ t))
      (λ t. at_open (drop at s) refl
      (let g : length s ≤ at + until 10 (drop at s) = ltb-false (at + until 10 (drop at s)) (length s) t in
      omega (arith, until-le 10 (drop at s), length-drop at s))
      (rw (line-out s at (ltb-false (at + until 10 (drop at s)) (length s) t))))

  pub at-is : (x : Line) → x ≡ line_at s at → At s at x
  at-is x e = rw e at-line
