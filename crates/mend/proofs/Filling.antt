-- Laws of writing: what has been put, and what the fates ahead still bring, is all.
use Prim.Native.Nat.{ℕ, zero, suc, ◌+◌, ◌≤◌, ◌<◌}
use mathlib.Core.Path.{◌≡◌, refl, sym, ap, ◌∙◌}
use mathlib.Core.Bool.{Bool, true, false, true≢false}
use mathlib.Core.List.{List, [], ◌∷◌, ◌++◌, append_assoc, append-nil}
use native.Mathlib.Omega.{arith}
use lib.Dec.{eqb}
use lib.ListN.{length, get_or, drop}
use lib.Seq.{sets}
use Rattle.page.specs.Writing.{Put}
use Rattle.page.proofs.Put.{then, put-nothing, put-length}
use Rattle.whole.proofs.Tests.{by-test}
use Rattle.mend.specs.declared.walk.Seen.{Seen}
use Rattle.mend.specs.declared.fill.Position.{Position}
use Rattle.mend.specs.Mended.{Fate, left, with_end}
use Rattle.mend.specs.Changes.{changes_from, as_numbers}
use Rattle.mend.specs.OneWalk.{clean, seen_with, fate_of, fates_from, added_text, added_numbers, onward}
use Rattle.mend.proofs.Counted.{some-kind, fates-next}

-- The buffers were `old` and `rows` and are `buf` and `list`; `text` and `told` have been put, and `fs` are the fates
-- ahead.
pub record Going (added : Bool) (all : List Fate) (old rows buf list : List ℕ) (at next : ℕ) (p : Position)
    (fs : List Fate) : Type 0 where
  pub text : List ℕ
  pub told : List ℕ
  pub put-text : Put old 0 text buf at
  pub put-told : Put rows 0 told list next
  pub all-text : text ++ left fs ≡ left all
  pub all_told : told ++ as_numbers (changes_from added p.line p.place fs) ≡ as_numbers (changes_from added 1 1 all)

pub going_start : (added : Bool) (all : List Fate) (old rows : List ℕ)
    → Going added all old rows old rows 0 0 (record { line = 1; place = 1 }) all
going_start added all old rows =
    record {
      text = [];
      told = [];
      put-text = put-nothing old 0 (omega arith);
      put-told = put-nothing rows 0 (omega arith);
      all-text = refl;
      all_told = refl;
    }

left-fate : (b f : ℕ) (fs : List Fate) → left (fate_of b f ∷ fs) ≡ added_text b f ++ left fs
unfolding left
left-fate b zero fs = refl
left-fate b (suc f) fs = rw (some-kind f)

listed-fate : (added : Bool) (p : Position) (b f : ℕ) (fs : List Fate)
    → as_numbers (changes_from added p.line p.place (fate_of b f ∷ fs))
    ≡ added_numbers p f ++ as_numbers (changes_from added (onward p b).line (onward p b).place fs)
unfolding changes_from as_numbers
listed-fate added p b zero fs = refl
listed-fate added p b (suc f) fs = rw (some-kind f)

module _ {added : Bool} {all : List Fate} {old rows buf list : List ℕ} {at next : ℕ} {p : Position} where
  going_on : {buf' list' : List ℕ} {at' next' : ℕ} (b f : ℕ) (fs : List Fate)
      → Going added all old rows buf list at next p (fate_of b f ∷ fs)
      → Put buf at (added_text b f) buf' at' → Put list next (added_numbers p f) list' next' → (q : Position)
      → q ≡ onward p b → Going added all old rows buf' list' at' next' q fs
  going_on b f fs g u v q e =
      rw e
      (record {
        text = g.text ++ added_text b f;
        told = g.told ++ added_numbers p f;
        put-text = then g.put-text u;
        put-told = then g.put-told v;
        all-text = append_assoc g.text _ _ ∙ ap (λ (l : List ℕ). g.text ++ l) (sym (left-fate b f fs))
            ∙ g.all-text;
        all_told = append_assoc g.told _ _ ∙ ap (λ (l : List ℕ). g.told ++ l) (sym (listed-fate added p b f fs))
            ∙ g.all_told;
      })

  -- one byte more
  pub going_next : {buf' list' : List ℕ} {at' next' : ℕ} (s : List ℕ) (i : ℕ) (w : Seen) → i < length s
      → Going added all old rows buf list at next p (fates_from w (drop i s))
      → (v : Seen) → v ≡ seen_with w (get_or s i 0) (clean (drop (i + 1) s))
      → Put buf at (added_text (get_or s i 0) v.kind) buf' at' → Put list next (added_numbers p v.kind) list' next'
      → (q : Position) → q ≡ onward p (get_or s i 0)
      → Going added all old rows buf' list' at' next' q (fates_from v (drop (i + 1) s))
  going_next s i w h g v e x y q d =
      going_on (get_or s i 0) v.kind (fates_from v (drop (i + 1) s)) (rw (fates-next s i w h v e) at g) x y q d

  -- the buffers keep their lengths, and the places stay within them
  pub going-room : (fs : List Fate) → Going added all old rows buf list at next p fs
      → (length buf ≡ length old) × (length list ≡ length rows) × (at ≤ length buf) × (next ≤ length list)
  going-room fs g =
      let m = put-length g.put-text in
      let n = put-length g.put-told in
      (m, n, omega (arith, g.put-text.end), omega (arith, g.put-told.end))

module _ {all : List Fate} {old rows buf list : List ℕ} {at next : ℕ} {p : Position} where
  pub going_end : (added : Bool) → Going added all old rows buf list at next p [] → added ≡ false
      → (buf ≡ sets old 0 (with_end added (left all))) × (list ≡ sets rows 0 (as_numbers (changes_from added 1 1 all)))
  unfolding left changes_from as_numbers
  going_end true g e = absurd (true≢false e)
  going_end false g e = (
    g.put-text.bytes ∙ ap (sets old 0) (sym (append-nil g.text) ∙ g.all-text ∙ sym (append-nil (left all))),
    g.put-told.bytes ∙ ap (sets rows 0) (sym (append-nil g.told) ∙ g.all_told),
  )

  pub going-added : {buf' list' : List ℕ} {at' next' : ℕ} (added : Bool)
      → Going added all old rows buf list at next p [] → added ≡ true
      → Put buf at (10 ∷ []) buf' at' → Put list next (p.line ∷ 5 ∷ p.place ∷ []) list' next'
      → (buf' ≡ sets old 0 (with_end added (left all))) × (list' ≡ sets rows 0 (as_numbers
      (changes_from added 1 1 all)))
  unfolding left changes_from as_numbers
  going-added false g e u v = absurd (true≢false (sym e))
  going-added true g e u v = (
    (then g.put-text u).bytes
        ∙ ap (sets old 0) (ap (λ (l : List ℕ). l ++ (10 ∷ [])) (sym (append-nil g.text) ∙ g.all-text)),
    (then g.put-told v).bytes ∙ ap (sets rows 0) g.all_told,
  )

pub onward-bound : (p : Position) (b i : ℕ) → p.line ≤ i + 1 → p.place ≤ i + 1 → (q : Position) → q ≡ onward p b
    → (q.line ≤ i + 1 + 1) × (q.place ≤ i + 1 + 1)
onward-bound p b i h k q e =
    by-test (eqb b 10) (λ t. rw (e, t) (omega arith, omega arith)) (λ t. rw (e, t) (omega arith, omega arith))
