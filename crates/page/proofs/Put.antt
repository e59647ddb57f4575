-- Laws of texts put into a buffer: one after another is both at once, whether or not there is room; and a text that
-- finds room stands there whole, to be put into another.
use mathlib.Core.Path.{◌≡◌, refl, sym, ap, ◌∙◌}
use mathlib.Core.List.{List, [], ◌∷◌, ◌++◌}
use Prim.Native.Nat.{ℕ, suc, ◌+◌, ◌≤◌, ◌<◌, min}
use native.Mathlib.Nat.{add-zero}
use native.Mathlib.Numerals.{add-one}
use native.Mathlib.Omega.{arith}
use lib.Dec.{leb}
use lib.ListN.{length, take, drop, set, get_or, length-append, take-append-drop}
use lib.Seq.{sets, sets-eq, set_out, take_at, take-suc, length-sets}
use borrow.Author.Tests.{leb-true, leb-false}
use Rattle.whole.proofs.Tests.{by-test}
use Rattle.page.specs.Writing.{Writing, Put, writing, buffer_after}

-- ---- runs of stores

sets-append : (l : List ℕ) (i : ℕ) (s t : List ℕ) → sets (sets l i s) (i + length s) t ≡ sets l i (s ++ t)
sets-append l i [] t = ap (λ (k : ℕ). sets l k t) (add-zero i)
sets-append l i (x ∷ s) t =
    let e : i + suc (length s) ≡ suc i + length s = omega arith in
    ap (λ (k : ℕ). sets (sets (set l i x) (suc i) s) k t) e ∙ sets-append (set l i x) (suc i) s t

-- past the end nothing is stored
sets-out : (l : List ℕ) (i : ℕ) (s : List ℕ) → length l ≤ i → sets l i s ≡ l
sets-out l i [] h = refl
sets-out l i (x ∷ s) h = ap (λ (m : List ℕ). sets m (suc i) s) (set_out l i x h) ∙ sets-out l (suc i) s (omega arith)

-- so a place past the end may be taken for the end
sets-clipped : (l : List ℕ) (i r : ℕ) (s : List ℕ) → r ≡ min i (length l) → sets l r s ≡ sets l i s
sets-clipped l i r s e =
    by-test (leb i (length l)) (λ t. ap (λ (k : ℕ). sets l k s) (omega (arith, leb-true i (length l) t)))
    (λ t.
    sets-out l r s (omega (arith, leb-false i (length l) t))
    ∙ sym (sets-out l i s (omega (arith, leb-false i (length l) t))))

-- ---- texts

pub put-length : {l m : List ℕ} {at r : ℕ} {s : List ℕ} → Put l at s m r → length m ≡ length l
put-length {l} {m} {at} {r} {s} w = ap length w.bytes ∙ length-sets l at s

-- a text, and then another from where it ended
pub then : {l m n : List ℕ} {at r r' : ℕ} {s t : List ℕ} → Put l at s m r → Put m r t n r' → Put l at (s ++ t) n r'
then {l} {m} {n} {at} {r} {r'} {s} {t} v w =
    let k : length (sets l at s) ≡ length l = length-sets l at s in
    record {
      end = omega (arith, v.end, w.end, put-length v, length-append s t);
      bytes =
          w.bytes
          ∙ ap (λ (x : List ℕ). sets x r t) v.bytes
          ∙ sets-clipped (sets l at s) (at + length s) r t (omega (arith, v.end))
          ∙ sets-append l at s t;
    }

pub put-nothing : (l : List ℕ) (at : ℕ) → at ≤ length l → Put l at [] l at
put-nothing l at h = record { end = omega arith; bytes = refl }

pub put-past : (l : List ℕ) (at : ℕ) (s : List ℕ) → length l ≤ at → Put l at s l (length l)
put-past l at s h = record { end = omega arith; bytes = sym (sets-out l at s h) }

-- a place past the end may be taken for the end
pub put-clipped : {l m : List ℕ} {i r : ℕ} {s : List ℕ} (at : ℕ) → i ≡ min at (length l) → Put l i s m r
    → Put l at s m r
put-clipped {l} {m} {i} {r} {s} at e w =
    record { end = omega (arith, e, w.end); bytes = w.bytes ∙ sets-clipped l at i s e }

-- what reached the end has dropped the rest
pub put_full : {l m : List ℕ} {at r : ℕ} (k : ℕ) (s : List ℕ) → length l ≤ r → Put l at (take k s) m r → Put l at s m r
put_full {l} {m} {at} {r} k s h w =
    let e : r ≡ length m = omega (arith, w.end, put-length w) in
    let p : Put m r (drop k s) m r = rw (sym e) at (put-past m r (drop k s) (omega (arith, e))) in
    rw (take-append-drop k s) at (then w p)

-- one more byte of a text
pub put-more : {l m n : List ℕ} {at r r' : ℕ} (s : List ℕ) (i : ℕ) → i < length s → Put l at (take i s) m r
    → Put m r (get_or s i 0 ∷ []) n r'
    → Put l at (take (i + 1) s) n r'
put-more s i h v w =
    let e : take (i + 1) s ≡ take i s ++ (get_or s i 0 ∷ []) =
    ap (λ (k : ℕ). take k s) (add-one i) ∙ take-suc s i 0 h in
    rw e (then v w)

-- ---- with room for all of it

module _ {l m : List ℕ} {r : ℕ} {s : List ℕ} (w : Put l 0 s m r) (h : length s ≤ length l) where
  pub put-ends : r ≡ length s
  put-ends = omega (arith, w.end)

  pub put-start : m ≡ s ++ drop (length s) l
  put-start =
      let e : 0 + length s ≡ length s = omega arith in
      w.bytes ∙ sets-eq s l 0 (omega arith) ∙ ap (λ (k : ℕ). s ++ drop k l) e

  -- the text itself, taken as far as it was written
  pub put_whole : take r m ≡ s
  put_whole = ap (take r) put-start ∙ take_at s (drop (length s) l) r (sym put-ends)

  -- and what comes of it there, put into a buffer, is what comes of the text
  pub emitted : {o : Writing} {after : List ℕ} (buf : List ℕ)
      → (o ≡ writing (take r m) buf) × (after ≡ buffer_after (take r m) buf)
      → (o ≡ writing s buf) × (after ≡ buffer_after s buf)
  emitted buf e = rw put_whole at e
