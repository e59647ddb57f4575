-- Laws of a plain line: fields in form that stand one after another up to LF are the line there, and what they say.
use Prim.Native.Nat.{ℕ, suc, ◌+◌, ◌≤◌, ◌<◌}
use mathlib.Core.Path.{◌≡◌, refl, ap, ◌∙◌, sym}
use mathlib.Core.Bool.{Bool, true, false}
use mathlib.Core.List.{List, [], ◌∷◌, ◌++◌, map, append_assoc}
use native.Mathlib.Omega.{arith}
use lib.Dec.{ltb}
use lib.IntN.{ℤ, pos, negsuc, nat_abs}
use lib.ListN.{length, get_or, take, drop, length-drop, length-append, length-map, get_or-eq_default}
use lib.Seq.{length-take-le, get_or-take}
use borrow.Author.Tests.{le-ltb, ne_eqb, ltb-true, ltb-false}
use Rattle.whole.specs.Lists.{Every}
use Rattle.whole.proofs.Tests.{by-test}
use Rattle.whole.proofs.Lists.{get_d_map, map-every, every-by}
use Rattle.field.specs.declared.Field.{Field}
use Rattle.field.specs.declared.Field.TheVariants.{Bad, Letter}
use Rattle.lines.specs.Lines.{field_text, line_text, InForm}
use Rattle.lines.specs.Held.{held, first_line, line_at}
use Rattle.lines.proofs.Lines.{split-until, split-seam}
use Rattle.lines.proofs.Held.{held_all}
use Rattle.lines.proofs.Round.{line-free, line-fields}
use Rattle.entry.specs.Says.{number, size, mark, letter, at}
use Rattle.building.specs.Test.{too_long}
use Rattle.rules.specs.declared.FieldForm.TheVariants as form
use Rattle.building.specs.Fault.{first}
use Rattle.building.specs.Year.{has_heights}
use Rattle.rules.specs.declared.Before.{Before}
use Rattle.rules.specs.declared.Section.{Section}
use Rattle.rules.specs.declared.Kind.TheVariants.{Count}
use Rattle.rules.specs.Form.{has_form, in_form, number_forms}
use Rattle.rules.specs.Sections.{forms, count_faults, line_fault}
use Rattle.rules.proofs.Line.{fault-in}
use Rattle.sheet.specs.declared.plainly.Numbers.{Numbers}
use Rattle.sheet.specs.Said.{six_numbers, number_field, Short, NumberStands, MarkStands, HeightStands}
use Rattle.sheet.specs.Said.{NumbersStand, PlainFace}
use Rattle.sheet.proofs.Plain.{number-text}

-- ---- the line

pub line-stands : (s : List ℕ) (from next : ℕ) (fs : List Field) → next ≤ length s → 0 < length fs → length fs ≤ 6
    → Every InForm fs → drop from s ≡ line_text fs ++ (10 ∷ drop next s)
    → (held (line_at s from) ≡ fs) × ((line_at s from).next ≡ next)
unfolding line_at first_line
line-stands s from next [] h some six a e = absurd (omega (arith, some))
line-stands s from next (f ∷ fs) h some six a e =
    let l : length (drop from s) ≡ length (line_text (f ∷ fs)) + suc (length (drop next s)) =
    ap length e ∙ length-append (line_text (f ∷ fs)) (10 ∷ drop next s) in
    let n : from + length (line_text (f ∷ fs)) + 1 ≡ next = omega (arith, l, length-drop from s, length-drop next s) in
    rw (
      e,
      split-seam 10 (line_text (f ∷ fs)) (drop next s) (line-free (f ∷ fs) a),
      split-until 10 (drop next s),
      n,
      line-fields f fs a,
    )
    (held_all next (f ∷ fs) six)

-- ---- numbers as fields

pub number_is : (z : ℤ) → number (number_field z) ≡ z
number_is (pos n) = refl
number_is (negsuc n) = refl

mark-is : (z : ℤ) → mark (number_field z) ≡ z
mark-is (pos n) = refl
mark-is (negsuc n) = refl

-- it is no letter
no-letter : (zs : List ℤ) → letter (at (map number_field zs) 0) ≤ 90
no-letter [] = omega arith
no-letter (pos n ∷ zs) = omega arith
no-letter (negsuc n ∷ zs) = omega arith

number-form : (z : ℤ) → Short z → InForm (number_field z)
number-form (pos n) h = h
number-form (negsuc n) h = (omega arith, h)

pub numbers-form : (zs : List ℤ) → Every Short zs → Every InForm (map number_field zs)
numbers-form zs h = map-every InForm number_field zs (every-by number-form zs h)

pub number_short : (z : ℤ) → Short z → has_form form.Number (number_field z) ≡ true
unfolding has_form too_long
number_short (pos n) h = rw (le-ltb 9999999 n (omega (arith, h)))
number_short (negsuc n) h =
    rw (ne_eqb (suc n) 0 (λ (e : suc n ≡ 0). omega arith), le-ltb 9999999 (suc n) (omega (arith, h)))

mark-short : (z : ℤ) → Short z → has_form form.Mark (number_field z) ≡ true
unfolding has_form
mark-short (pos n) h = number_short (pos n) h
mark-short (negsuc n) h = number_short (negsuc n) h

count-form : (l : ℕ) (z : ℤ) → in_form (form.Capital ∷ form.Count ∷ []) (Letter l ∷ number_field z ∷ []) ≡ true
unfolding in_form has_form
count-form l (pos n) = refl
count-form l (negsuc n) = rw (ne_eqb (suc n) 0 (λ (e : suc n ≡ 0). omega arith))

pub numbers-short : (zs : List ℤ) → Every Short zs → in_form (number_forms (length zs)) (map number_field zs) ≡ true
unfolding in_form
numbers-short [] h = refl
numbers-short (z ∷ zs) h = rw (number_short z h.0) (numbers-short zs h.1)

-- ---- six numbers

pub six-are : (v : List ℤ) → length v ≡ 6
    → v
    ≡ get_or v 0 (pos 0)
    ∷ get_or v 1 (pos 0)
    ∷ get_or v 2 (pos 0)
    ∷ get_or v 3 (pos 0)
    ∷ get_or v 4 (pos 0)
    ∷ get_or v 5 (pos 0)
    ∷ []
six-are [] h = absurd (omega (arith, h))
six-are (a ∷ []) h = absurd (omega (arith, h))
six-are (a ∷ b ∷ []) h = absurd (omega (arith, h))
six-are (a ∷ b ∷ c ∷ []) h = absurd (omega (arith, h))
six-are (a ∷ b ∷ c ∷ d ∷ []) h = absurd (omega (arith, h))
six-are (a ∷ b ∷ c ∷ d ∷ e ∷ []) h = absurd (omega (arith, h))
six-are (a ∷ b ∷ c ∷ d ∷ e ∷ f ∷ []) h = refl
six-are (a ∷ b ∷ c ∷ d ∷ e ∷ f ∷ g ∷ v) h = absurd (omega (arith, h))

-- zeros behind the first n
module _ (n : ℕ) (v : List ℤ) (six : length v ≡ 6) (few : n ≤ 6)
    (zeros : (i : ℕ) → n ≤ i → i < 6 → get_or v i (pos 0) ≡ pos 0) where
  first-length : length (take n v) ≡ n
  first-length = length-take-le n v (omega (arith, six))

  number_at : (i : ℕ) → i < 6 → get_or v i (pos 0) ≡ number (at (map number_field (take n v)) i)
  number_at i l =
      by-test (ltb i n)
      (λ t.
      let h = ltb-true i n t in
      sym
      (ap number (get_d_map number_field (take n v) i (pos 0) Bad (omega (arith, first-length)))
      ∙ number_is (get_or (take n v) i (pos 0))
      ∙ get_or-take n v i (pos 0) h))
      (λ t.
      zeros i (ltb-false i n t) l
      ∙ sym
      (ap number
      (get_or-eq_default (map number_field (take n v)) Bad
      (omega (arith, length-map (take n v) number_field, first-length, ltb-false i n t)))))

  pub numbers-said : v ≡ six_numbers (map number_field (take n v))
  numbers-said =
      six-are v six
      ∙ (λ i.
      number_at 0 (omega arith) i
      ∷ number_at 1 (omega arith) i
      ∷ number_at 2 (omega arith) i
      ∷ number_at 3 (omega arith) i
      ∷ number_at 4 (omega arith) i
      ∷ number_at 5 (omega arith) i
      ∷ [])

-- they are all that a line of the text says
pub numbers-plain : (n : ℕ) (s : List ℕ) (from : ℕ) (w : Numbers) → 0 < n → n ≤ 6
    → (w.next ≤ length s) × (length w.number ≡ 6) × NumbersStand s from (take n w.number) w.next
    × ((i : ℕ) → n ≤ i → i < 6 → get_or w.number i (pos 0) ≡ pos 0)
    → ((line_at s from).next ≡ w.next) × (in_form (number_forms n) (held (line_at s from)) ≡ true)
    × (w.number ≡ six_numbers (held (line_at s from))) × (letter (at (held (line_at s from)) 0) ≤ 90)
numbers-plain n s from w some few (h, six, stand, zeros) =
    let v = w.number in
    let zs = take n v in
    let m = first-length n v six few zeros in
    let k : length (map number_field zs) ≡ n = length-map zs number_field ∙ m in
    let l =
    line-stands s from w.next (map number_field zs) h (omega (arith, k)) (omega (arith, k))
    (numbers-form zs stand.1) stand.0 in
    let short = numbers-short zs stand.1 in (
      l.1,
      rw l.0 (rw m at short),
      rw l.0 (numbers-said n v six few zeros),
      rw l.0 (no-letter zs),
    )

-- ---- a line field by field: a count, and a face

-- f stands at a place, a space behind it, and then fields
fields-on : (s : List ℕ) (from behind : ℕ) (f g : Field) (fs : List Field) (t : List ℕ)
    → drop from s ≡ field_text f ++ (32 ∷ drop behind s) → drop behind s ≡ line_text (g ∷ fs) ++ t
    → drop from s ≡ line_text (f ∷ g ∷ fs) ++ t
unfolding line_text
fields-on s from behind f g fs t e r =
    e
    ∙ ap (λ (l : List ℕ). field_text f ++ (32 ∷ l)) r
    ∙ sym (append_assoc (field_text f) (32 ∷ line_text (g ∷ fs)) t)

-- a number there
module _ {s : List ℕ} {from : ℕ} {z : ℤ} {x next : ℕ} (n : NumberStands s from z x next) where
  number-stands : drop from s ≡ field_text (number_field z) ++ (x ∷ drop next s)
  number-stands = n.text ∙ ap (λ (l : List ℕ). l ++ (x ∷ drop next s)) (sym (number-text z))

  number-last : drop from s ≡ line_text (number_field z ∷ []) ++ (x ∷ drop next s)
  unfolding line_text
  number-last = number-stands

number-on : {s : List ℕ} {from : ℕ} {z : ℤ} {next : ℕ} → NumberStands s from z 32 next
    → (g : Field) (fs : List Field) (t : List ℕ) → drop next s ≡ line_text (g ∷ fs) ++ t
    → drop from s ≡ line_text (number_field z ∷ g ∷ fs) ++ t
number-on {s} {from} {z} {next} n g fs t = fields-on s from next (number_field z) g fs t (number-stands n)

-- as a mark
pub mark-number : {s : List ℕ} {from : ℕ} {z : ℤ} {next : ℕ} → NumberStands s from z 32 next
    → MarkStands s from z next
mark-number {z = z} n =
    record {
      field = number_field z;
      formed = number-form z n.short;
      marks = mark-short z n.short;
      says = mark-is z;
      text = number-stands n;
      goes_on = n.goes_on (λ e. omega (arith, e));
    }

-- behind a height, or none, the text goes on
pub height-on : (heights : Bool) (s : List ℕ) (z : ℤ) (from next : ℕ) → from < length s
    → HeightStands heights s from z next → next < length s
height-on true s z from next h hs = hs.goes_on (λ e. omega (arith, e))
height-on false s z from next h hs = omega (arith, hs.0)

-- a letter and a space stand at a place
module _ (zone : ℕ) (lo : 65 ≤ zone) (hi : zone ≤ 90)
    (s : List ℕ) (from : ℕ) (e : drop from s ≡ zone ∷ 32 ∷ drop (from + 2) s) where
  pub face-plain : (heights : Bool) (m h x y z : ℤ) (a b c d next : ℕ) → MarkStands s (from + 2) m a
      → NumberStands s b x 32 c → NumberStands s c y 32 d → NumberStands s d z 10 next → HeightStands heights s a h b
      → PlainFace heights s from
      (record { next = next; face = record { zone = zone; mark = m; height = h; x = x; y = y; z = z } })
  unfolding in_form has_form
  face-plain true m h x y z a b c d next ms xs ys zs hs =
      let f = ms.field in
      let four = number_field h ∷ number_field x ∷ number_field y ∷ number_field z ∷ [] in
      let all : Every Short (h ∷ x ∷ y ∷ z ∷ []) = (hs.short, (xs.short, (ys.short, (zs.short, tt)))) in
      let t : List ℕ = 10 ∷ drop next s in
      let l =
      line-stands s from next (Letter zone ∷ f ∷ four) zs.within (omega arith) (omega arith)
      ((lo, hi), (ms.formed, numbers-form (h ∷ x ∷ y ∷ z ∷ []) all))
      (fields-on s from (from + 2) (Letter zone) f four t e
      (fields-on s (from + 2) a f (number_field h) (number_field x ∷ number_field y ∷ number_field z ∷ []) t ms.text
      (number-on hs (number_field x) (number_field y ∷ number_field z ∷ []) t
      (number-on xs (number_field y) (number_field z ∷ []) t
      (number-on ys (number_field z) [] t (number-last zs)))))) in (
        l.1,
        rw l.0 (rw ms.marks (numbers-short (h ∷ x ∷ y ∷ z ∷ []) all)),
        rw l.0
            (λ i. record {
              zone = zone;
              mark = sym ms.says i;
              height = sym (number_is h) i;
              x = sym (number_is x) i;
              y = sym (number_is y) i;
              z = sym (number_is z) i;
            }),
      )
  face-plain false m h x y z a b c d next ms xs ys zs hs =
      let f = ms.field in
      let three = number_field x ∷ number_field y ∷ number_field z ∷ [] in
      let all : Every Short (x ∷ y ∷ z ∷ []) = (xs.short, (ys.short, (zs.short, tt))) in
      let t : List ℕ = 10 ∷ drop next s in
      let l =
      line-stands s from next (Letter zone ∷ f ∷ three) zs.within (omega arith) (omega arith)
      ((lo, hi), (ms.formed, numbers-form (x ∷ y ∷ z ∷ []) all))
      (fields-on s from (from + 2) (Letter zone) f three t e
      (fields-on s (from + 2) a f (number_field x) (number_field y ∷ number_field z ∷ []) t ms.text
      (ap (λ (k : ℕ). drop k s) hs.0
      ∙ number-on xs (number_field y) (number_field z ∷ []) t
      (number-on ys (number_field z) [] t (number-last zs))))) in (
        l.1,
        rw l.0 (rw ms.marks (numbers-short (x ∷ y ∷ z ∷ []) all)),
        rw l.0
            (λ i. record {
              zone = zone;
              mark = sym ms.says i;
              height = hs.1 i;
              x = sym (number_is x) i;
              y = sym (number_is y) i;
              z = sym (number_is z) i;
            }),
      )

  -- the count of a section
  pub count-plain : (t : Section) (before : Before) (z : ℤ) (next : ℕ) → NumberStands s (from + 2) z 10 next
      → (first (count_faults before.year t zone z) ≡ line_fault (Count t) before (held (line_at s from)))
      × ((line_at s from).next ≡ next) × (nat_abs z ≡ size (at (held (line_at s from)) 1))
  count-plain t before z next stands =
      let fs = Letter zone ∷ number_field z ∷ [] in
      let l =
      line-stands s from next fs stands.within (omega arith) (omega arith)
      ((lo, hi), (number-form z stands.short, tt))
      (fields-on s from (from + 2) (Letter zone) (number_field z) [] (10 ∷ drop next s) e (number-last stands)) in (
        rw l.0 (rw (number_is z) at (sym (fault-in (Count t) before fs (counts z)))),
        l.1,
        rw l.0 (sizes z),
      )
    where
      counts : (z : ℤ)
          → in_form (forms (has_heights before.year) (Count t)) (Letter zone ∷ number_field z ∷ []) ≡ true
      counts z = count-form zone z

      sizes : (z : ℤ) → nat_abs z ≡ size (number_field z)
      sizes (pos n) = refl
      sizes (negsuc n) = refl
