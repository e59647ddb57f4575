-- A section is accepted exactly if its count is within the limits and its entries are in order.
use Prim.Native.Nat.{ℕ, zero, suc, ◌+◌, ◌<◌}
use mathlib.Core.Path.{◌≡◌, refl, ap, ◌∙◌, sym, subst}
use mathlib.Core.List.{List, [], ◌∷◌, ◌++◌}
use mathlib.Core.Bool.{false, not}
use native.Mathlib.Omega.{arith}
use lib.Dec.{eqb}
use lib.IntN.{ℤ, pos, negsuc}
use lib.Signed.{◌≤ℤ◌}
use lib.ListN.{length, get_or, take}
use borrow.Author.Tests.{eq-eqb, eqb-true, not-false}
use Rattle.whole.proofs.Parts.{le-by}
use Rattle.verdict.specs.Verdict.{refusal}
use Rattle.field.specs.declared.Field.{Field}
use Rattle.field.specs.declared.Field.TheVariants.{Plus, Letter}
use Rattle.building.specs.Test.{beyond}
use Rattle.building.proofs.Accepted.{within}
use Rattle.building.proofs.Ranges.{is_within}
use Rattle.rules.specs.declared.Before.{Before}
use Rattle.rules.specs.declared.Section.{Section}
use Rattle.rules.specs.declared.Kind.{Kind}
use Rattle.rules.specs.declared.Kind.TheVariants.{Count, Entry}
use Rattle.job.specs.Carried.{Carried, before}
use Rattle.entry.specs.Says as say
use Rattle.entry.specs.Says.{number, at}
use Rattle.rules.specs.Sections.{about, forms_by, line_fault}
use Rattle.job.specs.Lines.{section_of}
use Rattle.job.specs.Walk.{entries, Accepted, Refused, walk}
use Rattle.job.specs.InOrder.{Within}
use Rattle.rules.proofs.Form.{AllFormed, none, more, letter, count, count-below}
use Rattle.rules.proofs.Line.{in_order, order-in}
use Rattle.job.proofs.Walk.{walk-on, walk_refused, entries-refused, accepted-line, accepted-next}
use Rattle.job.proofs.Walk.{accepted-some, learn_all, EntriesInOrder, entries-walk, entries-in-order}
use Rattle.job.proofs.Walk.{entries-there}

-- ---- the count of a section

abbrev pub Counted : ℤ → Section → ℕ → Type 0
Counted year s n = Within (about s).least ((about s).most year) n

abbrev pub count_line : Section → ℕ → List Field
count_line s n = Letter (about s).letter ∷ Plus n ∷ []

count-in-order : (s : Section) (b : Before) (n : ℕ) → Counted b.year s n
    → line_fault (Count s) b (count_line s n) ≡ 0
count-in-order s b n w =
    let l = (about s).letter in
    let most = (about s).most b.year in
    let low : pos (about s).least ≤ℤ pos n = le-by _ _ (omega (arith, w.low)) in
    let high : pos n ≤ℤ pos most = le-by _ _ (omega (arith, w.high)) in
    order-in (Count s) b (count_line s n)
    (record {
      formed = more letter (more count none);
      none =
          (ap not (eq-eqb l l refl), (is_within (pos (about s).least) (pos most) (pos n) low high, tt));
    })

-- a count line in order is the letter and the count
pub record CountLine (year : ℤ) (s : Section) (x : List Field) : Type 0 where
  pub count : ℕ
  pub is : x ≡ count_line s count
  pub counted : Counted year s count

count_of : (s : Section) (b : Before) {x : List Field} → AllFormed (forms_by b (Count s)) x
    → not (eqb (say.letter (at x 0)) (about s).letter) ≡ false
    → beyond (pos (about s).least) (pos ((about s).most b.year)) (number (at x 1)) ≡ false → CountLine b.year s x
count_of s b (more (letter {b = l}) (more (count {m = n}) none)) e h =
    let t = within (about s).least ((about s).most b.year) (pos n) h in
    record {
      count = n;
      is = ap (λ (y : ℕ). Letter y ∷ Plus n ∷ []) (eqb-true l (about s).letter (not-false _ e));
      counted = record { low = t.from; high = t.to };
    }
count_of s b (more (letter {b = l}) (more (count-below {m = zero} p) none)) e h = absurd (omega arith)
count_of s b (more (letter {b = l}) (more (count-below {m = suc n} p) none)) e h =
    let t = within (about s).least ((about s).most b.year) (negsuc n) h in
    absurd (let q : ◌≡◌ {A = ℕ} 0 1 = cc t.plain in omega arith)

pub count-says : (s : Section) (b : Before) (x : List Field) → line_fault (Count s) b x ≡ 0 → CountLine b.year s x
count-says s b x z = let o = in_order (Count s) b x z in count_of s b o.formed o.none.0 o.none.1.0

pub count-counted : (s : Section) (b : Before) (n : ℕ) → line_fault (Count s) b (count_line s n) ≡ 0
    → Counted b.year s n
count-counted s b n z =
    let t = count-says s b (count_line s n) z in
    let e : n ≡ t.count = cc t.is in
    subst (Counted b.year s) (sym e) t.counted

-- ---- a section

module _ (s : Section) (ks : List Kind) (c : Carried) (line : ℕ) where
  pub section-walk : (xs rest : List (List Field)) → Counted c.year s (length xs) → EntriesInOrder s c xs
      → walk (Count s ∷ ks) c line (section_of s xs ++ rest) ≡ walk ks (learn_all s xs c) (line + 1 + length xs) rest
  section-walk xs rest w h =
      walk-on (Count s) ks c line (count_line s (length xs)) (xs ++ rest)
      (count-in-order s (before c) (length xs) w)
      ∙ entries-walk s ks xs rest c (line + 1) h

  -- refused at its count, or at the first entry that is not in order
  pub count-refused : (xs rest : List (List Field))
      → (line_fault (Count s) (before c) (count_line s (length xs)) ≡ 0 → ⊥)
      → walk (Count s ∷ ks) c line (section_of s xs ++ rest) ≡ Refused
      (refusal (line_fault (Count s) (before c) (count_line s (length xs))) line)
  count-refused xs rest z = walk_refused (Count s) ks c line (count_line s (length xs)) (xs ++ rest) z

  pub section-refused : (xs rest : List (List Field)) (i : ℕ) → Counted c.year s (length xs) → i < length xs
      → EntriesInOrder s c (take i xs)
      → (line_fault (Entry s) (before (learn_all s (take i xs) c)) (get_or xs i []) ≡ 0 → ⊥)
      → walk (Count s ∷ ks) c line (section_of s xs ++ rest) ≡ Refused
      (refusal (line_fault (Entry s) (before (learn_all s (take i xs) c)) (get_or xs i [])) (line + 1 + i))
  section-refused xs rest i w n h z =
      walk-on (Count s) ks c line (count_line s (length xs)) (xs ++ rest)
      (count-in-order s (before c) (length xs) w)
      ∙ entries-refused s ks xs rest i c (line + 1) n h z

  module _ (e : Carried) where
    pub section-in-order : (xs rest : List (List Field))
        → walk (Count s ∷ ks) c line (section_of s xs ++ rest) ≡ Accepted e
        → Counted c.year s (length xs) × EntriesInOrder s c xs
    section-in-order xs rest a =
        let x = count_line s (length xs) in (
          count-counted s (before c) (length xs) (accepted-line (Count s) ks c line x (xs ++ rest) a),
          entries-in-order s ks xs rest c e (line + 1)
              (accepted-next (Count s) ks c line x (xs ++ rest) a),
        )

    -- lines that are accepted begin with the section
    pub record Begun (xs : List (List Field)) : Type 0 where
      pub front : List (List Field)
      pub rest : List (List Field)
      pub is : xs ≡ section_of s front ++ rest

    section-there : (xs : List (List Field)) → walk (Count s ∷ ks) c line xs ≡ Accepted e → Begun xs
    section-there [] a = absurd (accepted-some (Count s) ks c e line a)
    section-there (x ∷ xs) a =
        let t = count-says s (before c) x (accepted-line (Count s) ks c line x xs a) in
        let b : walk (entries s t.count ++ ks) c (line + 1) xs ≡ Accepted e =
        rw t.is at (accepted-next (Count s) ks c line x xs a) in
        let u = entries-there s ks t.count c e (line + 1) xs b in
        record { front = u.front; rest = u.rest; is = cc (t.is, u.is, u.many) }

    -- and go on behind it
    pub section-begun : (xs : List (List Field)) → walk (Count s ∷ ks) c line xs ≡ Accepted e
        → (t : Begun xs) × (walk ks (learn_all s t.front c) (line + 1 + length t.front) t.rest ≡ Accepted e)
    section-begun xs a =
        let t = section-there xs a in
        let b = subst (λ (l : List (List Field)). walk (Count s ∷ ks) c line l ≡ Accepted e) t.is a in
        let u = section-in-order t.front t.rest b in
        (t, sym (section-walk t.front t.rest u.0 u.1) ∙ b)
