-- Laws of the walk over one line and over the entries of a section, and what was there if it ends well.
use Prim.Native.Nat.{ℕ, zero, suc, ◌+◌, ◌<◌}
use mathlib.Core.Path.{◌≡◌, refl, ap, ◌∙◌, sym}
use mathlib.Core.List.{List, [], ◌∷◌, ◌++◌}
use native.Mathlib.Nat.{add-zero}
use native.Mathlib.Omega.{arith}
use lib.ListN.{length, get_or, take}
use lib.Dec.{eqb}
use borrow.Author.Tests.{eq-eqb, ne_eqb, eqb-true, eqb-false}
use Rattle.whole.specs.Lists.{Every}
use Rattle.whole.proofs.Lists.{every-by}
use Rattle.whole.proofs.Tests.{by-test}
use Rattle.verdict.specs.Verdict.{refusal}
use Rattle.field.specs.declared.Field.{Field}
use Rattle.rules.specs.declared.Section.{Section}
use Rattle.rules.specs.declared.Section.TheVariants.{«V», B, W, I, P, F}
use Rattle.rules.specs.declared.Kind.{Kind}
use Rattle.rules.specs.declared.Kind.TheVariants.{Entry}
use Rattle.job.specs.Carried.{Carried, before}
use Rattle.rules.specs.Sections.{forms_by, line_fault}
use Rattle.rules.proofs.Form.{AllFormed}
use Rattle.rules.proofs.Line.{in_order}
use Rattle.job.specs.Walk.{entries, calls, learn, Accepted, Refused, walk}

-- ---- one line

module _ (k : Kind) (ks : List Kind) (c : Carried) (line : ℕ) (x : List Field) (xs : List (List Field)) where
  pub walk_refused : (line_fault k (before c) x ≡ 0 → ⊥)
      → walk (k ∷ ks) c line (x ∷ xs) ≡ Refused (refusal (line_fault k (before c) x) line)
  unfolding walk
  walk_refused h = rw (ne_eqb _ _ h)

  pub walk-on : line_fault k (before c) x ≡ 0
      → walk (k ∷ ks) c line (x ∷ xs) ≡ walk (calls k x ++ ks) (learn k x c) (line + 1) xs
  unfolding walk
  walk-on h = rw (eq-eqb _ _ h)

  pub accepted-line : {e : Carried} → walk (k ∷ ks) c line (x ∷ xs) ≡ Accepted e → line_fault k (before c) x ≡ 0
  accepted-line {e} a =
      by-test (eqb (line_fault k (before c) x) 0) (λ q. eqb-true _ _ q)
      (λ q. absurd (let z : ◌≡◌ {A = ℕ} 0 1 = cc (walk_refused (eqb-false _ _ q)) in omega arith))

  pub accepted-next : {e : Carried} → walk (k ∷ ks) c line (x ∷ xs) ≡ Accepted e
      → walk (calls k x ++ ks) (learn k x c) (line + 1) xs ≡ Accepted e
  accepted-next a = sym (walk-on (accepted-line a)) ∙ a

pub accepted-some : (k : Kind) (ks : List Kind) (c e : Carried) (line : ℕ) → walk (k ∷ ks) c line [] ≡ Accepted e → ⊥
unfolding walk
accepted-some k ks c e line a = let z : ◌≡◌ {A = ℕ} 0 1 = cc in omega arith

pub accepted-no-more : (c e : Carried) (line : ℕ) (x : List Field) (xs : List (List Field))
    → walk [] c line (x ∷ xs) ≡ Accepted e → ⊥
unfolding walk
accepted-no-more c e line x xs a = let z : ◌≡◌ {A = ℕ} 0 1 = cc in omega arith

pub accepted-end : (c e : Carried) (line : ℕ) (xs : List (List Field)) → walk [] c line xs ≡ Accepted e → xs ≡ []
accepted-end c e line [] a = refl
accepted-end c e line (x ∷ xs) a = absurd (accepted-no-more c e line x xs a)

-- ---- the entries of a section

abbrev pub learn_all : Section → List (List Field) → Carried → Carried
learn_all s [] c = c
learn_all s (x ∷ xs) c = learn_all s xs (learn (Entry s) x c)

-- lines in order as entries of a section, each by what was read before it
abbrev pub EntriesInOrder : Section → Carried → List (List Field) → Type 0
EntriesInOrder s c [] = Unit
EntriesInOrder s c (x ∷ xs) = (line_fault (Entry s) (before c) x ≡ 0) × EntriesInOrder s (learn (Entry s) x c) xs

module _ (s : Section) (ks : List Kind) where
  pub entries-walk : (xs rest : List (List Field)) (c : Carried) (line : ℕ) → EntriesInOrder s c xs
      → walk (entries s (length xs) ++ ks) c line (xs ++ rest) ≡ walk ks (learn_all s xs c) (line + length xs) rest
  entries-walk [] rest c line h = rw add-zero
  entries-walk (x ∷ xs) rest c line h =
      let l : line + 1 + length xs ≡ line + suc (length xs) = omega arith in
      walk-on (Entry s) (entries s (length xs) ++ ks) c line x (xs ++ rest) h.0
      ∙ entries-walk xs rest (learn (Entry s) x c) (line + 1) h.1
      ∙ ap (λ (n : ℕ). walk ks (learn_all s (x ∷ xs) c) n rest) l

  pub entries-in-order : (xs rest : List (List Field)) (c e : Carried) (line : ℕ)
      → walk (entries s (length xs) ++ ks) c line (xs ++ rest) ≡ Accepted e → EntriesInOrder s c xs
  entries-in-order [] rest c e line a = tt
  entries-in-order (x ∷ xs) rest c e line a =
      let ls = entries s (length xs) ++ ks in (
        accepted-line (Entry s) ls c line x (xs ++ rest) a,
        entries-in-order xs rest (learn (Entry s) x c) e (line + 1)
            (accepted-next (Entry s) ls c line x (xs ++ rest) a),
      )

  -- the first entry that is not in order
  pub entries-refused : (xs rest : List (List Field)) (i : ℕ) (c : Carried) (line : ℕ) → i < length xs
      → EntriesInOrder s c (take i xs)
      → (line_fault (Entry s) (before (learn_all s (take i xs) c)) (get_or xs i []) ≡ 0 → ⊥)
      → walk (entries s (length xs) ++ ks) c line (xs ++ rest) ≡ Refused
      (refusal (line_fault (Entry s) (before (learn_all s (take i xs) c)) (get_or xs i [])) (line + i))
  entries-refused [] rest i c line n h z = absurd (omega arith)
  entries-refused (x ∷ xs) rest zero c line n h z =
      walk_refused (Entry s) (entries s (length xs) ++ ks) c line x (xs ++ rest) z ∙ rw add-zero
  entries-refused (x ∷ xs) rest (suc i) c line n h z =
      let d = learn (Entry s) x c in
      let l : line + 1 + i ≡ line + suc i = omega arith in
      walk-on (Entry s) (entries s (length xs) ++ ks) c line x (xs ++ rest) h.0
      ∙ entries-refused xs rest i d (line + 1) (omega arith) h.1 z
      ∙ ap (λ (m : ℕ). Refused (refusal (line_fault (Entry s) (before (learn_all s (take i xs) d))
      (get_or xs i [])) m)) l

module _ (s : Section) where
  -- one entry more that is
  pub entries_next : (xs : List (List Field)) (i : ℕ) (c : Carried) → i < length xs
      → EntriesInOrder s c (take i xs)
      → line_fault (Entry s) (before (learn_all s (take i xs) c)) (get_or xs i []) ≡ 0
      → EntriesInOrder s c (take (suc i) xs)
  entries_next [] i c n h z = absurd (omega arith)
  entries_next (x ∷ xs) zero c n h z = (z, tt)
  entries_next (x ∷ xs) (suc i) c n h z = (h.0, entries_next xs i (learn (Entry s) x c) (omega arith) h.1 z)

-- the form of an entry goes by nothing that others of its section say
form-kept : (s : Section) (y : List Field) (c : Carried)
    → forms_by (before (learn (Entry s) y c)) (Entry s) ≡ forms_by (before c) (Entry s)
form-kept «V» y c = refl
form-kept B y c = refl
form-kept W y c = refl
form-kept I y c = refl
form-kept P y c = refl
form-kept F y c = refl

-- entries in order are in form
pub entries-formed : (s : Section) (xs : List (List Field)) (c : Carried) → EntriesInOrder s c xs
    → Every (AllFormed (forms_by (before c) (Entry s))) xs
entries-formed s [] c h = tt
entries-formed s (x ∷ xs) c h = (
  (in_order (Entry s) (before c) x h.0).formed,
  rw (form-kept s x c) at (entries-formed s xs (learn (Entry s) x c) h.1),
)

-- ---- what the entries of a section tell each other

-- nothing, but in a profile, where heights rise
abbrev pub Apart : Section → Type 0
Apart «V» = Unit
Apart B = Unit
Apart W = Unit
Apart I = Unit
Apart P = ⊥
Apart F = Unit

entry-tells : (s : Section) → Apart s → (y : List Field) (c : Carried) (x : List Field)
    → line_fault (Entry s) (before (learn (Entry s) y c)) x ≡ line_fault (Entry s) (before c) x
unfolding line_fault
entry-tells «V» a y c x = refl
entry-tells B a y c x = refl
entry-tells W a y c x = refl
entry-tells I a y c x = refl
entry-tells P a y c x = absurd a
entry-tells F a y c x = refl

module _ (s : Section) (a : Apart s) where
  pub entries-tell : (ys : List (List Field)) (c : Carried) (x : List Field)
      → line_fault (Entry s) (before (learn_all s ys c)) x ≡ line_fault (Entry s) (before c) x
  entries-tell [] c x = refl
  entries-tell (y ∷ ys) c x = entries-tell ys (learn (Entry s) y c) x ∙ entry-tells s a y c x

  -- so each of them is in order by what was read before all
  pub entries-every : (xs : List (List Field)) (c : Carried) → EntriesInOrder s c xs
      → Every (λ x. line_fault (Entry s) (before c) x ≡ 0) xs
  entries-every [] c h = tt
  entries-every (x ∷ xs) c h =
      (h.0, every-by (λ y e. sym (entry-tells s a x c y) ∙ e) xs (entries-every xs (learn (Entry s) x c) h.1))

  pub every-entry : (xs : List (List Field)) (c : Carried) → Every (λ x. line_fault (Entry s) (before c) x ≡ 0) xs
      → EntriesInOrder s c xs
  every-entry [] c h = tt
  every-entry (x ∷ xs) c h =
      (h.0, every-entry xs (learn (Entry s) x c) (every-by (λ y e. entry-tells s a x c y ∙ e) xs h.1))

-- the first n lines, and the rest
pub record Split (n : ℕ) (xs : List (List Field)) : Type 0 where
  pub front : List (List Field)
  pub rest : List (List Field)
  pub is : xs ≡ front ++ rest
  pub many : length front ≡ n

pub entries-there : (s : Section) (ks : List Kind) (n : ℕ) (c e : Carried) (line : ℕ) (xs : List (List Field))
    → walk (entries s n ++ ks) c line xs ≡ Accepted e → Split n xs
entries-there s ks zero c e line xs a = record { front = []; rest = xs; is = refl; many = refl }
entries-there s ks (suc n) c e line [] a = absurd (accepted-some (Entry s) (entries s n ++ ks) c e line a)
entries-there s ks (suc n) c e line (x ∷ xs) a =
    let t =
    entries-there s ks n (learn (Entry s) x c) e (line + 1) xs
    (accepted-next (Entry s) (entries s n ++ ks) c line x xs a) in
    record {
      front = x ∷ t.front;
      rest = t.rest;
      is = ap (λ (l : List (List Field)). x ∷ l) t.is;
      many = ap suc t.many;
    }
