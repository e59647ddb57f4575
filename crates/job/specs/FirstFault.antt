-- "The first faulty line counts, and in it the lowest number", said by itself.
use Rattle.std.specs.Prelude.{ℕ, zero, suc, ◌+◌, ◌<◌, ◌≡◌, true, false}
use mathlib.Core.List.{List, [], ◌∷◌, ◌++◌, Memᴰ}
use Rattle.verdict.specs.Verdict.{refusal}
use Rattle.field.specs.declared.Field.{Field}
use Rattle.building.specs.Fault.{Fault}
use Rattle.rules.specs.declared.Before.{Before}
use Rattle.rules.specs.declared.Kind.{Kind}
use Rattle.rules.specs.Form.{in_form}
use Rattle.rules.specs.Sections.{forms_by, faults_of}
use Rattle.job.specs.Carried.{Carried, before}
use Rattle.job.specs.Walk.{calls, learn, Reading, Accepted, Refused}

-- a line has fault n by what was read before it: it is out of form and n is 1, or it is in form and one of its faults
-- of that number is found
pub data HasFault (n : ℕ) (b : Before) (fs : List Field) (k : Kind) : Type 0 where
  out-of-form : n ≡ 1 → in_form (forms_by b k) fs ≡ false → HasFault n b fs k
  found : in_form (forms_by b k) fs ≡ true → (f : Fault) → Memᴰ f (faults_of k b fs) → f.found ≡ true → f.number ≡ n
      → HasFault n b fs k

-- line i, counted from 0, has fault n, where each line before it is taken for what was called for: a line missing or
-- extra has fault 1
abbrev pub FaultAt : ℕ → ℕ → List Kind → Carried → List (List Field) → Type 0
FaultAt zero n [] c [] = ⊥
FaultAt zero n [] c (x ∷ xs) = n ≡ 1
FaultAt zero n (k ∷ ks) c [] = n ≡ 1
FaultAt zero n (k ∷ ks) c (x ∷ xs) = HasFault n (before c) x k
FaultAt (suc i) n [] c [] = ⊥
FaultAt (suc i) n [] c (x ∷ xs) = ⊥
FaultAt (suc i) n (k ∷ ks) c [] = ⊥
FaultAt (suc i) n (k ∷ ks) c (x ∷ xs) = FaultAt i n (calls k x ++ ks) (learn k x c) xs

module _ (ks : List Kind) (c : Carried) (xs : List (List Field)) where
  -- every line before line i is in order, and that line has fault n and none of a lower number
  pub record FirstFault (n i : ℕ) : Type 0 where
    pub some : 0 < n
    pub has : FaultAt i n ks c xs
    pub lowest : (m : ℕ) → 0 < m → m < n → FaultAt i m ks c xs → ⊥
    pub first : (h m : ℕ) → h < i → 0 < m → FaultAt h m ks c xs → ⊥

  abbrev pub NoFault : Type 0
  NoFault = (i m : ℕ) → 0 < m → FaultAt i m ks c xs → ⊥

  -- the answer to lines of which the first is number `line`: accepted where there is no fault, else the number and
  -- line of the first
  pub data Answers (line : ℕ) : Reading → Type 0 where
    in_order : (d : Carried) → NoFault → Answers line (Accepted d)
    faulty : (n i : ℕ) → FirstFault n i → Answers line (Refused (refusal n (line + i)))
