-- Laws of face lines read one after another: the first so many, one more, and what was then read of the text.
use Prim.Native.Nat.{ℕ, zero, suc, ◌+◌, ◌-◌, ◌*◌, ◌≤◌, ◌<◌}
use mathlib.Core.Path.{◌≡◌, refl, sym, subst}
use mathlib.Core.Bool.{Bool}
use mathlib.Core.List.{List}
use native.Mathlib.Omega.{arith}
use lib.IntN.{ℤ}
use lib.Seq.{sets}
use Rattle.lines.specs.Held.{held, line_at}
use Rattle.building.specs.Year.{has_heights}
use Rattle.entry.specs.Says.{face_of}
use Rattle.entry.specs.Flat.{per_face, numbers_of}
use Rattle.rules.specs.declared.Before.{Before}
use Rattle.rules.specs.declared.Section.{Section}
use Rattle.rules.specs.declared.Section.TheVariants.{F}
use Rattle.rules.specs.declared.Kind.TheVariants.{Entry}
use Rattle.rules.specs.Sections.{section_at, line_fault}
use Rattle.job.specs.declared.Winds.{Winds}
use Rattle.job.specs.declared.Internals.{Internals}
use Rattle.job.specs.declared.Profile.{Profile}
use Rattle.sheet.specs.Said.{FacesRead}
use Rattle.sheet.specs.Parts.{setting_of}
use Rattle.sheet.proofs.SoFar.{ReadSoFar, EntryLine, entry_read}

-- ---- the first so many

module _ (s : List ℕ) (b : Before) (from faces : ℕ) (lent : List ℤ) where
  -- what comes of the lines behind them comes of all
  abbrev pub Passed : ℕ → ℕ → List ℤ → Type 0
  Passed done next list =
      (k to : ℕ) (after : List ℤ) → FacesRead s b k next (faces + done) list to after
      → FacesRead s b (done + k) from faces lent to after

  pub none_passed : Passed 0 from lent
  none_passed k to after r =
      let q : faces + 0 ≡ faces = omega arith in
      let l : k ≡ 0 + k = omega arith in
      subst (λ (m : ℕ). FacesRead s b m from faces lent to after) l
      (subst (λ (n : ℕ). FacesRead s b k from n lent to after) q r)

  pub all-passed : (done next : ℕ) (list : List ℤ) → Passed done next list
      → FacesRead s b done from faces lent next list
  all-passed done next list p =
      let q : done + 0 ≡ done = omega arith in
      subst (λ (m : ℕ). FacesRead s b m from faces lent next list) q (p 0 next list (refl, refl))

  pub one-passed : (done at next : ℕ) (list after : List ℤ) → Passed done at list
      → 0 ≡ line_fault (Entry F) b (held (line_at s at)) → (line_at s at).next ≡ next
      → after ≡ sets list (per_face * (faces + done))
      (numbers_of (face_of (has_heights b.year) (held (line_at s at))))
      → Passed (done + 1) next after
  one-passed done at next list after p z e l k to last r =
      let q : faces + (done + 1) ≡ faces + done + 1 = omega arith in
      let m : done + suc k ≡ done + 1 + k = omega arith in
      let put =
      sets list (per_face * (faces + done)) (numbers_of (face_of (has_heights b.year) (held (line_at s at)))) in
      subst (λ (n : ℕ). FacesRead s b n from faces lent to last) m
      (p (suc k) to last (
        z,
        subst (λ (n : ℕ). FacesRead s b k n (faces + done + 1) put to last) (sym e)
            (subst (λ (v : List ℤ). FacesRead s b k next (faces + done + 1) v to last) l
            (subst (λ (n : ℕ). FacesRead s b k next n after to last) q r)),
      ))

-- ---- what was then read

module _ (lent : ℕ) (s : List ℕ) (h : Bool) (i : ℕ) (b : Before)
    (winds : Winds) (internals : Internals) (profile : Profile) where
  abbrev ReadFaces : ℕ → ℕ → List ℤ → ℕ → ℕ → Type 0
  ReadFaces left faces list line next =
      ReadSoFar lent s h (section_at h i) left (suc i) b
      (record { setting = setting_of b winds internals profile; faces = faces; list = list }) line next

  moved : (l m : ℕ) → l ≡ m → (f g : ℕ) → f ≡ g → (x y : ℕ) → x ≡ y → (list : List ℤ) (next : ℕ)
      → ReadFaces l f list x next → ReadFaces m g list y next
  moved l m p f g q x y o list next r =
      subst (λ (n : ℕ). ReadFaces m g list n next) o
      (subst (λ (n : ℕ). ReadFaces m n list x next) q (subst (λ (n : ℕ). ReadFaces n f list x next) p r))

  pub faces-so-far : (k left faces : ℕ) (list : List ℤ) (line at next : ℕ) (after : List ℤ)
      → ReadFaces left faces list line at → (0 < k → section_at h i ≡ F) → k ≤ left
      → FacesRead s b k at faces list next after → ReadFaces (left - k) (faces + k) after (line + k) next
  faces-so-far zero left faces list line at next after r is few (e, l) =
      moved left (left - 0) (omega arith) faces (faces + 0) (omega arith) line (line + 0) (omega arith) after next
      (subst (λ (v : List ℤ). ReadFaces left faces v line next) l
      (subst (λ (n : ℕ). ReadFaces left faces list line n) e r))
  faces-so-far (suc k) left faces list line at next after r is few (z, more) =
      let f = is (omega arith) in
      let fault =
      subst (λ (t : Section). 0 ≡ line_fault (Entry t) b (held (line_at s at))) (sym f) z in
      let o : EntryLine lent s h left i b _ line at (line_at s at) =
      record { so-far = r; more = λ e. omega (arith, e, few); is = refl; in_order = fault } in
      let read = entry_read o f refl refl in
      moved (left - 1 - k) (left - suc k) (omega arith) (faces + 1 + k) (faces + suc k) (omega arith) (line + 1 + k)
      (line + suc k) (omega arith) after next
      (faces-so-far k (left - 1) (faces + 1) _ (line + 1) (line_at s at).next next after read (λ l. is (omega arith))
      (omega (arith, few)) more)
