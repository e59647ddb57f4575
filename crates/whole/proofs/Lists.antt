-- Laws of lists: of what holds of every one in a list, and of the first so many.
use Prim.Native.Nat.{ℕ, zero, suc, ◌+◌, ◌≤◌, ◌<◌}
use mathlib.Core.Path.{◌≡◌, refl, sym, ap, ◌∙◌, subst}
use mathlib.Core.Logic.{⊎_elim}
use mathlib.Core.List.{List, [], ◌∷◌, ◌++◌, map, append_assoc, append-nil}
use mathlib.Core.List.Memᴰ
use mathlib.Core.List.{Memᴰ}
use native.Mathlib.Numerals.{add-one}
use native.Mathlib.Omega.{arith}
use lib.ListN.{length, get_or, take, drop, set, replicate, length-append}
use lib.Seq.{sets, drop-length}
use Rattle.whole.specs.Lists.{first_of, Every}

-- ---- every

pub every-by : {A : Type 0} {P Q : A → Type 0} → ((x : A) → P x → Q x) → (l : List A) → Every P l → Every Q l
every-by f [] h = tt
every-by f (x ∷ l) h = (f x h.0, every-by f l h.1)

pub every-both : {A : Type 0} {P Q R : A → Type 0} → ((x : A) → P x → Q x → R x) → (l : List A) → Every P l → Every Q l
    → Every R l
every-both f [] h k = tt
every-both f (x ∷ l) h k = (f x h.0 k.0, every-both f l h.1 k.1)

pub every_map : {A C : Type 0} (P : C → Type 0) (f : A → C) (l : List A) → Every P (map f l) → Every (λ x. P (f x)) l
every_map P f [] h = tt
every_map P f (x ∷ l) h = (h.0, every_map P f l h.1)

pub map-every : {A C : Type 0} (P : C → Type 0) (f : A → C) (l : List A) → Every (λ x. P (f x)) l → Every P (map f l)
map-every P f [] h = tt
map-every P f (x ∷ l) h = (h.0, map-every P f l h.1)

pub every-at : {A : Type 0} (P : A → Type 0) (l : List A) (d : A) (i : ℕ) → i < length l → Every P l → P (get_or l i d)
every-at P [] d i h a = absurd (omega arith)
every-at P (x ∷ l) d zero h a = a.0
every-at P (x ∷ l) d (suc i) h a = every-at P l d i (omega arith) a.1

pub every-member : {A : Type 0} (P : A → Type 0) {x : A} (l : List A) → Every P l → Memᴰ x l → P x
every-member P [] h m = absurd (Memᴰ.not-nil m)
every-member P (y ∷ l) h m =
    ⊎_elim (λ e. subst P (sym e) h.0) (λ n. every-member P l h.1 n) (Memᴰ.cases_cons m)

-- one more of the first so many
every-take-suc : {A : Type 0} (P : A → Type 0) (l : List A) (d : A) (i : ℕ) → Every P (take i l) → P (get_or l i d)
    → Every P (take (suc i) l)
every-take-suc P [] d i a p = tt
every-take-suc P (x ∷ l) d zero a p = (p, tt)
every-take-suc P (x ∷ l) d (suc i) a p = (a.0, every-take-suc P l d i a.1 p)

pub every_take : {A : Type 0} (P : A → Type 0) (l : List A) (d : A) (i : ℕ) → Every P (take i l) → P (get_or l i d)
    → Every P (take (i + 1) l)
every_take P l d i a p = rw add-one (every-take-suc P l d i a p)

pub get_d_map : {A C : Type 0} (f : A → C) (l : List A) (i : ℕ) (d : A) (e : C) → i < length l
    → get_or (map f l) i e ≡ f (get_or l i d)
get_d_map f [] i d e h = absurd (omega arith)
get_d_map f (x ∷ l) zero d e h = refl
get_d_map f (x ∷ l) (suc i) d e h = get_d_map f l i d e (omega arith)

-- there and back, where g undoes f on every one
pub map_back : {A C : Type 0} (f : A → C) (g : C → A) (l : List A) → Every (λ x. g (f x) ≡ x) l → map g (map f l) ≡ l
map_back f g [] h = refl
map_back f g (x ∷ l) h = rw (h.0, map_back f g l h.1)

pub map-take : {A C : Type 0} (f : A → C) (i : ℕ) (l : List A) → take i (map f l) ≡ map f (take i l)
map-take f zero l = refl
map-take f (suc i) [] = refl
map-take f (suc i) (x ∷ l) = ap (λ (r : List _). f x ∷ r) (map-take f i l)

pub map-drop : {A C : Type 0} (f : A → C) (i : ℕ) (l : List A) → map f (drop i l) ≡ drop i (map f l)
map-drop f zero l = refl
map-drop f (suc i) [] = refl
map-drop f (suc i) (x ∷ l) = map-drop f i l

pub only_one : {A : Type 0} (l : List A) (d : A) → length l ≡ 1 → l ≡ get_or l 0 d ∷ []
only_one [] d h = absurd (omega arith)
only_one (x ∷ []) d h = refl
only_one (x ∷ y ∷ l) d h = absurd (omega arith)

-- ---- the first so many

module _ {A : Type 0} (d : A) where
  pub first_of-length : (n : ℕ) (l : List A) → length (first_of d n l) ≡ n
  unfolding first_of
  first_of-length zero l = refl
  first_of-length (suc n) [] = ap suc (first_of-length n [])
  first_of-length (suc n) (x ∷ l) = ap suc (first_of-length n l)

  pub first_of-none : (n : ℕ) → first_of d n [] ≡ replicate n d
  unfolding first_of
  first_of-none zero = refl
  first_of-none (suc n) = ap (λ (l : List A). d ∷ l) (first_of-none n)

  pub first_of-all : (l : List A) → first_of d (length l) l ≡ l
  unfolding first_of
  first_of-all [] = refl
  first_of-all (x ∷ l) = ap (λ (k : List A). x ∷ k) (first_of-all l)

  pub first_of-take : (n : ℕ) (l : List A) → n ≤ length l → first_of d n l ≡ take n l
  unfolding first_of
  first_of-take zero l h = refl
  first_of-take (suc n) [] h = absurd (omega arith)
  first_of-take (suc n) (x ∷ l) h = ap (λ (k : List A). x ∷ k) (first_of-take n l (omega arith))

  -- the first of the first
  pub first_of-fewer : (m n : ℕ) (l : List A) → m ≤ n → first_of d m (first_of d n l) ≡ first_of d m l
  unfolding first_of
  first_of-fewer zero n l h = refl
  first_of-fewer (suc m) zero l h = absurd (omega arith)
  first_of-fewer (suc m) (suc n) [] h = ap (λ (k : List A). d ∷ k) (first_of-fewer m n [] (omega arith))
  first_of-fewer (suc m) (suc n) (x ∷ l) h = ap (λ (k : List A). x ∷ k) (first_of-fewer m n l (omega arith))

  pub first_of-get_d : (n i : ℕ) (l : List A) → i < n → get_or (first_of d n l) i d ≡ get_or l i d
  unfolding first_of
  first_of-get_d zero i l h = absurd (omega arith)
  first_of-get_d (suc n) zero [] h = refl
  first_of-get_d (suc n) zero (x ∷ l) h = refl
  first_of-get_d (suc n) (suc i) [] h = first_of-get_d n i [] (omega arith)
  first_of-get_d (suc n) (suc i) (x ∷ l) h = first_of-get_d n i l (omega arith)

  -- one more at the end of the list takes the place of the first that it lacked, where there is room for it
  pub first_of-put : (n : ℕ) (l : List A) (x : A) → first_of d n (l ++ (x ∷ [])) ≡ set (first_of d n l) (length l) x
  unfolding first_of
  first_of-put zero l x = refl
  first_of-put (suc n) [] x = refl
  first_of-put (suc n) (y ∷ l) x = ap (λ (k : List A). y ∷ k) (first_of-put n l x)

  pub first_of-more : (n : ℕ) (l : List A) (x : A) → length l < n
      → first_of d n (l ++ (x ∷ [])) ≡ set (first_of d n l) (length l) x
  first_of-more n l x h = first_of-put n l x

  -- so do several
  pub first_of-puts : (n : ℕ) (l xs : List A) → first_of d n (l ++ xs) ≡ sets (first_of d n l) (length l) xs
  first_of-puts n l [] = ap (first_of d n) (append-nil l)
  first_of-puts n l (x ∷ xs) =
      let e : length (l ++ (x ∷ [])) ≡ suc (length l) = omega (arith, length-append l (x ∷ [])) in
      ap (first_of d n) (sym (append_assoc l (x ∷ []) xs))
      ∙ first_of-puts n (l ++ (x ∷ [])) xs
      ∙ (λ i. sets (first_of-put n l x i) (e i) xs)

  -- ---- a list whose first i are nothing any more

  abbrev pub cleared_to : List A → ℕ → List A
  cleared_to l i = first_of d i [] ++ drop i l

  pub cleared-next : (l : List A) (i : ℕ) → i < length l → set (cleared_to l i) i d ≡ cleared_to l (i + 1)
  unfolding first_of
  cleared-next l i h = go l i h ∙ ap (cleared_to l) (sym (add-one i))
    where
      go : (l : List A) (i : ℕ) → i < length l → set (cleared_to l i) i d ≡ cleared_to l (suc i)
      go [] i h = absurd (omega arith)
      go (x ∷ l) zero h = refl
      go (x ∷ l) (suc i) h = ap (λ (k : List A). d ∷ k) (go l i (omega arith))

  pub cleared-all : (l : List A) {i : ℕ} → i ≡ length l → cleared_to l i ≡ first_of d (length l) []
  cleared-all l {i} e =
      ap (cleared_to l) e ∙ ap (λ (k : List A). first_of d (length l) [] ++ k) (drop-length l)
      ∙ append-nil (first_of d (length l) [])
