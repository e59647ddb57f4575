-- A line that is not ended: at its LF it says what its bytes say as a line, and it has bytes if one came.
use Prim.Native.Nat.{ℕ, suc, ◌-◌, ◌≤◌, ◌<◌}
use mathlib.Core.Path.{◌≡◌, refl, ap, ◌∙◌, sym}
use mathlib.Core.Logic.{◌⊎◌, inl, inr, ⊎_elim}
use mathlib.Core.Bool.{Bool, true, false, cond}
use mathlib.Core.List.{List, [], ◌∷◌, ◌++◌}
use native.Mathlib.Omega.{arith}
use lib.Dec.{ltb, leb, eqb}
use lib.ListN.{length, take, drop}
use borrow.Author.Tests.{ne_eqb, eqb-true, eqb-false, ltb-true, ltb-false}
use Rattle.whole.proofs.Tests.{by-test}
use Rattle.whole.specs.Digits.{is_digit}
use Rattle.field.specs.Field.{field_from}
use Rattle.lines.specs.Lines.{fields_of}
use Rattle.lines.specs.Held.{until}
use Rattle.rose.specs.Observation.{Said}
use Rattle.std.specs.Prelude.{Ok, Err}
use Rattle.rose.specs.declared.Misread.TheVariants.{OutOfForm, OutOfRange}
use Rattle.rose.specs.declared.Started.{Started}
use Rattle.rose.specs.declared.Pending.{Pending}
use Rattle.rose.specs.Observation.{field_says, together, line_says, cell_in}
use Rattle.rose.specs.Rose.{no_bytes}
use Rattle.rose.specs.Pending.{started, digit_more, number_more, number_says}
use Rattle.rose.specs.Pending.{pending_at, directed, first_says, line_more, pending_says, has_bytes}
use Rattle.rose.proofs.Observation.{spaced-line, one-field-line, together-small}
use Rattle.rose.proofs.Numbers.{number_after, number-says}

-- the line behind more bytes
unfoldable pub line_after : Pending → List ℕ → Pending
line_after p [] = p
line_after p (b ∷ s) = line_after (line_more p b) s

pub line-append : (p : Pending) (s t : List ℕ) → line_after p (s ++ t) ≡ line_after (line_after p s) t
unfolding line_after
line-append p [] t = refl
line-append p (b ∷ s) t = line-append (line_more p b) s t

pub pending-small : (p : Pending) → cell_in (pending_says p) < 208
pending-small p = together-small (first_says p.stage p.direction) (number_says 1000 p.last)

-- ---- it has bytes

pub either : {A : Type 0} (P : A → Type 0) (t : Bool) {a b : A} → P a → P b → P (cond t a b)
either P true p q = p
either P false p q = q

Some : Started → Type 0
Some n = n.kind ≡ 0 → ⊥

Begun : Pending → Type 0
Begun p = (p.stage ≡ 0 → ⊥) ⊎ Some p.last

digit-some : (n : Started) (d : ℕ) → Some n → Some (digit_more n d)
unfolding Some
digit-some n d k =
    either Some (leb 1 n.value) (either Some (ltb n.value 1000000) k (λ e. omega arith))
    (either Some (eqb n.kind 0) (λ e. omega arith)
    (either Some (eqb n.kind 1) (either Some (eqb d 0) (λ e. omega arith) (λ e. omega arith)) (λ e. omega arith)))

number-some : (n : Started) (b : ℕ) → Some (digit_more n (b - 48)) → Some (number_more n b)
unfolding Some
number-some n b k =
    either Some (is_digit b) k
    (either Some (eqb b 45) (either Some (eqb n.kind 0) (λ e. omega arith) (λ e. omega arith)) (λ e. omega arith))

staged : (x : Said) → (directed x).stage ≡ 0 → ⊥
staged (Err OutOfForm) e = omega arith
staged (Err OutOfRange) e = omega arith
staged (Ok d) e = omega arith

more-begun : (p : Pending) (b : ℕ) → Begun p → Begun (line_more p b)
unfolding Begun Some
more-begun p b g =
    either Begun (eqb b 32)
    (by-test (eqb p.stage 0) (λ t. rw t (inl (staged (number_says 359 p.last))))
    (λ t. rw t (inl (eqb-false _ _ t))))
    (⊎_elim (λ s. inl s) (λ k. inr (number-some p.last b (digit-some p.last (b - 48) k))) g)

first-begun : (b : ℕ) → Begun (line_more no_bytes b)
unfolding Begun Some
first-begun b =
    either Begun (eqb b 32) (inl (staged (number_says 359 (started 0 0))))
    (inr (number-some (started 0 0) b (λ e. omega arith)))

after-begun : (p : Pending) (s : List ℕ) → Begun p → Begun (line_after p s)
unfolding line_after
after-begun p [] g = g
after-begun p (b ∷ s) g = after-begun (line_more p b) s (more-begun p b g)

begun-bytes : (p : Pending) → Begun p → has_bytes p ≡ true
unfolding Begun Some
begun-bytes p =
    ⊎_elim (λ k. rw (ne_eqb p.stage 0 k))
    (λ k. by-test (eqb p.stage 0) (λ t. rw (t, ne_eqb p.last.kind 0 k)) (λ t. rw t))

pub after-bytes : (b : ℕ) (s : List ℕ) → has_bytes (line_after no_bytes (b ∷ s)) ≡ true
unfolding line_after
after-bytes b s = begun-bytes (line_after (line_more no_bytes b) s) (after-begun (line_more no_bytes b) s
    (first-begun b))

-- ---- what it says

number-goes-on : (stage direction : ℕ) (n : Started) (b : ℕ) → eqb b 32 ≡ false
    → line_more (pending_at stage direction n) b ≡ pending_at stage direction (number_more n b)
number-goes-on stage direction n b t = rw t

-- behind the first space a space is a byte of the number like any other, and leaves none
second-goes-on : (stage direction : ℕ) (n : Started) (b : ℕ) → eqb stage 0 ≡ false
    → line_more (pending_at stage direction n) b ≡ pending_at stage direction (number_more n b)
second-goes-on stage direction n b k =
    by-test (eqb b 32) (λ t. let e : b ≡ 32 = eqb-true b 32 t in rw (t, k, e)) (number-goes-on stage direction n b)

first-number : (s : List ℕ) (n : Started) → length s ≤ until 32 s
    → line_after (pending_at 0 0 n) s ≡ pending_at 0 0 (number_after n s)
unfolding line_after number_after until
first-number [] n f = refl
first-number (b ∷ s) n f =
    by-test (eqb b 32) (λ t. absurd (let q = rw t at f in omega arith))
    (λ t.
    let q = rw t at f in
    ap (λ (p : Pending). line_after p s) (number-goes-on 0 0 n b t) ∙ first-number s (number_more n b) (omega arith))

second-number : (stage direction : ℕ) → eqb stage 0 ≡ false → (s : List ℕ) (n : Started)
    → line_after (pending_at stage direction n) s ≡ pending_at stage direction (number_after n s)
unfolding line_after number_after
second-number stage direction k [] n = refl
second-number stage direction k (b ∷ s) n =
    ap (λ (p : Pending). line_after p s) (second-goes-on stage direction n b k)
    ∙ second-number stage direction k s (number_more n b)

at-space : (s : List ℕ) (n : Started) → until 32 s < length s
    → line_after (pending_at 0 0 n) s
    ≡ line_after (directed (number_says 359 (number_after n (take (until 32 s) s)))) (drop (suc (until 32 s)) s)
unfolding line_after number_after until
at-space [] n f = absurd (omega arith)
at-space (b ∷ s) n f =
    by-test (eqb b 32) (λ t. rw t)
    (λ t.
    let q = rw t at f in
    ap (λ (p : Pending). line_after p s) (number-goes-on 0 0 n b t) ∙ at-space s (number_more n b) (omega arith) ∙ rw t)

directed-says : (x : Said) (s : List ℕ)
    → pending_says (line_after (directed x) s) ≡ together x (number_says 1000 (number_after (started 0 0) s))
directed-says (Err OutOfForm) s = ap pending_says (second-number 3 0 refl s (started 0 0))
directed-says (Err OutOfRange) s = ap pending_says (second-number 2 0 refl s (started 0 0))
directed-says (Ok d) s = ap pending_says (second-number 1 d refl s (started 0 0))

-- BYTE BY BYTE IT SAYS WHAT ITS FIELDS SAY
pub line-says : (l : List ℕ) → pending_says (line_after no_bytes l) ≡ line_says (fields_of l)
line-says l =
    by-test (ltb (until 32 l) (length l))
    (λ t.
    let h : until 32 l < length l = ltb-true _ _ t in
    let p = take (until 32 l) l in
    let q = drop (suc (until 32 l)) l in
    ap pending_says (at-space l (started 0 0) h)
    ∙ directed-says (number_says 359 (number_after (started 0 0) p)) q
    ∙ ap (λ (x : Said). together x (number_says 1000 (number_after (started 0 0) q))) (number-says 359 p)
    ∙ ap (together (field_says 359 (field_from p))) (number-says 1000 q)
    ∙ sym (spaced-line l h))
    (λ t.
    let h : length l ≤ until 32 l = ltb-false _ _ t in
    ap pending_says (first-number l (started 0 0) h) ∙ sym (one-field-line l h))
