-- A line that is ended, as it is held and by its bytes: in form by one exactly if by the other, and then the same.
use Prim.Native.Nat.{ℕ, ◌+◌, ◌-◌, ◌<◌}
use mathlib.Core.Path.{◌≡◌, sym, ap, ◌∙◌}
use mathlib.Core.Logic.{◌⊎◌, inl, inr, ⊎_elim}
use mathlib.Core.Bool.{Bool, true, true≢false}
use mathlib.Core.List.{List, []}
use native.Mathlib.Omega.{arith}
use lib.Dec.{leb}
use lib.ListN.{length, take, drop}
use borrow.Author.Tests.{leb-true, leb-false}
use Rattle.whole.proofs.Tests.{by-test}
use Rattle.field.specs.declared.Field.{Field}
use Rattle.lines.specs.declared.Line.{Line}
use Rattle.lines.specs.Lines.{fields_of}
use Rattle.lines.specs.Held.{held, line_at, until}
use Rattle.lines.proofs.Held.{line-in, held_all, held_none}
use Rattle.rules.specs.declared.Kind.{Kind}
use Rattle.rules.specs.Form.{in_form}
use Rattle.rules.specs.Sections.{forms}
use Rattle.rules.proofs.Form.{uneven-out}
use Rattle.sheet.proofs.OutOfForm.{fields}

module _ (s : List ℕ) (from to : ℕ) (e : to ≡ from + until 10 (drop from s)) (m : to < length s) (x : Line)
    (hx : x ≡ line_at s from) where
  abbrev pub said : List Field
  said = fields_of (take (to - from) (drop from s))

  is_held : (held x ≡ said) ⊎ ((held x ≡ []) × (6 < length said))
  is_held =
      let q : to - from ≡ until 10 (drop from s) = omega arith in
      let l = hx ∙ line-in s from (omega arith) in
      let fs = fields_of (take (until 10 (drop from s)) (drop from s)) in
      rw q
      (by-test (leb (length fs) 6)
      (λ t. inl (ap held l ∙ (held_all (from + until 10 (drop from s) + 1) fs (leb-true _ _ t)).0))
      (λ t. inr (ap held l ∙ held_none (from + until 10 (drop from s) + 1) fs (leb-false _ _ t), leb-false _ _ t)))

  module _ (h : Bool) (k : Kind) where
    pub form-held : in_form (forms h k) (held x) ≡ in_form (forms h k) said
    form-held =
        ⊎_elim (λ g. ap (in_form (forms h k)) g)
        (λ g. uneven-out (forms h k) (held x) (λ q. let z = ap length g.0 in omega (arith, q, z, (fields h k).0))
        ∙ sym (uneven-out (forms h k) said (λ q. omega (arith, q, g.1, (fields h k).1))))
        is_held

    pub same-held : in_form (forms h k) (held x) ≡ true → held x ≡ said
    same-held t =
        ⊎_elim (λ g. g)
        (λ g. absurd (true≢false (sym t ∙ uneven-out (forms h k) (held x)
        (λ q. let z = ap length g.0 in omega (arith, q, z, (fields h k).0)))))
        is_held
