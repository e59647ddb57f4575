-- Laws of the first field of a line that is not what is called for there.
use Prim.Native.Nat.{ℕ, suc, ◌+◌, ◌≤◌, ◌<◌}
use mathlib.Core.Path.{◌≡◌, refl, ap, ◌∙◌}
use mathlib.Core.Bool.{true, false}
use mathlib.Core.List.{List, [], ◌∷◌}
use native.Mathlib.Numerals.{add-one}
use native.Mathlib.Omega.{arith}
use lib.ListN.{length, get_or, take, drop, length-drop, drop_of_length-le}
use lib.Seq.{drop-cons, drop-drop, take_all}
use Rattle.field.specs.declared.Field.{Field}
use Rattle.field.specs.Field.{field_from}
use Rattle.lines.specs.Lines.{fields_of}
use Rattle.lines.specs.Held.{until}
use Rattle.lines.proofs.Lines.{split-until, split-more, split-last}
use Rattle.rules.specs.declared.FieldForm.{FieldForm}
use Rattle.rules.specs.declared.FieldForm.TheVariants.{Number}
use Rattle.rules.specs.Form.{has_form, first_out}

out-missing : (ws : List FieldForm) → first_out ws [] ≡ 1
unfolding first_out
out-missing [] = refl
out-missing (w ∷ ws) = refl

-- the first i fields of a line are in form, and the rest stands from `next` on
module _ (ws : List FieldForm) (l : List ℕ) where
  pub record Formed (i next : ℕ) : Type 0 where
    pub within : next ≤ length l
    pub out : first_out ws (fields_of l) ≡ i + first_out (drop i ws) (fields_of (drop next l))

  pub formed-none : Formed 0 0
  formed-none = record { within = omega arith; out = omega arith }

  module _ {i next : ℕ} (h : Formed i next) where
    pub formed-all : length ws ≤ i → first_out ws (fields_of l) ≡ i + 1
    unfolding first_out
    formed-all k = h.out ∙ rw (drop_of_length-le ws k)

    abbrev here : ℕ
    here = until 32 (drop next l)

    abbrev field : Field
    field = field_from (take here (drop next l))

    module _ (few : i < length ws) where
      abbrev form : FieldForm
      form = get_or ws i Number

      pub out-here : has_form form field ≡ false → first_out ws (fields_of l) ≡ i + 1
      unfolding first_out fields_of
      out-here e = h.out ∙ rw (drop-cons ws i Number few, split-until 32 (drop next l), e)

      module _ (e : has_form form field ≡ true) where
        pub out-last : length l ≤ next + here → first_out ws (fields_of l) ≡ i + 1 + 1
        unfolding first_out fields_of
        out-last k =
            let q = split-last 32 (drop next l) (rw length-drop (omega arith)) in
            let g : has_form form (field_from (drop next l)) ≡ true =
            rw (take_all here (drop next l) (rw length-drop (omega arith))) at e in
            let o = out-missing (drop (suc i) ws) in
            h.out ∙ rw (drop-cons ws i Number few, q, g, o) (omega arith)

        pub out-next : next + here < length l → Formed (i + 1) (next + here + 1)
        unfolding first_out fields_of
        out-next k =
            let q = split-more 32 (drop next l) (rw length-drop (omega arith)) in
            let m : next + suc here ≡ next + here + 1 = omega arith in
            let r : drop (suc here) (drop next l) ≡ drop (next + here + 1) l =
            drop-drop (suc here) next l ∙ ap (λ (j : ℕ). drop j l) m in
            let o : first_out (drop i ws) (fields_of (drop next l))
            ≡ suc (first_out (drop (suc i) ws) (fields_of (drop (next + here + 1) l))) =
            rw (drop-cons ws i Number few, q, e, r) in
            record { within = omega arith; out = rw add-one (omega (arith, h.out, o)) }
