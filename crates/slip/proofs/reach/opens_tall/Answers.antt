-- `reach::opens_tall`: the first field of the first line, if that is ended.
use Prim.Native.Nat.{ℕ, ◌+◌, ◌-◌, ◌≤◌}
use mathlib.Core.Path.{◌≡◌, sym, ap, ◌∙◌}
use mathlib.Core.Bool.{false}
use mathlib.Core.List.{List, [], ◌∷◌}
use native.Mathlib.Omega.{arith}
use lib.Dec.{eqb}
use lib.ListN.{length, take}
use Rattle.lines.specs.Lines.{fields_of, lines_in}
use Rattle.lines.specs.Held.{until}
use Rattle.lines.proofs.Lines.{rows_more, rows_none, rows-open}
use Rattle.entry.specs.Says.{letter, at}
use Rattle.job.specs.Walk.{opening}
use Rattle.slip.proofs.reach.opens_tall.Goals as goal

unended : (s : List ℕ) → length s ≡ until 10 s → opening (lines_in s) ≡ false
unended [] h = rw rows_none
unended (y ∷ t) h = rw (rows-open y t (sym h))

ended : (s : List ℕ) (n : ℕ) → n ≡ 0 + until 10 s → (n ≡ length s → ⊥) → n ≤ length s
    → eqb (letter (at (fields_of (take (n - 0) s)) 0)) 86 ≡ opening (lines_in s)
ended s n e h k =
    let q : n - 0 ≡ until 10 s = omega (arith, e) in
    rw (rows_more s (omega (arith, e)), q)

pub returns-then-end-s : goal.returns-then-end-s
returns-then-end-s c =
    sym (unended c.args.s.now (omega (arith, c.until-end.ensures.0, c.if-end-s.true)))

pub slice_bounds-first_field-end : goal.slice_bounds-first_field-end
slice_bounds-first_field-end c = omega (arith, c.until-end.ensures.1)

pub returns : goal.returns
returns c =
    ap (λ (n : ℕ). eqb n 86) (c.letter_of.ensures ∙ ap letter c.first_field.ensures)
    ∙ ended c.args.s.now c.until-end.result c.until-end.ensures.0 c.if-end-s.false
    c.until-end.ensures.1
