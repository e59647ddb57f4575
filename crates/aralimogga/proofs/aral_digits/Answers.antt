-- `aral_digits`: the number is read back as it is.
use mathlib.Core.Path.{◌∙◌, ap}
use mathlib.Core.List.{List}
use Prim.Native.Nat.{ℕ}
use Rattle.whole.proofs.Size.{param}
use Rattle.page.specs.Writing.{writing, buffer_after}
use Rattle.whole.specs.Digits.{decimal}
use Rattle.answers.specs.Answers.{host_text}
use Rattle.aralimogga.proofs.aral_digits.Goals as goal

pub returns : goal.returns
returns c =
    let buf = c.args.out.now in
    let number = ap decimal (param c.ranges.number).same in
    let e = c.write_decimal.ensures in (
      c.text_of.ensures ∙ ap host_text (e.0 ∙ ap (λ (t : List ℕ). writing t buf) number),
      e.1 ∙ ap (λ (t : List ℕ). buffer_after t buf) number,
    )
