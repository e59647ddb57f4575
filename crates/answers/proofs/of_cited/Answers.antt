-- `of_cited`: each arm is a clause of `host_values`, and a value is read back as it is.
use mathlib.Core.Path.{sym, ap, ap₂, ◌∙◌}
use mir.Syntax.{w32}
use Rattle.whole.proofs.Size.{returned}
use Rattle.book.specs.declared.Values.TheVariants.{One, Two}
use Rattle.answers.specs.Answers.{host_values}
use Rattle.answers.proofs.of_cited.Goals as goal

pub returns-in-One : goal.returns-in-One
returns-in-One c =
    let a = c.args.c in
    let v = (returned w32 c.in-One.v c.in-One.known_told-1-own.given.0.1).same in
    c.with_rows.ensures ∙ ap (host_values a) (ap One v ∙ sym c.in-One.is)

pub returns-in-Two : goal.returns-in-Two
returns-in-Two c =
    let a = c.args.c in
    let v = (returned w32 c.in-Two.v c.in-Two.known_told-in-Two-1-own.given.0.1).same in
    let w = (returned w32 c.in-Two.w c.in-Two.known_told-in-Two-1-own.given.1.0.1).same in
    c.with_rows-in-Two.ensures ∙ ap (host_values a) (ap₂ Two v w ∙ sym c.in-Two.is)
