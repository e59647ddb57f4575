-- `write_six` meets its contract: where there is room, all six lines stand at the buffer's start.
use mathlib.Core.Path.{◌≡◌, ap}
use mathlib.Core.Bool.{true}
use lib.Dec.{leb}
use lib.ListN.{length}
use borrow.Author.Rules.{rules}
use borrow.Author.Tests.{leb-true}
use Rattle.std.specs.Prelude.{Ok}
use Rattle.page.specs.Writing.{Put}
use Rattle.page.proofs.Put.{put-ends, put-start}
use Rattle.report.specs.Lines.{six_text}
use Rattle.report.proofs.write_six.Goals as goal

pub returns-then-have_room : goal.returns-then-have_room
returns-then-have_room c =
    let w = c.args.w.now in
    let buf = c.args.buf.now in
    let lines : Put buf 0 (six_text w.year w.six) c.put_six.new.buf c.put_six.result = search rules in
    let fits : leb (length (six_text w.year w.six)) (length buf) ≡ true = search rules in
    let room = leb-true _ _ fits in
    rw fits (ap Ok (put-ends lines room), put-start lines room)
