-- `put_field` meets its contract, case by case.
use Rattle.page.proofs.Put.{then}
use Rattle.lines_written.proofs.put_field.Goals as goal

pub returns-in-Bad : goal.returns-in-Bad
returns-in-Bad c = rw c.in-Bad.is c.put_bytes.ensures

pub returns-in-Plus : goal.returns-in-Plus
returns-in-Plus c = rw c.in-Plus.is c.put_natural.ensures

pub returns-in-Minus : goal.returns-in-Minus
returns-in-Minus c =
    rw c.in-Minus.is (then c.put_byte-next.ensures c.put_natural-in-Minus.ensures)

pub returns-in-Letter : goal.returns-in-Letter
returns-in-Letter c = rw c.in-Letter.is c.put_byte.ensures

pub returns-in-Dash : goal.returns-in-Dash
returns-in-Dash c = rw c.in-Dash.is c.put_byte-in-Dash.ensures
