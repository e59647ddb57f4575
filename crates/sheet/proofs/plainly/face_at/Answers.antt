-- `face_at` meets its contract: a letter, a mark, a height or none, and the areas up to LF.
use mir.Syntax.{w64}
use mir.ValLaws.{to_z-of_z}
use borrow.Author.Rules.{rules}
use Rattle.sheet.proofs.PlainLine.{face-plain}
use Rattle.sheet.proofs.plainly.face_at.Goals as goal

pub returns : goal.returns
returns c =
    let a = c.args in
    let zone = c.in_ok-zone.zone in
    let lo = c.in_ok-zone.ensures in
    let m = c.in_ok-m.m in
    let h = c.in_ok-h.h in
    let x = c.in_ok-x.x in
    let y = c.in_ok-y.y in
    let z = c.in_ok-z.z in
    rw (
      to_z-of_z w64 m.z (search rules),
      to_z-of_z w64 h.z (search rules),
      to_z-of_z w64 x.z (search rules),
      to_z-of_z w64 y.z (search rules),
      to_z-of_z w64 z.z (search rules),
    )
    (face-plain zone lo.1 lo.2 a.s.now a.at lo.3 a.heights m.z h.z x.z y.z z.z m.end h.end x.end y.end z.end
    c.in_ok-m.ensures c.in_ok-x.ensures c.in_ok-y.ensures c.in_ok-z.ensures c.in_ok-h.ensures)
