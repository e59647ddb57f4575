-- `slip_on`: what is told of the line, its spot and the bytes of its field.
-- the bytes of the line
use Prim.Native.Nat.{◌+◌, ◌-◌, ◌≤◌}
use mathlib.Core.Path.{ap, ◌∙◌}
use native.Mathlib.Omega.{arith}
use lib.ListN.{length, take, drop, length-drop}
use lib.Seq.{length-take-le}
use mir.Syntax.{w64}
use Rattle.whole.proofs.Size.{returned}
use Rattle.building.specs.declared.Spot.{Spot}
use Rattle.slip.specs.declared.parts.Part.{Part}
use Rattle.slip.specs.Slip.{told, spot_in, bytes_at, bytes_of, slip_on}
use Rattle.slip.proofs.slip_on.Goals.{After-spot_in-p, Start}
use Rattle.slip.proofs.slip_on.Goals as goal

module _ (c : After-spot_in-p) where
  abbrev start : Start
  start = (goal.at.After-spot_in-p c).Start

  abbrev line : Part
  line = start.args.line

  long : line.from + length (take (line.to - line.from) (drop line.from start.args.s.now)) ≤ line.to
  long =
      let p = start.requires in
      let r = drop line.from start.args.s.now in
      let h : line.to - line.from ≤ length r = omega (arith, p.1, length-drop line.from start.args.s.now) in
      omega (arith, p.0, length-take-le (line.to - line.from) r h)

pub spot_in-p-requires : goal.spot_in-p-requires
spot_in-p-requires c = let p = c.requires in (p.0, p.1)

pub slice_bounds-bytes_at-count : goal.slice_bounds-bytes_at-count
slice_bounds-bytes_at-count c = omega (arith, c.requires.0)

pub slice_bounds-bytes_at-start : goal.slice_bounds-bytes_at-start
slice_bounds-bytes_at-start c = omega (arith, c.requires.0)

pub slice_bounds-bytes_at-end : goal.slice_bounds-bytes_at-end
slice_bounds-bytes_at-end c = omega (arith, c.requires.1)

pub bytes_at-bytes-requires : goal.bytes_at-bytes-requires
bytes_at-bytes-requires c = long (goal.at.bytes_at-bytes-requires c).After-spot_in-p

pub entry_of-requires : goal.entry_of-requires
entry_of-requires c = c.requires.2

pub returns : goal.returns
unfolding slip_on
returns c =
    let at_spot_in_p = (goal.at.returns c).After-spot_in-p in
    let l = bytes_of (line at_spot_in_p) c.args.s.now in
    let at = c.spot_in-p.ensures in
    let bytes = c.bytes_at-bytes.ensures ∙ ap (λ (q : Spot). bytes_at q.field (line at_spot_in_p) l) at in
    let t = c.struct_told-1.given in
    let spot = c.spot_in-p.result in
    let least = (returned w64 spot.least t.1.0.1).same in
    let greatest = (returned w64 spot.greatest t.1.1.0.1).same in
    (λ i. record {
      number = c.args.v.number;
      line = c.args.v.line;
      section = c.section_of.ensures i;
      entry = c.entry_of.ensures i;
      field = spot.field;
      from = (bytes i).from;
      to = (bytes i).to;
      least = least i;
      greatest = greatest i;
    })
    ∙ (λ i. told c.args.v c.args.at (at i) (bytes_at (spot_in c.args.at (line at_spot_in_p) c.args.s.now).field
    (line at_spot_in_p) l))
