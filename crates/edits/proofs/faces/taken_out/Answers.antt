-- `faces::taken_out`: what is still to be moved, moved, is the list without the face that is taken out.
use mathlib.Core.Path.{◌≡◌, refl, sym, ap, ap₂, ◌∙◌}
use Prim.Native.Nat.{◌+◌, ◌-◌}
use native.Mathlib.Numerals.{add-one}
use native.Mathlib.Omega.{arith}
use lib.ListN.{get_or, set, length-set}
use Rattle.job.specs.Carried.{no_face}
use Rattle.whole.proofs.Moved.{moved, moved-next, moved-last}
use Rattle.edits.proofs.Held.{faces, taken-out-is}
use Rattle.edits.proofs.faces.taken_out.Goals as goal

pub loop-i-init : goal.loop-i-init
loop-i-init c =
    record { long = c.well_formed.0.1.1.1.0.1.0.1; count = refl; moved = refl }

pub loop-i-preserved : goal.loop-i-preserved
loop-i-preserved c =
    let l = c.loop-i in
    let n = c.args.held.count - 1 + 1 in
    let inv = l.invariant in
    record {
      long = length-set l.r.entry l.i _ ∙ inv.long;
      count = inv.count;
      moved =
          ap (λ m. moved no_face n m (set l.r.entry l.i (get_or l.r.entry m no_face))) (add-one l.i)
          ∙ moved-next no_face n l.i l.r.entry (omega arith) (omega arith) ∙ inv.moved;
    }

pub returns : goal.returns
returns c =
    let h = c.args.held in
    let l = c.loop-i in
    let inv = l.invariant in
    let last = h.count - 1 in
    let ended : l.i ≡ last = omega arith in
    let room = c.well_formed.0.1.1.1.0.1.0.1 in
    let freed =
    ap (set l.r.entry last) c.no_face.ensures
    ∙ moved-last no_face (last + 1) last l.r.entry (sym (add-one last)) (omega arith) in
    let done = ap (λ m. moved no_face (last + 1) m l.r.entry) (sym ended) ∙ inv.moved in
    ap₂ faces (ap (λ m. m - 1) inv.count)
    (freed ∙ done ∙ ap (λ m. moved no_face m (c.args.k - 1) h.entry) (omega arith))
    ∙ taken-out-is h.count h.entry c.args.k c.requires.0 c.requires.1 (omega (arith, room, c.requires.2))
