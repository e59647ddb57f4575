-- `put_numbers` meets its contract: six stores, one after another.
use Prim.Native.Nat.{◌+◌, ◌*◌, ◌<◌}
use mathlib.Core.Path.{◌≡◌, refl, ap, sym, ◌∙◌}
use native.Mathlib.Numerals.{add-one}
use native.Mathlib.Omega.{arith}
use lib.IntN.{pos}
use lib.ListN.{length, get_or, take, set}
use lib.Seq.{sets, take-suc, take_all, length-take-le}
use Rattle.sheet.proofs.Plain.{read_back, sets_more}
use borrow.Author.Rules.{rules}
use Rattle.sheet.proofs.flat.put_numbers.Goals as goal

pub loop-k-init : goal.loop-k-init
loop-k-init c = refl

pub loop-k-preserved : goal.loop-k-preserved
loop-k-preserved c =
    let a = c.args in
    let v = a.v in
    let k = c.loop-k.k in
    let six : length v ≡ 6 = search rules in
    let more : k < length v = search rules in
    let q : 6 * a.n + length (take k v) ≡ 6 * a.n + k = omega (arith, length-take-le k v (omega arith)) in
    c.put_number.ensures
    ∙ (λ i. set (c.loop-k.invariant i) (sym q i) (read_back v k (search rules) i))
    ∙ sym (sets_more a.flat.now (6 * a.n) (take k v) (get_or v k (pos 0)))
    ∙ ap (sets a.flat.now (6 * a.n)) (sym (ap (λ m. take m v) (add-one k) ∙ take-suc v k (pos 0) more))

pub returns : goal.returns
returns c =
    let a = c.args in
    let six : length a.v ≡ 6 = search rules in
    c.loop-k.invariant ∙ ap (sets a.flat.now (6 * a.n)) (take_all c.loop-k.k a.v (search rules))
