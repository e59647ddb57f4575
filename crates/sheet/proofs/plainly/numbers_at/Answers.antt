-- `numbers_at` meets its contract: the text passed is that of the numbers read, with a space between two and LF behind
-- the last.
use Prim.Native.Nat.{ℕ, ◌+◌, ◌<◌}
use mathlib.Core.Path.{◌≡◌, refl, ap, sym, subst, ◌∙◌}
use mathlib.Core.Bool.{cond}
use mathlib.Core.List.{List, [], ◌∷◌, ◌++◌}
use native.Mathlib.Omega.{arith}
use lib.Dec.{eqb}
use lib.IntN.{pos}
use lib.ListN.{length, take, drop, get_or-replicate, length-set}
use Rattle.whole.proofs.Pieces.{every_append}
use lib.Seq.{length-take-le}
use borrow.Author.Tests.{eq-eqb, ne_eqb}
use Rattle.sheet.specs.Said.{Short, NumberStands}
use Rattle.sheet.proofs.Plain.{passed, passed-all, passed-next}
use Rattle.sheet.proofs.Plain.{passed_none, short_back, stored-take, stored_past}
use borrow.Author.Rules.{rules}
use Rattle.sheet.proofs.plainly.numbers_at.Goals as goal

pub loop-k-init : goal.loop-k-init
loop-k-init c =
    let a = c.args in (
      refl,
      search rules,
      λ h. search rules,
      λ i h l. get_or-replicate 6 i (pos 0) (pos 0) l,
      tt,
      ap (λ (t : List ℕ). t ++ drop a.at a.s.now) (sym (passed_none _)),
    )

pub loop-k-preserved : goal.loop-k-preserved
loop-k-preserved c =
    let count = c.args.count in
    let s = c.args.s.now in
    let v = c.loop-k.invariant in
    let k = c.loop-k.k in
    let more = c.loop-k-test.true in
    let z = c.in_ok-x.x.z in
    let end = c.in_ok-x.x.end in
    let n = subst (λ (x : ℕ). NumberStands s c.loop-k.next z x end) c.separator.ensures c.in_ok-x.ensures in
    let room : k < length c.loop-k.number = omega (arith, v.0, c.requires.2, more) in
    let back = short_back z n.short in
    let took = stored-take c.loop-k.number k room back in (
      simp length-set v.0,
      n.within,
      λ h. n.goes_on
          (rw (ne_eqb (k + 1) count (λ (e : k + 1 ≡ count). omega (arith, e, h))) (λ e. omega (arith, e))),
      stored_past c.loop-k.number k room back v.3,
      rw took (every_append Short (take k c.loop-k.number) (z ∷ []) v.4 (n.short, tt)),
      v.5
          ∙ passed-next n (take k c.loop-k.number)
          (rw (ne_eqb k count (λ (e : k ≡ count). omega (arith, e, more)))) took,
    )

pub returns : goal.returns
returns c =
    let a = c.args in
    let v = c.loop-k.invariant in
    let q : c.loop-k.k ≡ a.count = omega arith in
    let ten : ◌≡◌ {A = ℕ} (cond (eqb c.loop-k.k a.count) 10 32) 10 = rw (eq-eqb c.loop-k.k a.count q) in
    let zs = take a.count c.loop-k.number in
    let all : length zs ≡ a.count =
    length-take-le a.count c.loop-k.number (omega (arith, v.0, c.requires.2)) in (
      v.1,
      v.0,
      (
        v.5
            ∙ (λ i. passed (ten i) (take (q i) c.loop-k.number) ++ drop c.loop-k.next a.s.now)
            ∙ passed-all 10 zs _ (omega (arith, all, c.requires.1)),
        rw q at v.4,
      ),
      rw q at v.3,
    )
