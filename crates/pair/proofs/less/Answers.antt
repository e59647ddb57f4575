-- `less` meets its contract: the derived order goes by the newtons and, where these are equal, by the remainders.
use mathlib.Core.Path.{◌≡◌, refl, ◌∙◌}
use mathlib.Core.Bool.{Bool, true, false, cond}
use lib.Dec.{ltb, eqb}
use lib.Signed.{lt_z}
use Rattle.std.specs.Prelude.{Some}
use Rattle.std.specs.declared.cmp.Ordering.TheVariants.{Less, Equal, Greater}
use Rattle.std.specs.Ordering.{is_lt, is_some_and, partial_ordering_then}
use Rattle.pair.specs.Total.{lesser}
use Rattle.pair.proofs.less.Goals as goal

-- whether the first of two answers, or else the second, is `Less`, by the tests of each
by_tests : (s t u v : Bool)
    → is_some_and is_lt
    (partial_ordering_then (Some (cond s Less (cond t Greater Equal))) (Some (cond u Less (cond v Equal Greater))))
    ≡ cond s true (cond t false u)
by_tests true t u v = refl
by_tests false true u v = refl
by_tests false false true v = refl
by_tests false false false true = refl
by_tests false false false false = refl

pub returns : goal.returns
unfolding lesser
returns c =
    let p = c.args.p in
    let q = c.args.q in
    c.lt.ensures
    ∙ by_tests (lt_z p.newtons q.newtons) (lt_z q.newtons p.newtons) (ltb p.remainder q.remainder)
    (eqb p.remainder q.remainder)
