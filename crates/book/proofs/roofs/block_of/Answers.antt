-- `roofs::block_of`: the first limit up to which h/b comes, and past the last where there is none.
use borrow.Author.Rules.{rules}
use borrow.Author.Tests.{tests}
use Rattle.std.proofs.lemmas.Iterator.{YieldsList-from_slice}
use Rattle.std.proofs.lemmas.Iterator.Search.{position_from_yields_List}
use Rattle.whole.proofs.Tests.{by-test}
use Rattle.building.specs.Ratio.{◌÷◌, up_to}
use Rattle.book.specs.Gable.{block_of}
use Rattle.book.specs.declared.roofs.Limit.{Limit}
use Rattle.book.proofs.roofs.block_of.Goals as goal

pub returns : goal.returns
unfolding block_of
returns c =
    let s = c.args.s in
    let found =
    position_from_yields_List (λ (t : Limit). up_to s.h s.b (t.0 ÷ t.1)) _ _ c.position.result c.position.ensures.ran
    (YieldsList-from_slice _ c.iter.ensures.rest) (λ x b q k. search (rules, tests)) in
    rw (c.unwrap_or.ensures, found)
    (by-test (up_to s.h s.b (1 ÷ 2)) (λ p. rw p)
    (λ p. by-test (up_to s.h s.b (3 ÷ 2)) (λ q. rw (p, q))
    (λ q. by-test (up_to s.h s.b (6 ÷ 1)) (λ r. rw (p, q, r)) (λ r. rw (p, q, r)))))
