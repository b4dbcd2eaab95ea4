-- `find` meets its contract: the walk reads the numbers of the places.
use borrow.Author.Rules.{rules}
use borrow.Author.Tests.{tests}
use lib.Dec.{eqb}
use Rattle.std.proofs.lemmas.Iterator.Search.{position_from_yields_List}
use Rattle.places.specs.Places.{find}
use Rattle.places.proofs.Walking.{numbers_walked, numbers_read}
use Rattle.places.proofs.find.Goals as goal

pub position-requires-clause-callable : goal.position-requires-clause-callable
position-requires-clause-callable c =
    let a = c.args in
    numbers_read a.size c.requires.0 a.book.now a.count c.take.ensures.source c.take.ensures.count c.chunks_exact.ensures.rest c.chunks_exact.ensures.size c.requires.1 (λ x q h. search (rules, tests)) (λ x some. search rules)

pub returns : goal.returns
unfolding find
returns c =
    let a = c.args in
    let road = numbers_walked a.size c.requires.0 a.book.now a.count c.take.ensures.source c.take.ensures.count c.chunks_exact.ensures.rest c.chunks_exact.ensures.size c.requires.1 in
    position_from_yields_List (λ m. eqb m a.number) _ _ _ c.position.ensures.ran road (λ x b q k. search (rules, tests))
