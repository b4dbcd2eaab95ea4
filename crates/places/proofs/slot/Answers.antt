-- `slot` meets its contract: the walk reads the numbers of the places, up to the first above the new one.
use mathlib.Core.Path.{ap, ◌∙◌}
use borrow.Author.Rules.{rules}
use borrow.Author.Tests.{tests}
use lib.Dec.{leb}
use Rattle.std.specs.Iterator.Adapters.{take_source, take_count}
use Rattle.std.proofs.lemmas.Iterator.Consumers.{YieldsList-at, count_from_yields_List}
use Rattle.std.proofs.lemmas.Iterator.Search.{YieldsList-from_take_while}
use Rattle.places.specs.Places.{numbers_in}
use Rattle.places.proofs.Walking.{numbers_walked, numbers_read, slot_walked}
use Rattle.places.proofs.slot.Goals as goal

pub count-requires-clause-can : goal.count-requires-clause-can
count-requires-clause-can c =
    let a = c.args in
    let source = ap take_source c.take_while.ensures.source ∙ c.take.ensures.source in
    let limit = ap take_count c.take_while.ensures.source ∙ c.take.ensures.count in (
      rw (source, c.chunks_exact.ensures.size) c.requires.0,
      numbers_read a.size c.requires.0 a.book.now a.count source limit c.chunks_exact.ensures.rest c.chunks_exact.ensures.size c.requires.1 (λ x q h. search (rules, tests)) (λ x some. search rules),
    )

pub returns : goal.returns
returns c =
    let a = c.args in
    let road = numbers_walked a.size c.requires.0 a.book.now a.count c.take.ensures.source c.take.ensures.count c.chunks_exact.ensures.rest c.chunks_exact.ensures.size c.requires.1 in
    count_from_yields_List c.take_while.result _ c.count.ensures.ran
    (YieldsList-from_take_while _ (λ m. leb m a.number) (YieldsList-at c.take_while.ensures.source road) c.take_while.ensures.closure c.take_while.ensures.done (λ x b q k. search (rules, tests)))
    ∙ slot_walked a.number (numbers_in a.size a.book.now a.count)
