-- `read_link` meets its contract: eight bytes make the number that has the fields.
use mathlib.Core.Path.{◌∙◌, ap}
use borrow.Author.Tests.{eq-eqb}
use Rattle.std.specs.Result.{result_ok}
use Rattle.std.proofs.lemmas.Option.{MatchOption-at_some}
use Rattle.layout.specs.Layout.{cut, link_widths}
use Rattle.layout.specs.Records.{link_fields, link_from, link_read}
use Rattle.layout.proofs.Library.{piece_number}
use Rattle.reading.proofs.read_link.Goals as goal

pub returns : goal.returns
unfolding link_read
returns c =
    let piece = MatchOption-at_some _ _ _ (c.ok_or.ensures.ok_part ∙ ap result_ok c.in_ok-piece.was) c.as_array.ensures.cases in
    rw (eq-eqb _ _ piece.long)
    (c.try_from.ensures ∙ ap (λ f. link_from f) (c.cut_link.ensures ∙ ap (λ n. link_fields (cut link_widths n)) (c.from_be_bytes.ensures ∙ piece_number 7 piece)))
