-- `read_order` meets its contract: sixteen bytes make the number that has the fields.
use mathlib.Core.Path.{◌∙◌, ap}
use borrow.Author.Tests.{eq-eqb}
use Rattle.std.specs.Result.{result_ok}
use Rattle.std.proofs.lemmas.Option.{MatchOption-at_some}
use Rattle.layout.specs.Layout.{cut, order_widths}
use Rattle.layout.specs.Records.{order_fields, order_from, order_read}
use Rattle.layout.proofs.Library.{piece_number}
use Rattle.reading.proofs.read_order.Goals as goal

pub returns : goal.returns
unfolding order_read
returns c =
    let piece = MatchOption-at_some _ _ _ (c.ok_or.ensures.ok_part ∙ ap result_ok c.in_ok-piece.was) c.as_array.ensures.cases in
    rw (eq-eqb _ _ piece.long)
    (c.try_from.ensures ∙ ap (λ f. order_from f) (c.cut_order.ensures ∙ ap (λ n. order_fields (cut order_widths n)) (c.from_be_bytes.ensures ∙ piece_number 15 piece)))
