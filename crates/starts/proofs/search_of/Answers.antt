-- `search_of` meets its contract: the columns are those of the links.
use Rattle.std.proofs.Common.{rules, ◌≡◌, length}
use lib.ListN.{get_or}
use Rattle.starts.specs.Asked.{begins, ends}
use Rattle.starts.proofs.search_of.Goals as goal

pub returns : goal.returns
returns c =
    let links = c.args.links.now in
    let request = c.args.request in
    let from : c.column-from.result ≡ begins links = c.column-from.ensures (λ l. l.from) (λ link value called. search rules) in
    let to : c.column-to.result ≡ ends links = c.column-to.ensures (λ l. l.to) (λ link value called. search rules) in
    λ i. record {
      links = record { count = length links; from = λ l. get_or (from i) l 0; to = λ l. get_or (to i) l 0 };
      source = request.from;
      destination = request.to;
      bandwidth = request.bandwidth.0;
      span = c.span_of.ensures i;
    }
