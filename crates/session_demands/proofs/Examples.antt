-- Document 01's worked session, from its bytes to its text, by computation of the plain book.
use mathlib.Core.Path.{refl, ◌∙◌}
use Rattle.units.specs.Lists.{member, sum, select, count_from}
use Rattle.units.specs.Search.{first_from, all_from, any_below}
use Rattle.layout.specs.Layout.{big_endian, cut}
use Rattle.layout.specs.Records.{clear, order_from, order_read, link_from, link_read}
use Rattle.path_search.specs.Paths.{reaches, lowest, fewest, route}
use Rattle.choice.specs.Earliest.{can_start, earliest}
use Rattle.choice.specs.BreakOff.{break_off}
use Rattle.report.specs.Decimal.{digits, decimal}
use Rattle.report.specs.Line.{numbers, route as route_text, answer, line}
use Rattle.histories.specs.Kinds as kinds
use Rattle.rules.specs.Calls.{checked, breaks_off, best}
use Rattle.opening.specs.Opened.{first_size, link_record, links_refusal, links_in, bytes_refusal}
use Rattle.session.specs.Session.{orders, session}
use Rattle.session_demands.specs.FromPlainBook.{plain_lines, plain_session}
use Rattle.session_demands.specs.Examples.{session_bytes, PrintsSession, RefusesStarts}
use Rattle.session_demands.proofs.PlainBook.{session_plain}

pub session_file : PrintsSession session
unfolding plain_session plain_lines orders first_size link_record links_refusal links_in bytes_refusal count_from big_endian cut sum clear order_from order_read link_from link_read kinds.answer checked best breaks_off break_off select member earliest can_start reaches lowest fewest route first_from all_from any_below digits decimal numbers route_text answer line
session_file = session_plain session_bytes ∙ refl

pub starts_refused : RefusesStarts session
unfolding plain_session link_record links_refusal links_in bytes_refusal count_from big_endian cut sum link_from link_read first_from checked digits decimal answer line
starts_refused = record {
  no_byte = session_plain _ ∙ refl;
  no_links = session_plain _ ∙ refl;
  too_many = session_plain _ ∙ refl;
  no_guard = session_plain _ ∙ refl;
  too_few_bytes = session_plain _ ∙ refl;
  bits_set = session_plain _ ∙ refl;
  long_guard = session_plain _ ∙ refl;
  same_node = session_plain _ ∙ refl;
}
