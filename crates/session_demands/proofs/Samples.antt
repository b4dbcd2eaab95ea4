-- The samples, from their bytes to their text, by computation of the plain book.
use mathlib.Core.Path.{◌≡◌, refl, ◌∙◌}
use Rattle.units.specs.Lists.{member, sum, select, count_from}
use Rattle.units.specs.Search.{first_from, all_from, any_below}
use Rattle.layout.specs.Layout.{big_endian, cut}
use Rattle.layout.specs.Records.{clear, order_from, order_read, link_from, link_read}
use Rattle.path_search.specs.Paths.{reaches, lowest, fewest, route}
use Rattle.choice.specs.Earliest.{can_start, earliest}
use Rattle.choice.specs.BreakOff.{break_off}
use Rattle.report.specs.Decimal.{digits, decimal}
use Rattle.report.specs.Line.{numbers, route as route_text, answer, line}
use Rattle.histories.specs.Kinds as kinds
use Rattle.rules.specs.Calls.{checked, breaks_off, best}
use Rattle.opening.specs.Opened.{first_size, link_record, links_refusal, links_in, bytes_refusal}
use Rattle.session.specs.Session.{orders, session}
use Rattle.session_demands.specs.FromPlainBook.{plain_lines, plain_session}
use Rattle.session_demands.specs.Samples.{busy_day, full_book, guarded_day, PrintsSamples}
use Rattle.session_demands.proofs.PlainBook.{session_plain}

busy_day_text : plain_session busy_day.bytes ≡ busy_day.text
unfolding plain_session plain_lines orders first_size link_record links_refusal links_in bytes_refusal count_from big_endian cut sum clear order_from order_read link_from link_read kinds.answer checked best breaks_off break_off select member earliest can_start reaches lowest fewest route first_from all_from any_below digits decimal numbers route_text answer line
busy_day_text = refl

full_book_text : plain_session full_book.bytes ≡ full_book.text
unfolding plain_session plain_lines orders first_size link_record links_refusal links_in bytes_refusal count_from big_endian cut sum clear order_from order_read link_from link_read kinds.answer checked best breaks_off break_off select member earliest can_start reaches lowest fewest route first_from all_from any_below digits decimal numbers route_text answer line
full_book_text = refl

guarded_day_text : plain_session guarded_day.bytes ≡ guarded_day.text
unfolding plain_session plain_lines orders first_size link_record links_refusal links_in bytes_refusal count_from big_endian cut sum clear order_from order_read link_from link_read kinds.answer checked best breaks_off break_off select member earliest can_start reaches lowest fewest route first_from all_from any_below digits decimal numbers route_text answer line
guarded_day_text = refl

pub samples_printed : PrintsSamples session
unfolding cut
samples_printed = (session_plain busy_day.bytes ∙ busy_day_text, (session_plain full_book.bytes ∙ full_book_text, (session_plain guarded_day.bytes ∙ guarded_day_text, tt)))
