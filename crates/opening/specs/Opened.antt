-- Document 01's start of a session: the first byte, the guard, the links, then the set-up, each check in its order.
use Rattle.std.specs.Prelude.{List, [], map, Bool, ℕ, ◌+◌, ◌*◌, leb, eqb, length, get_or, take, drop, Option, None, Some, Result, Ok, Err, is_err}
use Rattle.units.specs.declared.Link.{Link}
use Rattle.units.specs.Limits.{most_links}
use Rattle.units.specs.Lists.{within, if_so, count_from}
use Rattle.units.specs.Search as search
use Rattle.units.specs.declared.Refusal.{Refusal}
use Rattle.layout.specs.Layout.{count_bytes, guard_bytes, lead_bytes, link_bytes}
use Rattle.units.specs.Refusals.{bad_size, bad_length, number, number_of}
use Rattle.layout.specs.Records.{if_passed, link_read}
use Rattle.layout.specs.Values.{link_values}
use Rattle.report.specs.declared.Report.{Report}
use Rattle.report.specs.declared.Report.TheVariants.{DeskLinks, DeskRefused}
use Rattle.histories.specs.Kinds as kinds
use Rattle.rules.specs.Calls.{set_up, values}
use Rattle.rules.specs.Tables.{Tables}
use Rattle.rules.specs.Desk.{Outcome, outcome}

-- what the record of link i, behind the count and the guard, is read as
unfoldable pub link_record : List ℕ → ℕ → Result Link Refusal
link_record bytes i = link_read (take link_bytes (drop (lead_bytes + i * link_bytes) bytes))

abbrev pub unreadable : List ℕ → ℕ → Bool
unreadable bytes i = is_err (link_record bytes i)

-- the refusal number of the record that was found; 0 if none was
abbrev pub refusal_of : List ℕ → search.Found → ℕ
refusal_of bytes (search.at i) = number_of (link_record bytes i)
refusal_of bytes search.nothing = 0

-- 'each record in turn': the refusal number of the first of n that cannot be read
unfoldable pub links_refusal : List ℕ → ℕ → ℕ
links_refusal bytes n = refusal_of bytes (search.first_from 0 n (unreadable bytes))

-- the links that n records hold
unfoldable pub links_in : List ℕ → ℕ → List Link
links_in bytes n = map (λ i. (link_values (link_record bytes i)).link) (count_from 0 n)

-- 'one byte with the count of links'
abbrev pub first_byte : List ℕ → ℕ
first_byte bytes = get_or bytes 0 0

-- document 02's 'a second byte, the guard'
abbrev pub guard_byte : List ℕ → ℕ
guard_byte bytes = get_or bytes count_bytes 0

-- how many bytes a first byte has behind it before the orders: the guard and as many link records as it counts; none where its count is
-- out of range
abbrev pub rest_size : ℕ → Option ℕ
rest_size count = if_passed (within 1 most_links count) (Some (guard_bytes + count * link_bytes)) None

-- 'one byte with the count of links', the guard, 'the links, then orders': how many bytes stand before the orders. A count out of range has
-- nothing behind it
unfoldable pub first_size : List ℕ → ℕ
first_size bytes = count_bytes + if_so (within 1 most_links (first_byte bytes)) (guard_bytes + first_byte bytes * link_bytes)

-- 'a first byte (12), its range (1), enough bytes for the links (12), each record in turn (11)'; 0 if all are passed. Where the guard is
-- missing (12) there aren't enough bytes for the links
unfoldable pub bytes_refusal : List ℕ → ℕ
bytes_refusal bytes =
    if_passed (eqb (length bytes) 0) bad_length
    (if_passed (within 1 most_links (first_byte bytes)) (if_passed (leb (lead_bytes + first_byte bytes * link_bytes) (length bytes)) (links_refusal bytes (first_byte bytes)) bad_length) bad_size)

-- what the start is answered: its refusal number, 0 if there is none, and the list of links
pub record Told : Type 0 where
  pub refusal : ℕ
  pub links : List Link

-- that, and the tables that the start leaves
abbrev pub Opened : Type 0
Opened = kinds.Outcome Told Tables

abbrev pub with_outcome : List Link → Outcome → Opened
with_outcome links o = record { answer = record { refusal = (values o.answer).number; links = links }; tables = o.tables }

-- 'then the set-up (2)', with that guard, whose range comes first (4)
abbrev pub by_set_up : Tables → List Link → ℕ → Opened
by_set_up t links guard = with_outcome links (outcome links t (set_up guard))

-- what the first bytes of a session give
unfoldable pub opened : Tables → List ℕ → Opened
opened t bytes = if_passed (eqb (bytes_refusal bytes) 0) (by_set_up t (links_in bytes (first_byte bytes)) (guard_byte bytes)) (record { answer = record { refusal = bytes_refusal bytes; links = [] }; tables = t })

-- 'on refusal it writes `desk refused N`', otherwise `desk links N`
abbrev pub desk_report : Result ℕ Refusal → Report
desk_report (Ok links) = DeskLinks links
desk_report (Err refusal) = DeskRefused (number refusal)
