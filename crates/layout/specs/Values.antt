-- What the exported readers hand back: document 01's number and values for each case of a record that was read.
use Rattle.std.specs.Prelude.{ℕ, Option, None, Some, Result, Ok, Err}
use Rattle.units.specs.declared.Minute.{Minute}
use Rattle.units.specs.declared.Link.{Link}
use Rattle.units.specs.declared.Refusal.{Refusal}
use Rattle.units.specs.declared.Request.{Request}
use Rattle.units.specs.Limits.{last_minute}
use Rattle.units.specs.Refusals.{number}
use Rattle.layout.specs.declared.Wish.{Wish}
use Rattle.layout.specs.declared.OrderKind.{OrderKind}
use Rattle.layout.specs.declared.OrderKind.TheVariants as kinds
use Rattle.layout.specs.declared.Order.{Order}
use Rattle.layout.specs.declared.Order.TheVariants.{Book, Cancel, Clock, Offer}
use Rattle.layout.specs.declared.OrderRecord.{OrderRecord}
use Rattle.layout.specs.declared.LinkRecord.{LinkRecord}

-- the number of a kind
abbrev pub kind_number : OrderKind → ℕ
kind_number kinds.Book = 1
kind_number kinds.Cancel = 2
kind_number kinds.Clock = 3
kind_number kinds.Offer = 4

-- an open latest start is read as the last minute
abbrev pub latest_minute : Option Minute → ℕ
latest_minute None = last_minute
latest_minute (Some m) = m.0

-- 1 where it is open
abbrev pub open_flag : Option Minute → ℕ
open_flag None = 1
open_flag (Some m) = 0

abbrev pub request_of : Wish → Request
request_of w = record { from = w.from; to = w.to; bandwidth = w.bandwidth; duration = w.duration; earliest = w.earliest; latest = record { 0 = latest_minute w.latest } }

-- a request with only its earliest minute, which may be zero too
abbrev pub only_earliest : ℕ → Request
only_earliest m = record { from = 0; to = 0; bandwidth = record { 0 = 0 }; duration = record { 0 = 0 }; earliest = record { 0 = m }; latest = record { 0 = 0 } }

-- a booking or an offer
abbrev pub request_values : ℕ → ℕ → Wish → OrderRecord
request_values kind number w = record { refusal = 0; kind = kind; number = number; request = request_of w; latest_open = open_flag w.latest }

-- an order that holds no request, or a refusal
abbrev pub plain_values : ℕ → ℕ → ℕ → ℕ → OrderRecord
plain_values refusal kind number minute = record { refusal = refusal; kind = kind; number = number; request = only_earliest minute; latest_open = 0 }

abbrev pub values_of : Order → OrderRecord
values_of (Book number w) = request_values (kind_number kinds.Book) number w
values_of (Cancel number) = plain_values 0 (kind_number kinds.Cancel) number 0
values_of (Clock minute) = plain_values 0 (kind_number kinds.Clock) 0 minute.0
values_of (Offer w) = request_values (kind_number kinds.Offer) 0 w

-- a refusal hands back zero fields
abbrev pub order_values : Result Order Refusal → OrderRecord
order_values (Ok order) = values_of order
order_values (Err refusal) = plain_values (number refusal) 0 0 0

abbrev pub link_values : Result Link Refusal → LinkRecord
link_values (Ok link) = record { refusal = 0; link = link }
link_values (Err refusal) = record { refusal = number refusal; link = record { from = 0; to = 0; capacity = record { 0 = 0 } } }
