-- Document 01's 'reading a record': what any bytes are read as, refusals included.
use Rattle.std.specs.Prelude.{List, [], ◌∷◌, Bool, true, false, ◌&&◌, ◌||◌, ℕ, ◌-◌, ◌^◌, eqb, length, get_or, Option, None, Some, Result, Ok, Err}
use Rattle.units.specs.declared.Minute.{Minute}
use Rattle.units.specs.declared.Link.{Link}
use Rattle.units.specs.declared.Refusal.{Refusal}
use Rattle.units.specs.declared.Refusal.TheVariants.{BadBits, BadLength}
use Rattle.layout.specs.declared.Wish.{Wish}
use Rattle.layout.specs.declared.OrderKind.{OrderKind}
use Rattle.layout.specs.declared.OrderKind.TheVariants as kinds
use Rattle.layout.specs.declared.Order.{Order}
use Rattle.layout.specs.declared.Order.TheVariants.{Book, Cancel, Clock, Offer}
use Rattle.layout.specs.declared.OrderFields.{OrderFields}
use Rattle.layout.specs.declared.LinkFields.{LinkFields}
use Rattle.layout.specs.Layout.{big_endian, cut, order_widths, link_widths, order_bytes, link_bytes}

-- x where the test passes, else y
abbrev pub if_passed : {A : Type 0} → Bool → A → A → A
if_passed true x y = x
if_passed false x y = y

-- the kinds by their numbers, from 0; 0 is unknown, and a higher number too
abbrev pub kind_of : ℕ → Result OrderKind Refusal
kind_of k = get_or (Err BadBits ∷ Ok kinds.Book ∷ Ok kinds.Cancel ∷ Ok kinds.Clock ∷ Ok kinds.Offer ∷ []) k (Err BadBits)

-- the fields that a kind uses, of number, from, to, bandwidth, duration, earliest, latest
abbrev pub uses : OrderKind → List Bool
uses kinds.Book = true ∷ true ∷ true ∷ true ∷ true ∷ true ∷ true ∷ []
uses kinds.Cancel = true ∷ false ∷ false ∷ false ∷ false ∷ false ∷ false ∷ []
uses kinds.Clock = false ∷ false ∷ false ∷ false ∷ false ∷ true ∷ false ∷ []
uses kinds.Offer = false ∷ true ∷ true ∷ true ∷ true ∷ true ∷ true ∷ []

-- every field that is not used is zero
unfoldable pub clear : List Bool → List ℕ → Bool
clear [] fields = true
clear (used ∷ us) [] = true
clear (used ∷ us) (field ∷ fields) = (used || eqb field 0) && clear us fields

-- the fields of an order by name
abbrev pub order_fields : List ℕ → OrderFields
order_fields fields = record {
  kind = get_or fields 0 0;
  number = get_or fields 1 0;
  from = get_or fields 2 0;
  to = get_or fields 3 0;
  bandwidth = get_or fields 4 0;
  duration = get_or fields 5 0;
  earliest = get_or fields 6 0;
  latest = get_or fields 7 0;
}

-- those behind the kind
abbrev pub behind_kind : OrderFields → List ℕ
behind_kind f = f.number ∷ f.from ∷ f.to ∷ f.bandwidth ∷ f.duration ∷ f.earliest ∷ f.latest ∷ []

-- a latest of all ones means open
abbrev pub all_ones : ℕ
all_ones = 2 ^ 30 - 1

abbrev pub latest_of : ℕ → Option Minute
latest_of field = if_passed (eqb field all_ones) None (Some (record { 0 = field }))

abbrev pub wish_of : OrderFields → Wish
wish_of f = record {
  from = f.from;
  to = f.to;
  bandwidth = record { 0 = f.bandwidth };
  duration = record { 0 = f.duration };
  earliest = record { 0 = f.earliest };
  latest = latest_of f.latest;
}

-- the order of that kind; clock's earliest holds the new minute
abbrev pub order_of : OrderKind → OrderFields → Order
order_of kinds.Book f = Book f.number (wish_of f)
order_of kinds.Cancel f = Cancel f.number
order_of kinds.Clock f = Clock (record { 0 = f.earliest })
order_of kinds.Offer f = Offer (wish_of f)

-- the same, refused where the kind is unknown, or a field is set that it does not use
abbrev pub order_by : Result OrderKind Refusal → OrderFields → Result Order Refusal
order_by (Ok kind) f = if_passed (clear (uses kind) (behind_kind f)) (Ok (order_of kind f)) (Err BadBits)
order_by (Err refusal) f = Err refusal

unfoldable pub order_from : OrderFields → Result Order Refusal
order_from f = order_by (kind_of f.kind) f

-- what any bytes are read as
unfoldable pub order_read : List ℕ → Result Order Refusal
order_read bytes = if_passed (eqb (length bytes) order_bytes) (order_from (order_fields (cut order_widths (big_endian bytes)))) (Err BadLength)

-- the fields of a link by name
abbrev pub link_fields : List ℕ → LinkFields
link_fields fields = record { from = get_or fields 0 0; to = get_or fields 1 0; capacity = get_or fields 2 0; zero = get_or fields 3 0 }

unfoldable pub link_from : LinkFields → Result Link Refusal
link_from f = if_passed (eqb f.zero 0) (Ok (record { from = f.from; to = f.to; capacity = record { 0 = f.capacity } })) (Err BadBits)

unfoldable pub link_read : List ℕ → Result Link Refusal
link_read bytes = if_passed (eqb (length bytes) link_bytes) (link_from (link_fields (cut link_widths (big_endian bytes)))) (Err BadLength)
