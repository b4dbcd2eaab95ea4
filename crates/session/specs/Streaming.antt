-- What a session makes of an input that comes piece by piece, and of an output that may fail: what was written was due, and the rest is due
-- still. Where the bytes of the input are not known, as those of a pipe, nothing is said.
use Rattle.std.specs.Prelude.{◌≡◌, ◌≢◌, ⊤, List, [], ◌++◌, Bool, true, false, ℕ, ◌+◌, ◌/◌, ◌^◌, ◌≤◌, length, drop, Option, None, Some, IfSome}
use Rattle.layout.specs.Layout.{order_bytes}
use Rattle.lent.specs.Lent.{tables_of}
use Rattle.lent.specs.declared.Desk.{Desk}
use Rattle.opening.specs.Opened.{first_size, opened}
use Rattle.session.specs.Session.{Running, lines, orders, blank}
use Rattle.streams.specs.declared.writer.Lines.{Lines}
use Rattle.streams.specs.Reading.{block_bytes}
use Rattle.streams.specs.Writing.{Moves}

-- behind a start that is refused nothing is read
abbrev pub StopsAtStart : Option (List ℕ) → Option (List ℕ) → Type 0
StopsAtStart None left = ⊤
StopsAtStart (Some bytes) left = (opened blank bytes).answer.refusal ≢ 0 → left ≡ Some (drop (first_size bytes) bytes)

-- so many bytes at least were taken off an input
abbrev pub Taken : ℕ → Option (List ℕ) → Option (List ℕ) → Type 0
Taken n None left = ⊤
Taken n (Some bytes) None = ⊥
Taken n (Some bytes) (Some left) = n + length left ≤ length bytes

-- an input that no program reads to its end: at a million pieces a second it takes seventy years
abbrev pub Long : Option (List ℕ) → Type 0
Long input = IfSome input (λ bytes. 2 ^ 51 ≤ length bytes)

-- the most orders of a block
abbrev pub most_orders : ℕ
most_orders = block_bytes / order_bytes

-- the session of a desk at a place, and at that of the next line
abbrev pub at_place : Desk → ℕ → Running
at_place desk place = record { links = desk.links.now; tables = tables_of desk; place = place }

abbrev pub running : Desk → Lines → Running
running desk l = at_place desk l.place

-- what is due where these bytes have come and the input goes on with those
abbrev pub due : Running → List ℕ → List ℕ → List ℕ
due r came bytes = lines r (orders (came ++ bytes))

abbrev pub due_if : Bool → (List ℕ → List ℕ) → List ℕ → List ℕ
due_if true still bytes = still bytes
due_if false still bytes = []

-- from what the input had left and the output held to what they have and hold
abbrev pub Goes : Option (List ℕ) → Option (List ℕ) → Option (List ℕ) → Option (List ℕ) → (List ℕ → List ℕ) → (List ℕ → List ℕ) → Type 0
Goes None left old new before after = ⊤
Goes (Some bytes) None old new before after = ⊥
Goes (Some bytes) (Some left) old new before after = Moves old new (before bytes) (after left)
