-- A session can be cut at any order's border and gone on with, as properties of any program, from bytes to bytes.
use Rattle.std.specs.Prelude.{◌≡◌, ◌≢◌, List, [], ◌∷◌, ◌++◌, ℕ, ◌+◌, ◌-◌, ◌*◌, ◌≤◌, eqb, length, drop, codes, Ok}
use Rattle.units.specs.Lists.{if_so, Within, All}
use Rattle.layout.specs.declared.Order.TheVariants.{Book, Cancel}
use Rattle.layout.specs.declared.Wish.{Wish}
use Rattle.layout.specs.Layout.{order_bytes}
use Rattle.layout.specs.Records.{order_read}
use Rattle.report.specs.Decimal.{decimal}
use Rattle.opening.specs.Opened.{first_byte, first_size, opened}
use Rattle.session.specs.Session.{Running, lines, after, orders, blank, started}

-- bytes that hold a start that is accepted, and this many whole orders
pub record AtBorder (bytes : List ℕ) (count : ℕ) : Type 0 where
  pub accepted : (opened blank bytes).answer.refusal ≡ 0
  pub border : length bytes ≡ first_size bytes + count * order_bytes

-- bytes that hold a start that is refused, whatever comes behind them
pub record Refused (bytes : List ℕ) : Type 0 where
  pub refused : (opened blank bytes).answer.refusal ≢ 0
  pub whole : first_size bytes ≤ length bytes

-- the session behind the orders that some bytes hold
abbrev pub reached : List ℕ → Running
reached bytes = after (started (opened blank bytes)) (orders (drop (first_size bytes) bytes))

-- What is written for the bytes in front stays as it is, and what is written behind it is what the session there makes of the rest.
pub record CutAnywhere (program : List ℕ → List ℕ) : Type 0 where
  pub goes_on : (a b : List ℕ) (count : ℕ) → AtBorder a count → program (a ++ b) ≡ program a ++ lines (reached a) (orders b)
  pub stops : (a b : List ℕ) → Refused a → program (a ++ b) ≡ program a

-- What follows speaks of no figure and no search. A line begins with its place, and nothing in it ends a line but its last byte.
pub record LineAt (place : ℕ) (line : List ℕ) : Type 0 where
  pub words : List ℕ
  pub one_line : All (λ b. b ≢ 10) words
  pub placed : line ≡ decimal place ++ (codes " " ++ (words ++ codes "\n"))

-- 'On refusal it writes `desk refused N` and stops. Otherwise `desk links N`, then one line for each order': each order, one cut short too,
-- adds one line with the next place, however many came before it
pub record LineByLine (program : List ℕ → List ℕ) : Type 0 where
  pub refused : (bytes : List ℕ) → (opened blank bytes).answer.refusal ≢ 0 → program bytes ≡ codes "desk refused " ++ (decimal (opened blank bytes).answer.refusal ++ codes "\n")
  pub first : (a : List ℕ) → AtBorder a 0 → program a ≡ codes "desk links " ++ (decimal (first_byte a) ++ codes "\n")
  pub one_more : (a order : List ℕ) (count : ℕ) → AtBorder a count → Within 1 order_bytes (length order)
      → (line : List ℕ) × LineAt (count + 1) line × (program (a ++ order) ≡ program a ++ line)
  -- 'a last piece of 1 to 15 bytes' is refused 12
  pub cut_short : (a piece : List ℕ) (count : ℕ) → AtBorder a count → Within 1 (order_bytes - 1) (length piece) → program (a ++ piece) ≡ program a ++ (decimal (count + 1) ++ codes " refused 12\n")

-- a booking that is accepted as any order stands for the next one: it can be cancelled then
pub record Remembers (program : List ℕ → List ℕ) : Type 0 where
  pub cancels : (a booking cancellation : List ℕ) (count number : ℕ) (wish : Wish) (words : List ℕ)
      → AtBorder a count → order_read booking ≡ Ok (Book number wish) → order_read cancellation ≡ Ok (Cancel number)
      → program (a ++ booking) ≡ program a ++ (decimal (count + 1) ++ (codes " booked " ++ words))
      → program (a ++ (booking ++ cancellation)) ≡ program (a ++ booking) ++ (decimal (count + 2) ++ (codes " cancelled " ++ (decimal number ++ codes "\n")))

-- so there is one line for the desk and one for each order
unfoldable pub ends : List ℕ → ℕ
ends [] = 0
ends (b ∷ bs) = if_so (eqb b 10) 1 + ends bs

abbrev pub OneLineEach : (List ℕ → List ℕ) → Type 0
OneLineEach program = (bytes : List ℕ) → (opened blank bytes).answer.refusal ≡ 0 → ends (program bytes) ≡ 1 + length (orders (drop (first_size bytes) bytes))
