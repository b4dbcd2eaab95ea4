-- What has come of a session's input: its first bytes, and of its orders those of a block. Where the bytes of an input are not known, as those
-- of a pipe, nothing is said.
use Rattle.std.specs.Prelude.{◌≡◌, ⊤, List, ◌++◌, ℕ, ◌*◌, ◌/◌, length, take, drop, Option, None, Some}
use Rattle.std.specs.Io.KnownBytes.{Consumes}
use Rattle.layout.specs.Layout.{order_bytes}
use Rattle.opening.specs.Opened.{first_size}
use Rattle.streams.specs.declared.reader.Block.{Block}

-- the first bytes of an input, taken off it
abbrev pub TakesStart : Option (List ℕ) → Option (List ℕ) → List ℕ → Type 0
TakesStart None left start = ⊤
TakesStart (Some bytes) None start = ⊥
TakesStart (Some bytes) (Some left) start = (start ≡ take (first_size bytes) bytes) × (left ≡ drop (first_size bytes) bytes)

-- bytes of an input, behind those that came before
abbrev pub ComesBehind : Option (List ℕ) → Option (List ℕ) → List ℕ → List ℕ → Type 0
ComesBehind old left before all = (came : List ℕ) × Consumes old left came × (all ≡ before ++ came)

-- the bytes of a block that is full
abbrev pub block_bytes : ℕ
block_bytes = 65536

-- the bytes behind the last whole order
abbrev pub cut_short : List ℕ → List ℕ
cut_short bytes = drop (length bytes / order_bytes * order_bytes) bytes

-- those that a block keeps for the next read
abbrev pub kept : Block → List ℕ
kept b = take b.kept b.bytes
