-- What is written of a session's lines, where they stand in a buffer and a write may fail.
use Rattle.std.specs.Prelude.{◌≡◌, List, ◌++◌, ℕ, take, Option}
use Rattle.std.specs.Io.KnownBytes.{Appends}
use Rattle.streams.specs.declared.writer.Lines.{Lines}

-- some of these bytes, from the first on
abbrev pub AppendsFront : Option (List ℕ) → Option (List ℕ) → List ℕ → Type 0
AppendsFront old new bytes = (n : ℕ) × Appends old new (take n bytes)

-- lines that stand in a buffer, to be written
abbrev pub pending : Lines → List ℕ
pending l = take l.used l.bytes

-- lines that were pending are written, or pending still
abbrev pub Moves : Option (List ℕ) → Option (List ℕ) → List ℕ → List ℕ → Type 0
Moves old new before after = (written : List ℕ) × Appends old new written × (before ≡ written ++ after)
