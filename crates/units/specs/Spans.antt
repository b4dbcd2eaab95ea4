-- From when on a booking may hold its links, for how long, and until when.
use Rattle.std.specs.Prelude.{ℕ, ◌+◌, max}
use Rattle.units.specs.declared.Head.{Head}
use Rattle.units.specs.declared.Request.{Request}

-- document 01's low: the later of earliest start and clock
abbrev pub low_at : ℕ → ℕ → ℕ
low_at earliest clock = max earliest clock

-- that of a request, on a desk of that head
abbrev pub low_of : Head → Request → ℕ
low_of head r = low_at r.earliest.0 head.clock.0

-- the minutes for which a booking of that duration holds its links under a guard
abbrev pub held_for : ℕ → ℕ → ℕ
held_for duration guard = duration + guard

-- the same, on a desk of that head
abbrev pub span_of : Head → ℕ → ℕ
span_of head duration = held_for duration head.guard.0

-- more than any span: two figures of a table together
abbrev pub most_span : ℕ
most_span = 8589934590

-- the minute at which links are released: the start plus the minutes for which they are held
abbrev pub release : ℕ → ℕ → ℕ
release start span = start + span
