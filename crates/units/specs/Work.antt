-- Document 02's sold work: 'bandwidth times duration, guard not counted'.
use Rattle.std.specs.Prelude.{ℕ, ◌*◌}
use Rattle.units.specs.Limits.{most_bandwidth, longest}

abbrev pub work_of : ℕ → ℕ → ℕ
work_of bandwidth duration = bandwidth * duration

-- the most that a booking can add to a total
abbrev pub most_work : ℕ
most_work = work_of most_bandwidth longest
