-- What the numbers that are handed out tell of an answer: the demands speak of answers, the contracts of the calls hand out
-- their `values`.
use Rattle.std.specs.Prelude.{◌≡◌, [], ℕ, length}
use Rattle.units.specs.Limits.{most_hops}
use Rattle.units.specs.Lists.{padded}
use Rattle.rules.specs.Calls.{Answer, done, starts, lists, shows, refused, refuse, Values, values}

-- beside a refusal all else is zero but the minute
abbrev pub Told : Answer → Values → Type 0
Told done v = v.number ≡ 0
Told (starts g) v = (v.number ≡ 0) × (v.start ≡ g.start) × (v.count ≡ length g.path) × (v.path ≡ padded most_hops g.path) × (v.at ≡ 0)
Told (lists rs) v = (v.number ≡ 0) × (v.ranges ≡ length rs)
Told (shows x) v = (v.number ≡ 0) × (v.figure ≡ x)
Told (refused r) v =
    (v.number ≡ r.number) × (v.at ≡ r.at) × (v.start ≡ 0) × (v.count ≡ 0) × (v.path ≡ padded most_hops []) × (v.ranges ≡ 0) × (v.figure ≡ 0)

abbrev pub NumbersTell : Type 0
NumbersTell = (a : Answer) → Told a (values a)

-- document 02's 'other refusals bring 0', of the refusal by a check
abbrev pub ChecksBringNone : Type 0
ChecksBringNone = (k : ℕ) → (values (refuse k)).at ≡ 0
