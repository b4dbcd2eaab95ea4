-- The refusal numbers of documents 01 and 02, each once; 0 is the number of an accepted call.
use Rattle.std.specs.Prelude.{ℕ, Result, Ok, Err}
use Rattle.units.specs.declared.Refusal.{Refusal}
use Rattle.units.specs.declared.Refused.{Refused}
use Rattle.units.specs.declared.Refusal.TheVariants.{BadSize, BadLink, Unsound, BadField, TooLate, NumberStands, BookFull, NoStart, NotStanding, ClockBack, BadBits, BadLength, BadList}

-- a size of a list or table
abbrev pub bad_size : ℕ
bad_size = 1

-- a link of the list
abbrev pub bad_link : ℕ
bad_link = 2

-- tables that are not sound
abbrev pub unsound : ℕ
unsound = 3

-- a field out of range
abbrev pub bad_field : ℕ
bad_field = 4

-- no time between low and latest start
abbrev pub too_late : ℕ
too_late = 5

-- the number stands
abbrev pub number_stands : ℕ
number_stands = 6

-- the book is full
abbrev pub book_full : ℕ
book_full = 7

-- no possible start
abbrev pub no_start : ℕ
no_start = 8

-- the number does not stand
abbrev pub not_standing : ℕ
not_standing = 9

-- a clock that would go back
abbrev pub clock_back : ℕ
clock_back = 10

-- bits that should be zero, or an unknown kind
abbrev pub bad_bits : ℕ
bad_bits = 11

-- a length of bytes
abbrev pub bad_length : ℕ
bad_length = 12

-- the length of a lent list
abbrev pub bad_list : ℕ
bad_list = 13

-- the number of each refusal
abbrev pub number : Refusal → ℕ
number BadSize = bad_size
number BadLink = bad_link
number Unsound = unsound
number BadField = bad_field
number TooLate = too_late
number NumberStands = number_stands
number BookFull = book_full
number NoStart = no_start
number NotStanding = not_standing
number ClockBack = clock_back
number BadBits = bad_bits
number BadLength = bad_length
number BadList = bad_list

-- and of an answer that may be one: 0 is the number of an accepted call
abbrev pub number_of : {A : Type 0} → Result A Refusal → ℕ
number_of (Ok _) = 0
number_of (Err refusal) = number refusal

-- document 02's 'other refusals bring 0': a refusal with no minute beside it
abbrev pub without_minute : Refusal → Refused
without_minute refusal = record { refusal = refusal; at = record { 0 = 0 } }
