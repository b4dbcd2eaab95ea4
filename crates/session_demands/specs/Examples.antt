-- Document 01's worked session, as a file of bytes and as the text that it prints.
use Rattle.std.specs.Prelude.{◌≡◌, List, [], ◌∷◌, ◌++◌, ℕ, codes}

-- 154 bytes: the count of links, the guard, three links, eight orders
abbrev pub session_bytes : List ℕ
session_bytes =
    0x03 ∷ 0x00 ∷ []
    -- link 0: from 0 to 1, 10 Mb/s; link 1: from 1 to 2, 10; link 2: from 0 to 2, 4
    ++ 0x00 ∷ 0x40 ∷ 0x00 ∷ 0x28 ∷ 0x00 ∷ 0x00 ∷ 0x00 ∷ 0x00 ∷ []
    ++ 0x08 ∷ 0x80 ∷ 0x00 ∷ 0x28 ∷ 0x00 ∷ 0x00 ∷ 0x00 ∷ 0x00 ∷ []
    ++ 0x00 ∷ 0x80 ∷ 0x00 ∷ 0x10 ∷ 0x00 ∷ 0x00 ∷ 0x00 ∷ 0x00 ∷ []
    -- 1. book 7, from 0 to 2, 4 Mb/s for 10 minutes, from minute 0 on
    ++ 0x10 ∷ 0x01 ∷ 0xC0 ∷ 0x20 ∷ 0x00 ∷ 0x04 ∷ 0x00 ∷ 0x00 ∷ 0xA0 ∷ 0x00 ∷ 0x00 ∷ 0x00 ∷ 0x3F ∷ 0xFF ∷ 0xFF ∷ 0xFF ∷ []
    -- 2. book 9, from 0 to 2, 6 Mb/s for 5 minutes, from minute 0 on
    ++ 0x10 ∷ 0x02 ∷ 0x40 ∷ 0x20 ∷ 0x00 ∷ 0x06 ∷ 0x00 ∷ 0x00 ∷ 0x50 ∷ 0x00 ∷ 0x00 ∷ 0x00 ∷ 0x3F ∷ 0xFF ∷ 0xFF ∷ 0xFF ∷ []
    -- 3. book 3, from 0 to 2, 5 Mb/s for 4 minutes, from minute 2 to minute 4
    ++ 0x10 ∷ 0x00 ∷ 0xC0 ∷ 0x20 ∷ 0x00 ∷ 0x05 ∷ 0x00 ∷ 0x00 ∷ 0x40 ∷ 0x00 ∷ 0x00 ∷ 0x00 ∷ 0x80 ∷ 0x00 ∷ 0x00 ∷ 0x04 ∷ []
    -- 4. the same, to minute 5
    ++ 0x10 ∷ 0x00 ∷ 0xC0 ∷ 0x20 ∷ 0x00 ∷ 0x05 ∷ 0x00 ∷ 0x00 ∷ 0x40 ∷ 0x00 ∷ 0x00 ∷ 0x00 ∷ 0x80 ∷ 0x00 ∷ 0x00 ∷ 0x05 ∷ []
    -- 5. cancel 9
    ++ 0x20 ∷ 0x02 ∷ 0x40 ∷ 0x00 ∷ 0x00 ∷ 0x00 ∷ 0x00 ∷ 0x00 ∷ 0x00 ∷ 0x00 ∷ 0x00 ∷ 0x00 ∷ 0x00 ∷ 0x00 ∷ 0x00 ∷ 0x00 ∷ []
    -- 6. offer, from 0 to 2, 4 Mb/s for 3 minutes, in minute 0
    ++ 0x40 ∷ 0x00 ∷ 0x00 ∷ 0x20 ∷ 0x00 ∷ 0x04 ∷ 0x00 ∷ 0x00 ∷ 0x30 ∷ 0x00 ∷ 0x00 ∷ 0x00 ∷ 0x00 ∷ 0x00 ∷ 0x00 ∷ 0x00 ∷ []
    -- 7. clock 10
    ++ 0x30 ∷ 0x00 ∷ 0x00 ∷ 0x00 ∷ 0x00 ∷ 0x00 ∷ 0x00 ∷ 0x00 ∷ 0x00 ∷ 0x00 ∷ 0x00 ∷ 0x02 ∷ 0x80 ∷ 0x00 ∷ 0x00 ∷ 0x00 ∷ []
    -- 8. cancel 7
    ++ 0x20 ∷ 0x01 ∷ 0xC0 ∷ 0x00 ∷ 0x00 ∷ 0x00 ∷ 0x00 ∷ 0x00 ∷ 0x00 ∷ 0x00 ∷ 0x00 ∷ 0x00 ∷ 0x00 ∷ 0x00 ∷ 0x00 ∷ 0x00 ∷ []

abbrev pub session_text : List ℕ
session_text =
    codes "desk links 3\n"
    ++ codes "1 booked 7 start 0 links 2\n"
    ++ codes "2 booked 9 start 0 links 0 1\n"
    ++ codes "3 refused 8 at 2\n"
    ++ codes "4 booked 3 start 5 links 0 1\n"
    ++ codes "5 cancelled 9\n"
    ++ codes "6 offer start 0 links 0 1\n"
    ++ codes "7 clock 10\n"
    ++ codes "8 refused 9\n"

-- a program prints it
abbrev pub PrintsSession : (List ℕ → List ℕ) → Type 0
PrintsSession program = program session_bytes ≡ session_text

-- 'a first byte (12), its range (1)', the guard (12), 'enough bytes for the links (12), each record in turn (11), then the set-up (2)',
-- with the guard's range (4)
pub record RefusesStarts (program : List ℕ → List ℕ) : Type 0 where
  pub no_byte : program [] ≡ codes "desk refused 12\n"
  pub no_links : program (0 ∷ []) ≡ codes "desk refused 1\n"
  pub too_many : program (65 ∷ []) ≡ codes "desk refused 1\n"
  -- the guard is missing, or a byte of the link, which comes before a guard that is too long
  pub no_guard : program (1 ∷ []) ≡ codes "desk refused 12\n"
  pub too_few_bytes : program (1 ∷ 16 ∷ 0x00 ∷ 0x40 ∷ 0x00 ∷ 0x28 ∷ 0x00 ∷ 0x00 ∷ 0x00 ∷ []) ≡ codes "desk refused 12\n"
  -- the last bit of a link is set; the guard is too long, which comes behind it
  pub bits_set : program (1 ∷ 16 ∷ 0x00 ∷ 0x40 ∷ 0x00 ∷ 0x28 ∷ 0x00 ∷ 0x00 ∷ 0x00 ∷ 0x01 ∷ []) ≡ codes "desk refused 11\n"
  -- the guard is too long, and the link, which comes behind it, from node 0 to itself
  pub long_guard : program (1 ∷ 16 ∷ 0x00 ∷ 0x00 ∷ 0x00 ∷ 0x28 ∷ 0x00 ∷ 0x00 ∷ 0x00 ∷ 0x00 ∷ []) ≡ codes "desk refused 4\n"
  -- such a link under the longest guard
  pub same_node : program (1 ∷ 15 ∷ 0x00 ∷ 0x00 ∷ 0x00 ∷ 0x28 ∷ 0x00 ∷ 0x00 ∷ 0x00 ∷ 0x00 ∷ []) ≡ codes "desk refused 2\n"
