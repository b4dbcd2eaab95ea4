-- The two byte strings that document 01 prints are read as it says, and written from what it says, by computation.
use mathlib.Core.Path.{◌≡◌, refl}
use mathlib.Core.List.{[], ◌∷◌}
use lib.ListN.{replicate}
use Rattle.std.specs.Prelude.{None, Some, Ok}
use Rattle.units.specs.Lists.{sum}
use Rattle.layout.specs.declared.Order.TheVariants.{Book}
use Rattle.layout.specs.Layout.{big_endian, cut, pack, fits}
use Rattle.layout.specs.Records.{clear, order_from, order_read, link_from, link_read}
use Rattle.layout.specs.Forms.{form_fits, order_refusal, order_written, link_refusal, link_written}

-- link 0 of the session: 0 to 1 with 10 Mb/s
pub first_link : link_read (0x00 ∷ 0x40 ∷ 0x00 ∷ 0x28 ∷ 0x00 ∷ 0x00 ∷ 0x00 ∷ 0x00 ∷ []) ≡ Ok (record { from = 0; to = 1; capacity = record { 0 = 10 } })
unfolding big_endian cut sum link_from link_read
first_link = refl

-- its first order: book 7 from 0 to 2, 4 Mb/s for 10 minutes, earliest 0, latest open
pub first_order :
    order_read (0x10 ∷ 0x01 ∷ 0xC0 ∷ 0x20 ∷ 0x00 ∷ 0x04 ∷ 0x00 ∷ 0x00 ∷ 0xA0 ∷ 0x00 ∷ 0x00 ∷ 0x00 ∷ 0x3F ∷ 0xFF ∷ 0xFF ∷ 0xFF ∷ [])
    ≡ Ok (Book 7 (record { from = 0; to = 2; bandwidth = record { 0 = 4 }; duration = record { 0 = 10 }; earliest = record { 0 = 0 }; latest = None }))
unfolding big_endian cut sum clear order_from order_read
first_order = refl

-- the same link and the same order, written over other bytes
pub first_link_written : link_written (replicate 8 0xFF) (record { from = 0; to = 1; capacity = record { 0 = 10 } }) ≡ 0x00 ∷ 0x40 ∷ 0x00 ∷ 0x28 ∷ 0x00 ∷ 0x00 ∷ 0x00 ∷ 0x00 ∷ []
unfolding cut pack sum fits link_refusal link_written
first_link_written = refl

pub first_order_written :
    order_written (replicate 16 0xFF) (record { kind = 1; number = 7; wish = record { from = 0; to = 2; bandwidth = record { 0 = 4 }; duration = record { 0 = 10 }; earliest = record { 0 = 0 }; latest = None } })
    ≡ 0x10 ∷ 0x01 ∷ 0xC0 ∷ 0x20 ∷ 0x00 ∷ 0x04 ∷ 0x00 ∷ 0x00 ∷ 0xA0 ∷ 0x00 ∷ 0x00 ∷ 0x00 ∷ 0x3F ∷ 0xFF ∷ 0xFF ∷ 0xFF ∷ []
unfolding cut pack sum clear fits order_from form_fits order_refusal order_written
first_order_written = refl

-- with the latest start given as all ones it cannot be written
pub all_ones_given :
    order_refusal 16 (record { kind = 1; number = 7; wish = record { from = 0; to = 2; bandwidth = record { 0 = 4 }; duration = record { 0 = 10 }; earliest = record { 0 = 0 }; latest = Some (record { 0 = 1073741823 }) } })
    ≡ 4
unfolding clear fits order_from form_fits order_refusal
all_ones_given = refl
