-- The lines of document 01's session are the bytes that it prints, and the other lines that a desk can write, by computation.
use mathlib.Core.Path.{◌≡◌, refl}
use mathlib.Core.List.{[], ◌∷◌}
use Prim.Native.Nat.{◌^◌, ◌-◌}
use Rattle.units.specs.Limits.{last_minute}
use Rattle.report.specs.declared.Report.TheVariants.{DeskLinks, DeskRefused, Booked, Offered, Cancelled, Clock, Refused, RefusedAt}
use Rattle.std.specs.Prelude.{codes}
use Rattle.report.specs.Decimal.{digits, decimal}
use Rattle.report.specs.Line.{numbers, route, answer, line}

-- the whole output of the session
pub session :
    line 0 (DeskLinks 3) []
    ∷ line 1 (Booked 7 (record { 0 = 0 })) (2 ∷ [])
    ∷ line 2 (Booked 9 (record { 0 = 0 })) (0 ∷ 1 ∷ [])
    ∷ line 3 (RefusedAt 8 (record { 0 = 2 })) []
    ∷ line 4 (Booked 3 (record { 0 = 5 })) (0 ∷ 1 ∷ [])
    ∷ line 5 (Cancelled 9) []
    ∷ line 6 (Offered (record { 0 = 0 })) (0 ∷ 1 ∷ [])
    ∷ line 7 (Clock (record { 0 = 10 })) []
    ∷ line 8 (Refused 9) []
    ∷ []
    ≡ codes "desk links 3\n"
    ∷ codes "1 booked 7 start 0 links 2\n"
    ∷ codes "2 booked 9 start 0 links 0 1\n"
    ∷ codes "3 refused 8 at 2\n"
    ∷ codes "4 booked 3 start 5 links 0 1\n"
    ∷ codes "5 cancelled 9\n"
    ∷ codes "6 offer start 0 links 0 1\n"
    ∷ codes "7 clock 10\n"
    ∷ codes "8 refused 9\n"
    ∷ []
unfolding digits decimal numbers route answer line
session = refl

-- a desk that is refused; minute 0 beside a refusal; the last place, number, minute and link
pub desk_refused : line 0 (DeskRefused 12) [] ≡ codes "desk refused 12\n"
unfolding digits decimal answer line
desk_refused = refl

pub refused_at_0 : line 3 (RefusedAt 8 (record { 0 = 0 })) [] ≡ codes "3 refused 8 at 0\n"
unfolding digits decimal answer line
refused_at_0 = refl

pub last_place : line (2 ^ 64 - 1) (Booked 16383 (record { 0 = last_minute })) (63 ∷ []) ≡ codes "18446744073709551615 booked 16383 start 1000000000 links 63\n"
unfolding digits decimal numbers route answer line
last_place = refl
