-- The reports by number, for a program in another language.
use Rattle.std.specs.Prelude.{[], ◌∷◌, ℕ, get_or}
use Rattle.units.specs.declared.Minute.{Minute}
use Rattle.report.specs.declared.Report.{Report}
use Rattle.report.specs.declared.Report.TheVariants.{DeskLinks, DeskRefused, Booked, Offered, Cancelled, Clock, Refused, RefusedAt}

-- the report of a kind, which counts from 0, with its figure and its minute; a higher kind is a refused order with no minute beside it
unfoldable pub report_of : ℕ → ℕ → Minute → Report
report_of kind figure minute =
    get_or (DeskLinks figure ∷ DeskRefused figure ∷ Booked figure minute ∷ Offered minute ∷ Cancelled figure ∷ Clock minute ∷ Refused figure ∷ RefusedAt figure minute ∷ []) kind (Refused figure)
