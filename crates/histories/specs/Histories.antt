-- Lists of calls on any desk whatever, each call on the tables as the last one left them.
use Rattle.std.specs.Prelude.{List, [], ◌∷◌}
use Rattle.histories.specs.Kinds.{Outcome}

module _ {Link Tables Call Answer : Type 0} (desk : List Link → Tables → Call → Outcome Answer Tables) where
  -- what a list of calls answers, and the tables that it leaves
  unfoldable pub answers : List Link → Tables → List Call → List Answer
  answers links t [] = []
  answers links t (c ∷ cs) = (desk links t c).answer ∷ answers links (desk links t c).tables cs

  unfoldable pub left : List Link → Tables → List Call → Tables
  left links t [] = t
  left links t (c ∷ cs) = left links (desk links t c).tables cs

  -- the plain book after the list, fed each call as asked and answered, and nothing from the tables
  module _ {Plain : Type 0} (next : List Link → Plain → Call → Answer → Plain) where
    unfoldable pub counted : List Link → Tables → Plain → List Call → Plain
    counted links t p [] = p
    counted links t p (c ∷ cs) = counted links (desk links t c).tables (next links p c (desk links t c).answer) cs
