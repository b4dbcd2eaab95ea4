-- What is known from the tries of one call, beside what is asked.
use Rattle.std.specs.Prelude.{◌≡◌, Bool, true, Option, Some, None, ℕ}
use Rattle.units.specs.Sets.{has}
use Rattle.free_table.specs.Masks.{Kept}
use Rattle.path_search.specs.declared.LinkSet.{LinkSet}
use Rattle.path_search.specs.Answer.{graph, Cuts}
use Rattle.choice.specs.declared.search.Search.{Search}
use Rattle.choice.specs.declared.known.Known.{Known}
use Rattle.choice.specs.declared.asked.Asked.{Asked}
use Rattle.choice.specs.Choice.{possible}

-- whether there is a path over the links of a set
abbrev pub leads_over : Search → ℕ → Bool
leads_over s set = possible (graph s.ends) (λ m. has set) s.source s.destination 0

-- without a link of the cut there is no path; over the links that are held there is one
abbrev pub CutKnown : Search → Option LinkSet → Type 0
CutKnown s (Some cut) = Cuts (graph s.ends) s.source s.destination cut.bits
CutKnown s None = Unit {0}

abbrev pub HeldKnown : Search → Option LinkSet → Type 0
HeldKnown s (Some held) = leads_over s held.bits ≡ true
HeldKnown s None = Unit {0}

pub record KnownOf (a : Asked) (known : Known) : Type 0 where
  pub kept : Kept known.masks a.table.figures.now a.search.now.bandwidth.0
  pub cut : CutKnown a.search.now known.cut
  pub held : HeldKnown a.search.now known.held
