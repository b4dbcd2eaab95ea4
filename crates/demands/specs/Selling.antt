-- Document 02's Job 7, 'sold work per link, kept ready', as a property of any desk. No search and no row occurs here.
use Rattle.std.specs.Prelude.{◌≡◌, List, [], ℕ, ◌≤◌, ◌<◌, length, get_or, replicate}
use Rattle.units.specs.declared.Link.{Link}
use Rattle.units.specs.Limits.{most_totals}
use Rattle.histories.specs.Demands as demands
use Rattle.rules.specs.Plain.{Plain, sold_work}
use Rattle.rules.specs.Calls.{sold, ask, shows}
use Rattle.rules.specs.Tables.{Tables}
use Rattle.rules.specs.Desk.{bandwidth_desk}
use Rattle.demands.specs.Demands.{Desk}

module _ (desk : Desk) where
  -- a moment of a history, with its tables and the plain book
  abbrev pub Moment : List Link → Type 0
  Moment = demands.Moment bandwidth_desk desk

  module _ {links : List Link} (h : Moment links) where
    abbrev pub now : Tables
    now = demands.now bandwidth_desk desk h

    abbrev pub plain : Plain
    plain = demands.plain bandwidth_desk desk h

  -- 'That figure, which equals the sum over the whole book after any calls, clock moves included': at every moment of a history a link's total,
  -- as kept and as answered, is the sum over the plain book. There are 64; 'unused places are zero', 'set-up leaves it empty'.
  pub record SellsAsBooked : Type 0 where
    pub kept : (links : List Link) (h : Moment links) (l : ℕ) → l < length links → get_or (now h).totals l 0 ≡ sold_work (plain h) l
    pub answered : (links : List Link) (h : Moment links) (l : ℕ) → l < length links → (desk links (now h) (ask (sold l))).answer ≡ shows (sold_work (plain h) l)
    pub sized : (links : List Link) (h : Moment links) → length (now h).totals ≡ most_totals
    pub unused : (links : List Link) (h : Moment links) (l : ℕ) → length links ≤ l → get_or (now h).totals l 0 ≡ 0
    pub set_up_empties : (links : List Link) (h : Moment links) → h.calls ≡ [] → (now h).totals ≡ replicate most_totals 0
