-- The bandwidth desk is lawful: what `histories` asks of a kind, of this one.
use mathlib.Core.Path.{◌≡◌, refl, sym, ap₂, ◌∙◌}
use mathlib.Core.HLevel.{hedberg}
use mathlib.Core.Logic.{inl, inr, ∥∥₁_elim}
use mathlib.Core.List.{List, Permᴰ}
use mathlib.Core.Bool.{Bool, true, false, true≢false}
use Prim.Native.Nat.{ℕ, ◌≤◌, ◌<◌}
use native.Mathlib.Omega.{arith}
use lib.ListN.{length}
use Rattle.units.specs.declared.Link.{Link}
use Rattle.units.specs.declared.Request.{Request}
use Rattle.units.specs.Limits.{most_links, most_events, last_shown}
use Rattle.units.specs.Lists.{Within}
use Rattle.units.proofs.Tests.{◌&◌, less_than, in_range}
use Rattle.free_table.specs.Figures.{kept}
use Rattle.free_table.proofs.Figures.{kept_figure}
use Rattle.choice.specs.Choice.{Grant, Choice, granted, no_start, choose}
use Rattle.histories.specs.Kinds as kinds
use Rattle.histories.specs.Lawful.{Lawful}
use Rattle.rules.specs.Plain.{Plain, sold_work, graph, carries, low, free}
use Rattle.rules.specs.Calls.{Ask, book, offer, list, cancel, move_clock, show, sold, shows, refuse, own_checks, breaks_off, chosen, best, every, result, StartOr8, InForm}
use Rattle.rules.specs.Tables.{Tables, tables, same}
use Rattle.rules.specs.Sound.{Obeys}
use Rattle.rules.specs.Desk.{bandwidth_desk, Agree, answer}
use Rattle.rules.proofs.Uses.{all_times, free_changes}
use Rattle.rules.proofs.Checks.{done≢refused, passed_answer}
use Rattle.rules.proofs.Tests.{same_tells}
use Rattle.rules.proofs.Obeys.{tables_permuted, tables_sound}
use Rattle.rules.proofs.Step.{set_up_passed, set_up_leaves, obeys_empty, answers_plain, leaves_plain, stays_obeyed}

chosen_fits : (m : ℕ) (c : Choice Grant) → StartOr8 (chosen m c)
chosen_fits m (granted g) = inl (g, refl)
chosen_fits m no_start = inr (m, refl)

-- the choice of a start is a start or 8
best_fits : (links : List Link) (p : Plain) (r : Request) → StartOr8 (best links p r)
unfolding best
best_fits links p r = chosen_fits (breaks_off links p r) (choose (graph links) (carries links p r) r.from r.to (low p r) r.latest.0)

in_form : (links : List Link) (p : Plain) (a : Ask) → InForm a (result links p a)
in_form links p (book n r) = best_fits links p r
in_form links p (offer r) = best_fits links p r
in_form links p (list n r) = (every links p r, refl)
in_form links p (cancel n) = refl
in_form links p (move_clock m) = refl
in_form links p (show l m) = (free links p l m, refl)
in_form links p (sold l) = (sold_work p l, refl)

-- tables are a set: `same` decides whether they are equal
tables_set : IsSet Tables
tables_set = hedberg decide
  where
    decide : (s t : Tables) → Dec (s ≡ t)
    decide s t = by (same s t) refl
      where
        by : (x : Bool) → same s t ≡ x → Dec (s ≡ t)
        by true e = yes ((same_tells s t).0 e)
        by false e = no (λ q. true≢false (sym ((same_tells s t).1 q) ∙ e))

-- plain books that agree have the same tables
same_tables : (links : List Link) (p q : Plain) → Obeys links p → Agree p q → tables links p ≡ tables links q
same_tables links p q o a = ∥∥₁_elim a.2 (tables_set (tables links p) (tables links q)) from_order
  where
    from_order : Permᴰ p.bookings q.bookings → tables links p ≡ tables links q
    from_order s = tables_permuted links p s o.numbers_differ ∙ ap₂ (λ c g. tables links (record { clock = c; guard = g; bookings = q.bookings })) a.0 a.1

-- the figure that the tables of a plain book keep is what is free
kept_free : (links : List Link) (p : Plain) → length links ≤ most_links → (l m : ℕ) → l < length links → p.clock ≤ m → kept (tables links p).events (tables links p).free l m ≡ free links p l m
unfolding tables
kept_free links p small l m h k = kept_figure (length links) (free links p) small most_events p.clock (all_times p) l m (free_changes links p l) h k

shown : (links : List Link) (p : Plain) (l m : ℕ) → l < length links → p.clock ≤ m → m ≤ last_shown → answer links p (show l m) ≡ shows (free links p l m)
unfolding kinds.answer
shown links p l m b k s = passed_answer refuse (own_checks links p (show l m)) (shows (free links p l m)) ((less_than l (length links) & in_range p.clock last_shown m).1 (b, (k, s)), tt)

pub lawful : Lawful bandwidth_desk
lawful = record {
  done_differs = λ k e. done≢refused e;
  in_form = in_form;
  Started = λ links. Within 1 most_links (length links);
  Obeys = Obeys;
  set_up_starts = λ links t s e. let h = set_up_passed links t s e in (h.0, obeys_empty links s h.1 h.2, set_up_leaves links t s e);
  answers_plain = λ links p c count o. answers_plain links p o count c;
  leaves_plain = λ links p c count o. leaves_plain links p o count c;
  stays_obeyed = λ links p c count o. stays_obeyed links p o c;
  are_sound = λ links p count o. tables_sound links p o;
  not_oversold = λ links p o. o.not_oversold;
  kept_free = λ links p count o l m b k. (free links p l m, kept_free links p count.1 l m b k, omega (arith, o.not_oversold l m b));
  shown_free = λ links p count o l m b k s. (free links p l m, shown links p l m b k s, omega (arith, o.not_oversold l m b));
  same_tables = same_tables;
}

-- its rules for a plain book are document 01's
pub obeyed : (links : List Link) (p : Plain) → lawful.Obeys links p → Obeys links p
unfolding lawful
obeyed links p o = o
