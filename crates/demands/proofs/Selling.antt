-- The desk sells as booked: its totals are those of the plain book, and it answers with them.
use mathlib.Core.Path.{◌≡◌, refl, sym, ap, ◌∙◌}
use mathlib.Core.List.{List, []}
use Prim.Native.Nat.{ℕ, ◌≤◌, ◌<◌}
use native.Mathlib.Decide.{dec_lt}
use native.Mathlib.Omega.{arith}
use lib.ListN.{length, get_or, replicate, length-replicate, get_or-replicate}
use lib.Seq.{ext_get_or}
use Rattle.units.specs.declared.Link.{Link}
use Rattle.units.specs.Limits.{most_links, most_totals}
use Rattle.units.specs.Lists.{Within, sum}
use Rattle.units.proofs.Tests.{less_than}
use Rattle.histories.specs.Kinds as kinds
use Rattle.histories.specs.Histories.{counted}
use Rattle.histories.specs.Demands as demands
use Rattle.histories.proofs.Demand3.{followed}
use Rattle.rules.specs.Plain.{empty, sold_work}
use Rattle.rules.specs.Calls.{sold, ask, shows, refuse, own_checks}
use Rattle.rules.specs.Tables.{tables, totals_table}
use Rattle.rules.specs.Desk.{bandwidth_desk, answer, outcome}
use Rattle.rules.proofs.Checks.{passed_answer}
use Rattle.rules.proofs.Totals.{total_of, unused_total, length_totals, sold_most}
use Rattle.rules.proofs.Step.{set_up_passed}
use Rattle.demands.specs.Demands.{Desk, Demand3}
use Rattle.demands.specs.Selling.{Moment, now, plain, SellsAsBooked}
use Rattle.demands.proofs.Lawful.{lawful, obeyed}
use Rattle.demands.proofs.Demand3.{demand3}

-- ---- any desk with demand 3

module _ (desk : Desk) (d : Demand3 desk) {links : List Link} (h : Moment desk links) where
  totals_are : (now desk h).totals ≡ totals_table links (plain desk h)
  unfolding tables
  totals_are = ap (λ t. t.totals) (d.counts links h).tables_are

  pub kept : (l : ℕ) → l < length links → get_or (now desk h).totals l 0 ≡ sold_work (plain desk h) l
  kept l b = ap (λ (t : List ℕ). get_or t l 0) totals_are ∙ total_of links (plain desk h) l b

  total_answer : (l : ℕ) → l < length links → answer links (plain desk h) (sold l) ≡ shows (sold_work (plain desk h) l)
  unfolding kinds.answer
  total_answer l b = passed_answer refuse (own_checks links (plain desk h) (sold l)) (shows (sold_work (plain desk h) l)) ((less_than l (length links)).1 b, tt)

  pub answered : (l : ℕ) → l < length links → (desk links (now desk h) (ask (sold l))).answer ≡ shows (sold_work (plain desk h) l)
  answered l b = (d.counts links h).as_answered (sold l) ∙ total_answer l b

-- ---- ours

module _ {links : List Link} (h : Moment outcome links) where
  count_right : Within 1 most_links (length links)
  count_right = (set_up_passed links h.before h.start h.accepted).0

  sized : length (now outcome h).totals ≡ most_totals
  sized = ap length (totals_are outcome demand3 h) ∙ length_totals links (plain outcome h) count_right.1

  unused : (l : ℕ) → length links ≤ l → get_or (now outcome h).totals l 0 ≡ 0
  unused l b = ap (λ (t : List ℕ). get_or t l 0) (totals_are outcome demand3 h) ∙ unused_total links (plain outcome h) l b

  empty_at_first : h.calls ≡ [] → plain outcome h ≡ empty h.start
  unfolding demands.plain counted
  empty_at_first e = rw e refl

  sold_at_first : h.calls ≡ [] → (l : ℕ) → sold_work (plain outcome h) l ≡ 0
  unfolding sum
  sold_at_first e l = ap (λ p. sold_work p l) (empty_at_first e)

  zeros_at_first : h.calls ≡ [] → (now outcome h).totals ≡ replicate most_totals 0
  zeros_at_first e =
      ext_get_or 0 (now outcome h).totals (replicate most_totals 0) (sized ∙ sym (length-replicate {A = ℕ} most_totals 0))
      (λ l inside. zero l ∙ sym (get_or-replicate most_totals l 0 0 (omega (arith, sized))))
    where
      zero : (l : ℕ) → get_or (now outcome h).totals l 0 ≡ 0
      zero l = elim (dec_lt l (length links)) [ yes b ↦ kept outcome demand3 h l b ∙ sold_at_first e l | no b ↦ unused l (omega arith) ]

pub sells_as_booked : SellsAsBooked outcome
sells_as_booked = record {
  kept = λ links h. kept outcome demand3 h;
  answered = λ links h. answered outcome demand3 h;
  sized = λ links h. sized h;
  unused = λ links h. unused h;
  set_up_empties = λ links h. zeros_at_first h;
}

-- 64 bits are enough, whatever was booked
pub sold_at_most : {links : List Link} (h : Moment outcome links) (l : ℕ) → sold_work (plain outcome h) l ≤ 33638400000000
sold_at_most {links} h l = sold_most links (plain outcome h) (obeyed links (plain outcome h) (followed bandwidth_desk lawful links h).1) l
