-- What sound tables are, that every accepted call leaves them, and that no link is ever oversold.
use mathlib.Core.Path.{◌≡◌, refl, sym, ap, ◌∙◌, subst}
use mathlib.Core.List.{List}
use mathlib.Core.Bool.{true}
use Prim.Native.Nat.{ℕ, ◌≤◌, ◌<◌}
use native.Mathlib.Decide.{ℕ_discrete}
use lib.ListN.{length}
use Rattle.units.specs.declared.Link.{Link}
use Rattle.units.specs.Limits.{most_links, most_guard}
use Rattle.units.specs.Lists.{Within}
use Rattle.units.proofs.Tests.{at_most}
use Rattle.rules.specs.Plain.{Plain, empty, taken, capacity}
use Rattle.rules.specs.Calls.{Call, set_up, set_up_with, ask, refuse, values, first_refusal, next}
use Rattle.histories.specs.Kinds as kinds
use Rattle.rules.specs.Tables.{Tables, tables, held, sound, table_checks, Fine}
use Rattle.rules.specs.Desk.{answer_with, outcome}
use Rattle.rules.specs.Sound.{Obeys, SoundMeans}
use Rattle.rules.proofs.Checks.{Passed, passed_all}
use Rattle.rules.proofs.Tests.{links_tell, sized_tells}
use Rattle.rules.proofs.Obeys.{sound_obeys, sound_tables, tables_sound, tables_sized}
use Rattle.rules.proofs.Exits as exits
use Rattle.rules.proofs.Step.{set_up_accepted, set_up_passed, set_up_leaves, obeys_empty, leaves_plain, stays_obeyed}

-- tables are sound exactly if they are those of a plain book that obeys document 01's rules
pub sound_means : SoundMeans
sound_means links t = (
  (λ e. (held t, sound_obeys links t e, sound_tables links t e)),
  λ h. ap (sound links) h.2 ∙ tables_sound links h.0 h.1,
)

-- no link is oversold in any minute of the past or the future
pub never_oversold : (links : List Link) (t : Tables) → sound links t ≡ true → (l m : ℕ) → l < length links → taken (held t) l m ≤ capacity links l
never_oversold links t e = (sound_obeys links t e).not_oversold

module _ (links : List Link) where
  fine : (p : Plain) → Obeys links p → Within 1 most_links (length links) → Fine links (tables links p)
  fine p o count = record { is_sized = tables_sized links p o count; is_sound = tables_sound links p o }

  -- a call on sound tables leaves sound tables, accepted or not
  pub stays_sound : (t : Tables) (c : Call) → Fine links t → Fine links (outcome links t c).tables
  stays_sound t c f =
      let p : Plain = held t in
      let o : Obeys links p = sound_obeys links t f.is_sound in
      let count = ((sized_tells links t).0 f.is_sized).links_right in
      subst (Fine links) (sym (ap (λ x. (outcome links x c).tables) (sound_tables links t f.is_sound) ∙ leaves_plain links p o count c)) (fine (next p c (answer_with links p c)) (stays_obeyed links p o c) count)

  passed_sound : (t : Tables) (c : Call) → Passed (table_checks links t c) → Fine links (outcome links t c).tables
  passed_sound t (set_up_with guard) ok =
      let short = (at_most guard most_guard).0 ok.1.0 in
      let right = (links_tell links).0 ok.1.1.0 in
      let accepted = set_up_accepted links t guard short ok.0 right in
      subst (Fine links) (sym (set_up_leaves links t guard accepted)) (fine (empty guard) (obeys_empty links guard short right) (set_up_passed links t guard accepted).0)
  passed_sound t (ask a) ok = stays_sound t (ask a) (record { is_sized = ok.0; is_sound = ok.1.1.0 })

  -- every accepted call leaves sound tables, whatever it was lent
  pub accepted_sound : (t : Tables) (c : Call) → ((k : ℕ) → (outcome links t c).answer ≡ refuse k → ⊥) → Fine links (outcome links t c).tables
  unfolding kinds.outcome kinds.answer_on
  accepted_sound t c accepted = passed_sound t c (passed_all refuse (table_checks links t c) (answer_with links (held t) c) accepted)

  -- a set-up that is answered 0 leaves sound tables
  pub set_up_sound : (t : Tables) (guard : ℕ) → (values (outcome links t (set_up guard)).answer).number ≡ 0 → Fine links (outcome links t (set_up guard)).tables
  set_up_sound t guard e = passed_sound t (set_up guard) (exits.set_up_passed links t guard none)
    where
      none : first_refusal (table_checks links t (set_up guard)) ≡ 0
      none =
          elim (ℕ_discrete (first_refusal (table_checks links t (set_up guard))) 0)
          [ yes q ↦ q | no d ↦ sym (ap (λ o. (values o.answer).number) (exits.set_up_stopped links t guard _ refl d)) ∙ e ]
