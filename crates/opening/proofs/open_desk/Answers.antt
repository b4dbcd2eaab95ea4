-- `open_desk` meets its contract: where the set-up is answered 0, its tables are sound.
use Rattle.std.proofs.Common.{sym, subst, rules}
use Rattle.rules.specs.Tables.{Fine}
use Rattle.lent.specs.Lent.{tables_of}
use Rattle.demands.proofs.Sound.{set_up_sound}
unfoldable use Rattle.sound_calls.specs.Lent.{refusal_answer, tables_after}
use Rattle.opening.proofs.open_desk.Goals as goal

pub returns-clause-fine : goal.returns-clause-fine
unfolding refusal_answer tables_after
returns-clause-fine c =
    let links = c.in_ok-links.links.now in
    let e = c.in_ok-set_up.ensures in
    let f : Fine links (tables_of c.set_up.new.desk) = subst (Fine links) (sym e.tables) (set_up_sound links _ _ (sym e.answer)) in
    search (rules, f)
