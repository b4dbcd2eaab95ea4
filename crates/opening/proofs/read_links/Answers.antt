-- `read_links` meets its contract: the places below i are read and filled.
use Rattle.std.proofs.Common.{◌≡◌, refl, sym, ◌∙◌, rules, length}
use Rattle.units.specs.Refusals.{number, number_of}
use Rattle.opening.specs.Opened.{link_record}
use Rattle.opening.proofs.Records.{filled_none, filled_more, stopped, all_read, all_in, record_of}
use Rattle.opening.proofs.read_links.Goals as goal
use Rattle.opening.proofs.read_links.Goals.{After-read_link}

-- what the record is read as
is : (c : After-read_link) → link_record c.args.bytes.now c.loop-i.i ≡ c.read_link.result
is c = sym (c.read_link.ensures ∙ record_of c.args.bytes.now (length c.args.links.now) c.loop-i.i _ (search rules) c.requires c.as_chunks.ensures.front)

pub loop-i-init : goal.loop-i-init
loop-i-init c = filled_none c.args.bytes.now _ c.args.links.now refl

pub returns-in_err-links-clause-refusal : goal.returns-in_err-links-clause-refusal
returns-in_err-links-clause-refusal c =
    let l = c.loop-i in
    let e = is (goal.at.returns-in_err-links-clause-refusal c).After-read_link ∙ c.in_err-links.was in
    let same : number_of c.from_residual.result ≡ number c.in_err-links.field-0.0 = search rules in
    same ∙ stopped c.args.bytes.now _ l.links l.i l.invariant (search rules) e

pub loop-i-preserved : goal.loop-i-preserved
loop-i-preserved c =
    let l = c.loop-i in
    filled_more c.args.bytes.now _ l.links l.i l.invariant (search rules) (is (goal.at.loop-i-preserved c).After-read_link ∙ c.in_ok-links.was)

pub returns : goal.returns
returns c =
    let l = c.loop-i in
    record { refusal = all_read c.args.bytes.now _ l.links l.i l.invariant (search rules); links = all_in c.args.bytes.now _ l.links l.i l.invariant (search rules) }
