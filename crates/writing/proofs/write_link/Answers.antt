-- `write_link` meets its contract: a refusal leaves the piece, and a link that is not refused is written as its number.
use mathlib.Core.Path.{◌≡◌, sym, ◌∙◌, ap}
use lib.ListN.{length}
use Rattle.layout.specs.Layout.{spelled}
use Rattle.layout.specs.Forms.{link_refusal}
use Rattle.layout.proofs.Library.{bytes_are}
use Rattle.layout.proofs.Written.{none_found, some_found, writable_link, link_left, link_made}
use Rattle.writing.proofs.write_link.Goals as goal
use Rattle.writing.proofs.write_link.Goals.{In_ok-check_link}

-- no refusal
accepted : (c : In_ok-check_link) → link_refusal (length c.args.bytes.now) c.args.link ≡ 0
accepted c = none_found c.check_link.ensures c.in_ok-check_link.was

pub returns-in_err-check_link-clause-bytes_after : goal.returns-in_err-check_link-clause-bytes_after
returns-in_err-check_link-clause-bytes_after c = sym (link_left c.args.bytes.now c.args.link (some_found c.check_link.ensures c.in_err-check_link.was))

pub pack_link-requires : goal.pack_link-requires
pack_link-requires c = (writable_link _ _ (accepted (goal.at.pack_link-requires c).In_ok-check_link)).1

pub copy_from_slice-requires : goal.copy_from_slice-requires
copy_from_slice-requires c = (writable_link _ _ (accepted (goal.at.copy_from_slice-requires c).In_ok-check_link)).0 ∙ ap length (sym c.to_be_bytes.ensures)

pub returns-clause-bytes_after : goal.returns-clause-bytes_after
returns-clause-bytes_after c =
    c.copy_from_slice.ensures.after
    ∙ c.to_be_bytes.ensures
    ∙ bytes_are 8 c.pack_link.result
    ∙ ap (spelled 8) c.pack_link.ensures
    ∙ sym (link_made c.args.bytes.now c.args.link (accepted (goal.at.returns-clause-bytes_after c).In_ok-check_link))
