-- `go_on_to` meets its contract: the masks of the rows before the loop's are kept.
use Rattle.std.proofs.Common.{[], leb, get_or, refl, ap, ◌∙◌, arith}
use native.Mathlib.Decide.{ℕ_discrete}
use lib.Seq.{get_or-set_same, get_or-set_other}
use Rattle.units.specs.Sets.{has}
use Rattle.free_table.proofs.MaskRows.{row_figure}
use Rattle.free_table.proofs.masks.Masks.go_on_to.Goals as goal

pub loop-row-init : goal.loop-row-init
loop-row-init c = record { first = refl; past = refl; right = c.requires.kept.right }

pub loop-row-preserved : goal.loop-row-preserved
loop-row-preserved c =
    let a = c.args in
    let l = c.loop-row in
    record {
      first = l.invariant.first;
      past = l.invariant.past;
      right = λ row k b h i. elim (ℕ_discrete row l.row) [
        | yes e ↦ rw e
            (ap (λ m. has m k) (get_or-set_same l.self.rows l.row c.row_mask.result 0 (omega arith))
            ∙ c.row_mask.ensures k i
            ∙ ap (λ rows. leb a.bandwidth.0 (get_or (get_or rows l.row []) k 0)) c.as_chunks.ensures.front
            ∙ ap (leb a.bandwidth.0) (row_figure a.figures.now l.row k (omega arith) i))
        | no d ↦ ap (λ m. has m k) (get_or-set_other l.self.rows l.row row c.row_mask.result 0 d) ∙ l.invariant.right row k b (omega arith) i
      ];
    }

pub returns-clause-kept : goal.returns-clause-kept
returns-clause-kept c =
    let l = c.loop-row in
    record {
      inside = omega (arith, c.max-self.ensures, c.requires.inside, c.requires.kept.inside, l.invariant.past);
      right = λ row k b h i. l.invariant.right row k b (omega (arith, c.max-self.ensures, l.invariant.past)) i;
    }

pub returns-clause-first : goal.returns-clause-first
returns-clause-first c = c.loop-row.invariant.first
