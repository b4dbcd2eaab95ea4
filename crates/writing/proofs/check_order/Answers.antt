-- `check_order` meets its contract: what the reader refuses it refuses with the same number.
use mathlib.Core.Path.{◌≡◌, sym, ◌∙◌}
use Rattle.std.proofs.lemmas.Result.{err_from_is_err_and}
use native.Mathlib.Omega.{arith}
use Rattle.layout.specs.Forms.{order_refusal}
use Rattle.layout.proofs.Reading.{wrong_bits}
use Rattle.writing.proofs.check_order.Goals as goal

pub returns-in_err-try_from : goal.returns-in_err-try_from
unfolding order_refusal
returns-in_err-try_from c =
    let p = err_from_is_err_and c.from_residual.result c.from_residual.ensures.1 in
    let e = rw c.from.ensures at (sym c.try_from.ensures ∙ c.in_err-try_from.was) in
    let sized : c.args.count ≡ 16 = omega arith in
    rw (p.1, p.2, wrong_bits _ _ e, sized, e)
