-- Minutes in their derived order: that of their numbers.
use mathlib.Core.Path.{◌≡◌, refl, sym, ◌∙◌, ap}
use mathlib.Core.Bool.{Bool, true, false, false≢true}
use Prim.Native.Nat.{ℕ, ◌≤◌, ◌<◌}
use Rattle.std.specs.Ordering.{is_lt, nat_cmp}
use Rattle.std.proofs.lemmas.Cmp.{ranked, by_ranked}
use Rattle.std.proofs.lemmas.Map.Keys.{ge_from_not_lt}

-- what `<` answers of two minutes
module _ {a b : ℕ} {less : Bool} (answered : less ≡ is_lt (nat_cmp a b)) where
  pub earlier : less ≡ true → a < b
  earlier h =
      by_ranked (a < b) (a ≡ b) (b < a) (nat_cmp a b) (ranked a b _ refl) (λ _ l. l)
      (λ e _. absurd (false≢true (sym (ap is_lt e) ∙ sym answered ∙ h))) (λ e _. absurd (false≢true (sym (ap is_lt e) ∙ sym answered ∙ h)))

  pub not_earlier : less ≡ false → b ≤ a
  not_earlier h = ge_from_not_lt a b (sym answered ∙ h)
