-- An answer of the chooser taken apart: a start is the choice's grant, and a refusal says that there is none.
use mathlib.Core.Path.{◌≡◌, refl}
use Prim.Native.Nat.{ℕ}
use native.Mathlib.Omega.{arith}
use Rattle.std.proofs.Common.{Ok, Err}
use Rattle.units.specs.declared.Refused.{Refused}
use Rattle.path_search.specs.Answer.{path_of}
use Rattle.choice.specs.declared.Granted.{Granted}
use Rattle.choice.specs.Choice.{Grant, Choice, granted, no_start}
use Rattle.choice.specs.Answer.{given_start, chosen}

pub record Started (c : Choice Grant) (given : Granted) : Type 0 where
  pub grant : Grant
  pub is_granted : c ≡ granted grant
  pub given_is : given ≡ given_start grant.start (path_of grant.path)

pub started : (m : ℕ) (c : Choice Grant) (given : Granted) → Ok given ≡ chosen m c → Started c given
started m (granted g) given e = record { grant = g; is_granted = refl; given_is = cc }
started m no_start given e = let z : ◌≡◌ {A = ℕ} 0 1 = cc in absurd (omega arith)

pub none_started : (m : ℕ) (c : Choice Grant) (k : Refused) → Err k ≡ chosen m c → c ≡ no_start
none_started m (granted g) k e = let z : ◌≡◌ {A = ℕ} 0 1 = cc in absurd (omega arith)
none_started m no_start k e = refl
