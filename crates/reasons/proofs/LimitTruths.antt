-- What is said of refusal 15 is true of the call. Assumes nothing.
use Prim.Native.Nat.{ℕ, ◌<◌}
use mathlib.Core.Path.{◌≡◌, refl}
use mathlib.Core.Bool.{Bool, true, false}
use mathlib.Core.Logic.{inl, inr}
use native.Mathlib.Decide.{dec_le}
use native.Mathlib.Omega.{arith}
use lib.Dec.{ltb}
use borrow.Author.Tests.{ltb-true, ltb-false}
use Rattle.records.specs.Refusals.{Accepts}
use Rattle.limits.specs.declared.Limits.{Limits}
use Rattle.limits.specs.Boxes.{limit_tests}
use Rattle.limits.proofs.Limiting.{within-accepts}
use Rattle.reasons.specs.Reasons.{past_reason}
use Rattle.reasons.specs.Claims.{TrueOfLimits}

-- Of n jobs and a range up to `high`, wherever the limits do not let them by.
pub limits-true : (limits : Limits) (n high : ℕ) → (Accepts (limit_tests limits n high) → ⊥) → TrueOfLimits limits n high (past_reason limits n high)
unfolding past_reason
limits-true limits n high bad = by (ltb limits.jobs n) refl
  where
    by : (a : Bool) → ltb limits.jobs n ≡ a → TrueOfLimits limits n high (past_reason limits n high)
    by true e = rw e (inl (refl, ltb-true limits.jobs n e))
    by false e = rw e (inr (refl, long))
      where
        long : limits.quantum < high
        long = elim (dec_le high limits.quantum) [
          | yes l ↦ absurd (bad (within-accepts limits n high (record { jobs = ltb-false limits.jobs n e; quantum = l })))
          | no l ↦ omega arith
        ]
