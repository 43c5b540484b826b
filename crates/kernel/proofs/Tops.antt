-- Refusals 13 and 14: the test of a priority by the record's policy, and what the priorities that are let by have. Assumes nothing.
use Prim.Native.Nat.{ℕ, ◌+◌, ◌-◌, ◌≤◌, ◌<◌}
use mathlib.Core.Path.{◌≡◌}
use mathlib.Core.Bool.{true, and-eq-true_iff}
use mathlib.Core.Logic.{◌≢◌}
use native.Mathlib.Omega.{arith}
use lib.Dec.{leb, ltb}
use borrow.Author.Tests.{eq-eqb, ne_eqb, leb-true, ltb-true, le-leb, lt-ltb}
use Rattle.records.specs.Refusals.{Accepts}
use Rattle.configuration.specs.Settings.{not_placed}
use Rattle.kernel.specs.declared.priority.KernelPriority.{KernelPriority}
use Rattle.kernel.specs.declared.record.KernelRecord.{KernelRecord}
use Rattle.kernel.specs.Priorities.{spanned, priority_tests}
use Rattle.kernel.specs.KernelConfiguration.{is_top, on_top}

-- n priorities that refusal 13 lets by end at or above 0.
pub priorities-fit : (n : ℕ) (lowest highest : KernelPriority) → Accepts (priority_tests n lowest highest) → n ≤ highest.0 + 1
priorities-fit n lowest highest ok = omega (arith, leb-true n (spanned lowest highest) ok.1.0)

module _ (n : ℕ) (highest : KernelPriority) (kernel : KernelRecord) where
  pub top-unplaced : kernel.policy ≡ not_placed → on_top n highest kernel ≡ true
  unfolding on_top
  top-unplaced p = simp (eq-eqb _ not_placed p)

  pub top_placed : kernel.policy ≢ not_placed → on_top n highest kernel ≡ is_top n highest kernel.priority
  unfolding on_top
  top_placed p = simp (ne_eqb _ not_placed p)

-- Among the top n values.
module _ (n : ℕ) (highest priority : KernelPriority) where
  pub top_of : is_top n highest priority ≡ true → (priority.0 ≤ highest.0) × (highest.0 < priority.0 + n)
  top_of e =
      let w = (and-eq-true_iff (leb priority.0 highest.0) (ltb (highest.0 - priority.0) n)).0 e in
      let below = ltb-true (highest.0 - priority.0) n w.1 in
      (leb-true priority.0 highest.0 w.0, omega (arith, below))

  pub of-top : priority.0 ≤ highest.0 → highest.0 < priority.0 + n → is_top n highest priority ≡ true
  of-top a b = simp (le-leb _ _ a, lt-ltb (highest.0 - priority.0) n (omega (arith, a, b)))
