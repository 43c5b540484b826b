-- The tests of one record, by its policy. Assumes nothing.
use Prim.Native.Nat.{ℕ, ◌≤◌}
use mathlib.Core.Path.{◌≡◌}
use mathlib.Core.Bool.{true, false, ◌&&◌, and-false, or-false, and-true, and-eq-true_iff}
use mathlib.Core.Logic.{◌≢◌}
use native.Mathlib.Omega.{arith}
use lib.Dec.{leb, eqb}
use borrow.Author.Tests.{eq-eqb, ne_eqb, leb-true, le-leb}
use Rattle.configuration.specs.declared.setting.Setting.{Setting}
use Rattle.configuration.specs.Settings.{not_placed, fifo, round_robin}
use Rattle.configuration.specs.Configuration.{placed_level, scheduled, shaped, may_share}

pub level-of : (n level : ℕ) → placed_level n level ≡ true → (1 ≤ level) × (level ≤ n)
unfolding placed_level
level-of n level e = let w = (and-eq-true_iff (leb 1 level) (leb level n)).0 e in (leb-true _ _ w.0, leb-true _ _ w.1)

pub of-level : (n level : ℕ) → 1 ≤ level → level ≤ n → placed_level n level ≡ true
unfolding placed_level
of-level n level a b = simp (le-leb _ _ a, le-leb _ _ b)

-- ---- refusal 9

module _ (low high policy quantum : ℕ) where
  pub scheduled-fifo : policy ≡ fifo → scheduled low high policy quantum ≡ eqb quantum 0
  unfolding scheduled
  scheduled-fifo p = simp (eq-eqb _ fifo p, ne_eqb policy round_robin (λ z. omega arith), or-false)

  pub scheduled-robin : policy ≡ round_robin → scheduled low high policy quantum ≡ (leb low quantum && leb quantum high)
  unfolding scheduled
  scheduled-robin p = simp (ne_eqb policy fifo (λ z. omega arith), eq-eqb _ round_robin p)

  pub scheduled-other : policy ≢ fifo → policy ≢ round_robin → scheduled low high policy quantum ≡ false
  unfolding scheduled
  scheduled-other p q = simp (ne_eqb _ fifo p, ne_eqb _ round_robin q)

module _ (n low high : ℕ) (setting : Setting) where
  pub shaped-unplaced : setting.policy ≡ not_placed → shaped n low high setting ≡ (eqb setting.level 0 && eqb setting.quantum 0)
  unfolding shaped
  shaped-unplaced p =
      simp (eq-eqb _ not_placed p, scheduled-other low high setting.policy setting.quantum (λ z. omega arith) (λ z. omega arith), and-false, or-false)

  pub shaped-off : setting.policy ≢ not_placed → placed_level n setting.level ≡ false → shaped n low high setting ≡ false
  unfolding shaped
  shaped-off p l = simp (ne_eqb _ not_placed p, l)

  pub shaped_on : setting.policy ≢ not_placed → placed_level n setting.level ≡ true → shaped n low high setting ≡ scheduled low high setting.policy setting.quantum
  unfolding shaped
  shaped_on p l = simp (ne_eqb _ not_placed p, l)

-- ---- refusal 10

module _ (policy jobs : ℕ) where
  pub share-fifo : policy ≡ fifo → may_share policy jobs ≡ eqb jobs 1
  unfolding may_share
  share-fifo p = simp (eq-eqb _ fifo p, ne_eqb policy round_robin (λ z. omega arith), and-true)

  pub share-robin : policy ≡ round_robin → may_share policy jobs ≡ leb 2 jobs
  unfolding may_share
  share-robin p = simp (ne_eqb policy fifo (λ z. omega arith), eq-eqb _ round_robin p)

  pub share_other : policy ≢ fifo → policy ≢ round_robin → may_share policy jobs ≡ true
  unfolding may_share
  share_other p q = simp (ne_eqb _ fifo p, ne_eqb _ round_robin q)
