-- What a setting is beside the others of its configuration, in plain terms. A configuration itself is defined by the reader's tests;
-- these are the terms in which the laws take it apart and put it together. Assumes nothing.
use Rattle.std.specs.Prelude.{ℕ, ◌≤◌, ◌<◌, ◌≡◌, ◌≢◌, List, length}
use Rattle.records.specs.Jobs.{job_at}
use Rattle.records.specs.declared.job.Job.{Job}
use Rattle.configuration.specs.declared.setting.Setting.{Setting}
use Rattle.configuration.specs.Settings.{not_placed, fifo, round_robin, setting_at, level_at}

-- The setting at place k of n: not placed; sched_fifo, alone on its level; sched_rr, with another job on its level.
pub data Shape (n low high : ℕ) (settings : List Setting) (k : ℕ) : Type 0 where
  unplaced : (setting_at settings k).policy ≡ not_placed → level_at settings k ≡ 0 → (setting_at settings k).quantum ≡ 0 → Shape n low high settings k
  alone : (setting_at settings k).policy ≡ fifo → 1 ≤ level_at settings k → level_at settings k ≤ n → (setting_at settings k).quantum ≡ 0
      → ((i : ℕ) → i < n → level_at settings i ≡ level_at settings k → i ≡ k) → Shape n low high settings k
  shared : (setting_at settings k).policy ≡ round_robin → 1 ≤ level_at settings k → level_at settings k ≤ n
      → low ≤ (setting_at settings k).quantum → (setting_at settings k).quantum ≤ high
      → (i : ℕ) → i < n → level_at settings i ≡ level_at settings k → i ≢ k → Shape n low high settings k

-- One setting per job in job order, each with one of the three shapes.
pub record Shapes (jobs : List Job) (low high : ℕ) (settings : List Setting) : Type 0 where
  pub size : length settings ≡ length jobs
  pub ids : (k : ℕ) → k < length jobs → (setting_at settings k).id ≡ (job_at jobs k).id
  pub shape : (k : ℕ) → k < length jobs → Shape (length jobs) low high settings k
