-- What breakdown promises besides its outcome, of the records that a caller then holds: "The first four amounts less the fifth make the
-- bound exactly, and each is what the test defines" (02, E6). Assumes nothing.
use Rattle.std.specs.Prelude.{ℕ, ◌+◌, ◌*◌, ◌^◌, ◌≤◌, ◌<◌, ◌≡◌, List, length, get_or, take}
use Rattle.records.specs.Refusals.{Answer, given}
use Rattle.records.specs.Jobs.{job_at, job_list}
use Rattle.records.specs.declared.job.Job.{Job}
use Rattle.configuration.specs.declared.setting.Setting.{Setting}
use Rattle.configuration.specs.Settings.{fifo, setting_at}
use Rattle.configuration.specs.Blocks.{settings_of}
use Rattle.response.specs.declared.parts.Parts.{Parts}
use Rattle.response.specs.Breakdown.{no_parts}
use Rattle.marker.specs.Bounds.{bound_at}
use Rattle.marker.specs.Marks.{bound_size, marked, bounds_outcome}
use Rattle.parts.specs.Breakdowns.{breakdown_of}
use Rattle.breakdown.specs.Breakdowns.{parts_size, breakdown_in, breakdown_outcome}

-- Of a job's bound and the parts p that are held of it.
pub record PartsOf (job : Job) (bound : ℕ) (p : Parts) : Type 0 where
  -- They make the bound: own work, layer share, work from above and J, less the j·T taken off.
  pub makes : p.own + p.share + p.above + p.delay ≡ bound + p.taken
  pub taken : p.taken ≡ p.instance * job.period
  -- One of the two bounds decided.
  pub which : (bound ≡ 0 → ⊥) → (1 ≤ p.which) × (p.which ≤ 2)
  -- Each has the bytes that it needs.
  pub bytes : (p.instance < 2 ^ 8) × (p.which < 2 ^ 8)
  pub long : (p.own < 2 ^ 32) × (p.share < 2 ^ 32) × (p.above < 2 ^ 32) × (p.delay < 2 ^ 32) × (p.taken < 2 ^ 32)
  -- "A bound of 0 gives zeros."
  pub zeros : bound ≡ 0 → p ≡ no_parts

-- Of the parts that are held of a configuration's bounds: each is what the test defines, and the above.
pub record Held (jobs : List Job) (settings : List Setting) (held : List Parts) : Type 0 where
  pub is : held ≡ breakdown_of jobs settings
  pub each : (k : ℕ) → k < length jobs → PartsOf (job_at jobs k) (bound_at jobs settings k) (get_or held k no_parts)
  -- "1 .. for policy 1".
  pub alone : (k : ℕ) → k < length jobs → (setting_at settings k).policy ≡ fifo → (bound_at jobs settings k ≡ 0 → ⊥) → (get_or held k no_parts).which ≡ 1

-- What breakdown promises: its outcome; and of every accepted call the above of the records at the start of the output, the bounds being
-- those that `bounds` writes for the same blocks and range.
pub record BreakdownPromise (jobs : List ℕ) (low high : ℕ) (configuration output : List ℕ) (got : Answer (Unit {0}) × List ℕ) : Type 0 where
  pub is : got ≡ breakdown_outcome jobs low high configuration output
  pub held : got.0 ≡ given tt
      → let n = length (job_list jobs) in
      Held (job_list jobs) (settings_of jobs configuration) (breakdown_in n (take (parts_size * n) got.1))
  pub bounds : got.0 ≡ given tt → (room : List ℕ) → bound_size * length (job_list jobs) ≤ length room
      → bounds_outcome jobs low high configuration room ≡ (given tt, marked (job_list jobs) (settings_of jobs configuration) room)
