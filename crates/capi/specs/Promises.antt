-- What the C functions promise of the word and the outputs that their caller holds, besides that they are the entry's. Assumes nothing.
use Rattle.std.specs.Prelude.{ℕ, ◌*◌, ◌/◌, ◌%◌, ◌≤◌, ◌≡◌, List, length, take}
use Rattle.records.specs.Jobs.{job_list}
use Rattle.configuration.specs.Settings.{setting_size}
use Rattle.configuration.specs.Blocks.{settings_of}
use Rattle.kernel.specs.declared.priority.KernelPriority.{KernelPriority}
use Rattle.kernel.specs.KernelRecords.{kernel_size}
use Rattle.kernel.specs.Conversions.{to_kernel_outcome, from_kernel_outcome}
use Rattle.kernel.specs.Promises.{ThereAndBack, BackAndThere}
use Rattle.limits.specs.Boxes.{gate_limits}
use Rattle.limits.specs.Limited.{Limited}
use Rattle.marker.specs.Marks.{bound_size, marked, bounds_outcome, mark_outcome}
use Rattle.breakdown.specs.Breakdowns.{parts_size, breakdown_in, breakdown_outcome}
use Rattle.breakdown.specs.Promises.{Held}
use Rattle.planner.specs.Plans.{plan_outcome, HeldIn}
use Rattle.gate.specs.Outcomes.{plan_within, mark_within}
use Rattle.capi.specs.Words.{in_words, no_value, truth_value, plan_value}

-- ruzhtylen_plan: they are the entry's; where byte 0 is 0 demand 3 is said of them, byte 1 being the placed set and bytes 2 and 3 the count.
pub record WordPromise (jobs : List ℕ) (low high : ℕ) (configuration bounds : List ℕ) (word : ℕ) (outputs : List ℕ × List ℕ) : Type 0 where
  pub is : (word, outputs) ≡ in_words plan_value (plan_outcome jobs low high configuration bounds)
  pub guarantee : word % 256 ≡ 0 → HeldIn jobs low high (word / 256 % 256, word / 65536) outputs

-- ruzhtylen_gate_plan and ruzhtylen_gate_mark: they are the entry's; within the start gate's limits they are those of ruzhtylen_plan and
-- ruzhtylen_mark; and of the plan demand 3 is said as there.
pub record GatePlanWord (jobs : List ℕ) (low high : ℕ) (configuration bounds : List ℕ) (word : ℕ) (outputs : List ℕ × List ℕ) : Type 0 where
  pub is : (word, outputs) ≡ in_words plan_value (plan_within gate_limits jobs low high configuration bounds)
  pub limited : Limited gate_limits jobs low high (word, outputs) (in_words plan_value (plan_outcome jobs low high configuration bounds)) (15, (configuration, bounds))
  pub guarantee : word % 256 ≡ 0 → HeldIn jobs low high (word / 256 % 256, word / 65536) outputs

pub record GateMarkWord (jobs : List ℕ) (low high : ℕ) (configuration output : List ℕ) (word : ℕ) (after : List ℕ) : Type 0 where
  pub is : (word, after) ≡ in_words truth_value (mark_within gate_limits jobs low high configuration output)
  pub limited : Limited gate_limits jobs low high (word, after) (in_words truth_value (mark_outcome jobs low high configuration output)) (15, output)

-- ruzhtylen_breakdown: they are the entry's; where the word is 0 the records at the start of the output are the parts of the bounds that
-- ruzhtylen_bounds writes for the same blocks and range.
pub record BreakdownWord (jobs : List ℕ) (low high : ℕ) (configuration output : List ℕ) (word : ℕ) (after : List ℕ) : Type 0 where
  pub is : (word, after) ≡ in_words no_value (breakdown_outcome jobs low high configuration output)
  pub held : word ≡ 0
      → let n = length (job_list jobs) in
      Held (job_list jobs) (settings_of jobs configuration) (breakdown_in n (take (parts_size * n) after))
  pub bounds : word ≡ 0 → (room : List ℕ) → bound_size * length (job_list jobs) ≤ length room
      → in_words no_value (bounds_outcome jobs low high configuration room) ≡ (0, marked (job_list jobs) (settings_of jobs configuration) room)

-- A byte as a kernel priority.
abbrev pub priority : ℕ → KernelPriority
priority byte = record { 0 = byte }

-- ruzhtylen_to_kernel and ruzhtylen_from_kernel: they are the entry's; where the word is 0 the block that the output begins with is
-- converted back to the one that was given.
pub record ToKernelWord (jobs : List ℕ) (low high lowest highest : ℕ) (configuration output : List ℕ) (word : ℕ) (after : List ℕ) : Type 0 where
  pub is : (word, after) ≡ in_words no_value (to_kernel_outcome jobs low high (priority lowest) (priority highest) configuration output)
  pub back : word ≡ 0 → ThereAndBack jobs low high (priority lowest) (priority highest) configuration (take (kernel_size * length (job_list jobs)) after)

pub record FromKernelWord (jobs : List ℕ) (low high lowest highest : ℕ) (kernel output : List ℕ) (word : ℕ) (after : List ℕ) : Type 0 where
  pub is : (word, after) ≡ in_words no_value (from_kernel_outcome jobs low high (priority lowest) (priority highest) kernel output)
  pub there : word ≡ 0 → BackAndThere jobs low high (priority lowest) (priority highest) kernel (take (setting_size * length (job_list jobs)) after)
