-- Job lists, configurations and kernel records as text: what the rows of a text stand for, and what is written. Assumes nothing.
use Rattle.std.specs.Prelude.{ℕ, zero, suc, ◌%◌, ◌≤◌, List, [], ◌∷◌, ◌++◌}
use Rattle.std.proofs.Math.Option.{Option, none, some}
use Rattle.records.specs.Records.{flat}
use Rattle.records.specs.declared.job.Job.{Job}
use Rattle.configuration.specs.declared.setting.Setting.{Setting}
use Rattle.configuration.specs.Settings.{fifo, round_robin}
use Rattle.kernel.specs.declared.record.KernelRecord.{KernelRecord}
use Rattle.lists.specs.Decimals.{space, line_feed, decimal}
use Rattle.lists.specs.declared.fields.Row.{Row}
use Rattle.lists.specs.Rows.{none_name, fifo_name, round_robin_name, quanta_word}

-- ---- what rows stand for

-- The job, the setting and the kernel record of a row; its limits keep what a byte holds below 256.
abbrev pub job_from : Row → Job
job_from row = record { id = row.first % 256; delay = row.fifth % 256; cost = row.second; period = row.third; deadline = row.fourth }

abbrev pub setting_from : Row → Setting
setting_from row = record { id = row.first % 256; level = row.second % 256; policy = row.third % 256; quantum = row.fourth % 256 }

abbrev pub kernel_from : Row → KernelRecord
kernel_from row = record { id = row.first % 256; policy = row.second % 256; priority = record { 0 = row.third % 256 }; quantum = row.fourth % 256 }

-- ---- what is written

-- Words with one space between, and a line feed after them.
abbrev pub line_text : List ℕ → List (List ℕ) → List ℕ
line_text word [] = word ++ (line_feed ∷ [])
line_text word (next ∷ rest) = word ++ (space ∷ line_text next rest)

-- A delay of 0 is left out.
abbrev pub delay_words : ℕ → List (List ℕ)
delay_words zero = []
delay_words (suc delay) = decimal (suc delay) ∷ []

abbrev pub job_text : Job → List ℕ
job_text job = line_text (decimal job.id) (decimal job.cost ∷ decimal job.period ∷ decimal job.deadline ∷ delay_words job.delay)

-- A policy has its name; one past 2, which no configuration has, its number.
abbrev pub policy_word : ℕ → List ℕ
policy_word zero = none_name
policy_word (suc zero) = fifo_name
policy_word (suc (suc zero)) = round_robin_name
policy_word (suc (suc (suc policy))) = decimal (suc (suc (suc policy)))

abbrev pub setting_text : Setting → List ℕ
setting_text setting = line_text (decimal setting.id) (decimal setting.level ∷ policy_word setting.policy ∷ decimal setting.quantum ∷ [])

abbrev pub kernel_text : KernelRecord → List ℕ
kernel_text kernel = line_text (decimal kernel.id) (policy_word kernel.policy ∷ decimal kernel.priority.0 ∷ decimal kernel.quantum ∷ [])

-- The line of a range, where there is one.
abbrev pub range_text : Option (ℕ × ℕ) → List ℕ
range_text none = []
range_text (some range) = line_text quanta_word (decimal range.0 ∷ decimal range.1 ∷ [])

unfoldable pub list_text : Option (ℕ × ℕ) → List Job → List ℕ
list_text range jobs = range_text range ++ flat job_text jobs

unfoldable pub configuration_text : List Setting → List ℕ
configuration_text settings = flat setting_text settings

unfoldable pub kernels_text : List KernelRecord → List ℕ
kernels_text kernels = flat kernel_text kernels

-- ---- what a text can hold: the numbers of a record; of kernel records only those with a policy that accepted ones have

abbrev pub JobFits : Job → Type 0
JobFits job = (job.id ≤ 255) × (job.delay ≤ 255) × (job.cost ≤ 65535) × (job.period ≤ 65535) × (job.deadline ≤ 65535)

abbrev pub SettingFits : Setting → Type 0
SettingFits setting = (setting.id ≤ 255) × (setting.level ≤ 255) × (setting.policy ≤ 255) × (setting.quantum ≤ 255)

abbrev pub KernelFits : KernelRecord → Type 0
KernelFits kernel = (kernel.id ≤ 255) × ((fifo ≤ kernel.policy) × (kernel.policy ≤ round_robin)) × (kernel.priority.0 ≤ 255) × (kernel.quantum ≤ 255)

abbrev pub RangeFits : Option (ℕ × ℕ) → Type 0
RangeFits none = Unit {0}
RangeFits (some range) = (range.0 ≤ 255) × (range.1 ≤ 255)

abbrev pub AllFit : {A : Type 0} → (A → Type 0) → List A → Type 0
AllFit fits [] = Unit {0}
AllFit fits (x ∷ xs) = fits x × AllFit fits xs
