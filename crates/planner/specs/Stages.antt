-- What the planner's functions over levels answer, and how their tables are read. Assumes nothing.
use Rattle.std.specs.Prelude.{ℕ, ◌≤◌, ◌<◌, ◌≡◌, Bool, List, length, get_or, take}
use Rattle.std.proofs.Math.Option.{some}
use Rattle.sets.specs.Sets.{has, size, first_jobs}
use Rattle.sets.specs.Order.{subsets, considered, considered_count}
use Rattle.records.specs.Limits.{most_jobs}
use Rattle.records.specs.Records.{table}
use Rattle.records.specs.Jobs.{job_at}
use Rattle.periods.specs.ByPeriods.{period_at}
use Rattle.periods.specs.Sums.{SumsOf}
use Rattle.periods.specs.Subsets.{weight_in, heaviest_first}
use Rattle.configuration.specs.declared.setting.Setting.{Setting}
use Rattle.configuration.specs.Settings.{setting_at, setting_table}
use Rattle.response.specs.Demand.{bound}
use Rattle.assignment.specs.Plan.{is_found, chosen, Stage, setting_in, put, plan_from, start}
use Rattle.planner.specs.declared.question.Question.{Question}
use Rattle.planner.specs.declared.choice.Choice.{Choice}
use Rattle.planner.specs.declared.levels.Progress.{Progress}
use Rattle.planner.specs.Questions.{listed, finds}

-- The most sets of a sequence: those of eight jobs that are not empty.
abbrev pub most_sets : ℕ
most_sets = 255

-- Whether a set can be taken.
abbrev pub takeable : Question → ℕ → ℕ → Bool
takeable question left s = is_found (finds question left s)

-- What a level's search along a sequence of sets answers: the set chosen, its quanta, and the count of sets considered.
pub record Chosen (question : Question) (sequence : List ℕ) (left : ℕ) (r : Choice) : Type 0 where
  pub set : r.set ≡ chosen (finds question) sequence left
  pub quanta : 0 < r.set → finds question left r.set ≡ some (take question.n r.quanta)
  pub count : r.considered ≡ length (considered (takeable question left) (subsets left sequence))
  pub few : r.considered ≤ length sequence

-- What a level's search is given of the order of the sets: the sums of periods, and the sets of one job in their order.
pub record Sorted (question : Question) (sums singles : List ℕ) : Type 0 where
  pub total : SumsOf (period_at question.workload.jobs) question.n sums
  pub alone : singles ≡ heaviest_first (weight_in sums) (first_jobs question.n) 1
  pub few : length singles ≤ most_sets

-- ---- the tables of a stage

-- The settings of n jobs when a set takes a level, the others keeping theirs.
abbrev pub settings_with : Question → List Setting → ℕ → ℕ → List ℕ → List Setting
settings_with question settings level set quanta =
    put question.n (has set) (λ k. setting_in (job_at question.workload.jobs k).id level (size set) (get_or quanta k 0)) (setting_at settings)

-- Their bounds, with a set above.
abbrev pub bounds_with : Question → List ℕ → ℕ → ℕ → List ℕ → List ℕ
bounds_with question bounds set above quanta = put question.n (has set) (bound (listed question) quanta (has set) (has above)) (λ k. get_or bounds k 0)

-- A stage in tables, with the count of sets considered so far; and the stage of the tables.
abbrev pub progress_of : Stage → ℕ → Progress
progress_of stage count = record { left = stage.left; considered = count; settings = setting_table stage.settings; bounds = table most_jobs 0 stage.bounds }

abbrev pub stage_of : Progress → Stage
stage_of progress = record { left = progress.left; settings = progress.settings; bounds = progress.bounds }

-- ---- all levels

abbrev pub last_stage : Question → List ℕ → Stage
last_stage question sequence = plan_from (listed question) (finds question) sequence question.n (start (listed question))

abbrev pub count_all : Question → List ℕ → ℕ
count_all question sequence = considered_count (takeable question) sequence question.n (first_jobs question.n)
