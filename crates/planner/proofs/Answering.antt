-- The planner's answer from its last stage: it is the rule's plan. Assumes nothing.
use Prim.Native.Nat.{ℕ, min}
use mathlib.Core.Path.{◌≡◌, sym, ap, ap₂, subst, ◌∙◌}
use mathlib.Core.List.{List}
use mathlib.Core.Option.{Option}
use native.Mathlib.Omega.{arith}
use lib.ListN.{length, take}
use lib.Seq.{length-take-le}
use Rattle.sets.specs.Sets.{rest, first_jobs}
use Rattle.sets.specs.Order.{considered_count}
use Rattle.sets.proofs.Places.{list_length}
use Rattle.records.specs.Limits.{most_jobs}
use Rattle.records.specs.Records.{table}
use Rattle.records.specs.Jobs.{job_at}
use Rattle.records.specs.declared.job.Job.{Job}
use Rattle.records.specs.declared.range.Range.{Range}
use Rattle.records.proofs.FixedWidth.{take-table}
use Rattle.periods.specs.ByPeriods.{period_at, by_periods}
use Rattle.periods.specs.Sums.{SumsOf}
use Rattle.periods.specs.Subsets.{most_of_size, weight_in, heaviest_first, SubsetsOf}
use Rattle.periods.specs.declared.subsets.Subsets.{Subsets}
use Rattle.configuration.specs.declared.setting.Setting.{Setting}
use Rattle.configuration.specs.Settings.{blank_setting, setting_table}
use Rattle.configuration.proofs.Shapes.{shapes}
use Rattle.search.specs.Search.{workload}
use Rattle.search.specs.declared.workload.Workload.{Workload}
use Rattle.marker.specs.Bounds.{bound_at}
use Rattle.assignment.specs.Plan.{Plan, Stage, is_found, quanta_for, plan_from, start, plan}
use Rattle.assignment.specs.Guarantee.{Guarantee}
use Rattle.assignment.proofs.Planned.{plan-guaranteed}
use Rattle.planner.specs.declared.question.Question.{Question}
use Rattle.planner.specs.declared.question.QuantaSearch.{QuantaSearch}
use Rattle.planner.specs.declared.question.QuantaSearch.TheVariants.{PerJob}
use Rattle.planner.specs.declared.levels.Progress.{Progress}
use Rattle.planner.specs.Questions.{listed, finds_by, finds, Sound}
use Rattle.planner.specs.Stages.{Sorted, progress_of, last_stage, count_all}
use Rattle.planner.proofs.Asked.{listed-length, listed-costs}

-- ---- the lengths of a plan's lists

module _ (jobs : List Job) (low high : ℕ) (p : Plan) (guaranteed : Guarantee jobs low high p) where
  pub settings-length : length p.settings ≡ length jobs
  settings-length = (shapes jobs low high p.settings guaranteed.allowed).size

  pub bounds-length : length p.bounds ≡ length jobs
  bounds-length = ap length guaranteed.bounds ∙ list_length (bound_at jobs p.settings) (length jobs)

-- ---- the last stage is the plan

module _ (question : Question) (per-job : question.search ≡ PerJob) where
  abbrev n : ℕ
  n = question.n

  abbrev range : Range
  range = question.range

  abbrev jobs : List Job
  jobs = listed question

  -- The search for quanta.
  abbrev sought : ℕ → ℕ → Option (List ℕ)
  sought = quanta_for jobs range.low range.high

  finds-is : finds question ≡ sought
  finds-is = ap (λ (search : QuantaSearch). finds_by search jobs range.low range.high) per-job

  -- The order of the sets.
  abbrev sequence : List ℕ
  sequence = by_periods jobs

  abbrev answer : Plan
  answer = plan jobs range.low range.high

  size : length jobs ≡ n
  size = listed-length question

  guaranteed : Guarantee jobs range.low range.high answer
  guaranteed = plan-guaranteed jobs (listed-costs question) (omega (arith, size, question.few)) range.low range.high question.low question.ordered

  last-stage : last_stage question sequence ≡ plan_from jobs sought sequence (length jobs) (start jobs)
  last-stage = ap₂ (λ (m : ℕ) (f : ℕ → ℕ → Option (List ℕ)). plan_from jobs f sequence m (start jobs)) (sym size) finds-is

  settings-is : take n (setting_table (last_stage question sequence).settings) ≡ answer.settings
  unfolding plan
  settings-is =
      ap (λ (s : Stage). take n (setting_table s.settings)) last-stage
      ∙ take-table most_jobs blank_setting n answer.settings (settings-length jobs range.low range.high answer guaranteed ∙ size)

  bounds-is : take n (table most_jobs 0 (last_stage question sequence).bounds) ≡ answer.bounds
  unfolding plan
  bounds-is =
      ap (λ (s : Stage). take n (table most_jobs 0 s.bounds)) last-stage
      ∙ take-table most_jobs 0 n answer.bounds (bounds-length jobs range.low range.high answer guaranteed ∙ size)

  placed-is : rest (first_jobs n) (last_stage question sequence).left ≡ answer.placed
  unfolding plan
  placed-is = ap₂ (λ (m : ℕ) (s : Stage). rest (first_jobs m) s.left) (sym size) last-stage

  count-is : count_all question sequence ≡ answer.considered
  unfolding plan
  count-is = ap₂ (λ (m : ℕ) (f : ℕ → ℕ → Option (List ℕ)). considered_count (λ left s. is_found (f left s)) sequence m (first_jobs m)) (sym size) finds-is

  abbrev made : ℕ → ℕ → List Setting → List ℕ → Plan
  made placed considered settings bounds = record { placed = placed; considered = considered; settings = settings; bounds = bounds }

  -- The plan as its tables have it.
  pub plan-made : (p : Progress) → p ≡ progress_of (last_stage question sequence) (count_all question sequence)
      → made (rest (first_jobs n) p.left) p.considered (take n p.settings) (take n p.bounds) ≡ answer
  plan-made p e =
      ap (λ (x : Progress). made (rest (first_jobs n) x.left) x.considered (take n x.settings) (take n x.bounds)) e
      ∙ ap₂ (λ (x y : ℕ). made x y (take n (setting_table (last_stage question sequence).settings)) (take n (table most_jobs 0 (last_stage question sequence).bounds))) placed-is count-is
      ∙ ap₂ (made answer.placed answer.considered) settings-is bounds-is

-- ---- from a table of jobs

module _ (jobs : List Job) (n : ℕ) (range : Range) (eight : length jobs ≡ most_jobs) (S : Sound jobs n range) (w : Workload) (made_of : w ≡ workload jobs) where
  pub jobs-are : w.jobs ≡ jobs
  jobs-are = ap (λ (x : Workload). x.jobs) made_of

  -- What is asked.
  abbrev pub asks : Question
  asks = record {
    workload = w;
    n = n;
    range = range;
    search = PerJob;
    table = ap length jobs-are ∙ eight;
    few = S.few;
    whole = made_of ∙ ap workload (sym jobs-are);
    costs = λ k l. omega (arith, S.costs k l, ap (λ (t : List Job). (job_at t k).cost) jobs-are);
    low = S.low;
    ordered = S.ordered;
  }

  -- The order of the sets, as the code finds it from the table.
  pub table-sorted : (sums : List ℕ) (all : ℕ) (r : Subsets) → SumsOf (period_at jobs) (min n most_jobs) sums → all ≡ first_jobs n → SubsetsOf sums all 1 r
      → length r.sets ≡ most_of_size → Sorted asks sums (take r.count r.sets)
  table-sorted sums all r T ea I long =
      let e : min n most_jobs ≡ n = omega (arith, S.few) in
      record {
        total = subst (λ (l : List Job). SumsOf (period_at l) n sums) (sym jobs-are) (subst (λ (m : ℕ). SumsOf (period_at jobs) m sums) e T);
        alone = I.is ∙ ap (λ (left : ℕ). heaviest_first (weight_in sums) left 1) ea;
        few = omega (arith, length-take-le r.count r.sets (omega (arith, I.few, long)), I.few);
      }
