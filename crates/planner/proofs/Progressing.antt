-- The tables of a stage: how the start and a level that is taken look in them. Assumes nothing.
use Prim.Native.Nat.{ℕ, ◌-◌, ◌<◌}
use mathlib.Core.Path.{◌≡◌, refl, sym, ap, ap₂, ◌∙◌}
use mathlib.Core.Bool.{cond}
use mathlib.Core.List.{List}
use native.Mathlib.Omega.{arith}
use lib.ListN.{length, get_or, take, replicate}
use lib.Seq.{get_or-take}
use Rattle.sets.specs.Places.{list_of}
use Rattle.sets.specs.Sets.{has, rest, size, first_jobs}
use Rattle.sets.proofs.Places.{list_same}
use Rattle.records.specs.Limits.{most_jobs}
use Rattle.records.specs.Records.{table}
use Rattle.records.specs.Jobs.{job_at}
use Rattle.records.specs.declared.job.Job.{Job}
use Rattle.records.proofs.FixedWidth.{table_at, table-blank}
use Rattle.configuration.specs.declared.setting.Setting.{Setting}
use Rattle.configuration.specs.Settings.{blank_setting, setting_at, setting_table}
use Rattle.response.specs.Demand.{bound}
use Rattle.response.proofs.Easier.{bound-same}
use Rattle.assignment.specs.Plan.{Stage, setting_in, setting_left, put, place, place_by, start}
use Rattle.planner.specs.declared.question.Question.{Question}
use Rattle.planner.specs.declared.levels.Progress.{Progress}
use Rattle.planner.specs.Questions.{listed}
use Rattle.planner.specs.Stages.{settings_with, bounds_with, progress_of, stage_of}
use Rattle.planner.proofs.Asked.{listed-length, listed_at}

module _ (question : Question) where
  abbrev n : ℕ
  n = question.n

  abbrev jobs : List Job
  jobs = listed question

  size_is : length jobs ≡ n
  size_is = listed-length question

  id-at : (k : ℕ) → k < n → (job_at jobs k).id ≡ (job_at question.workload.jobs k).id
  id-at k l = ap (λ (job : Job). job.id) (listed_at question k l)

  -- Over the list or over n places.
  over : {X : Type 0} (f g : ℕ → X) → ((k : ℕ) → k < n → f k ≡ g k) → list_of f (length jobs) ≡ list_of g n
  over f g h = ap (list_of f) size_is ∙ list_same f g n h

  abbrev progress : ℕ → ℕ → List Setting → List ℕ → Progress
  progress left count settings bounds = record { left = left; considered = count; settings = settings; bounds = bounds }

  pub start_is : (left : ℕ) (settings : List Setting) → left ≡ first_jobs n → settings ≡ setting_table (list_of (λ i. setting_left (job_at question.workload.jobs i).id) n)
      → progress left 0 settings (replicate most_jobs 0) ≡ progress_of (start jobs) 0
  unfolding start
  start_is left settings el es =
      let s = over (λ k. setting_left (job_at jobs k).id) (λ k. setting_left (job_at question.workload.jobs k).id) (λ k l. ap setting_left (id-at k l)) in
      let b = over {X = ℕ} (λ (k : ℕ). 0) (λ (k : ℕ). 0) (λ k l. refl) in
      ap₂ (λ (x : ℕ) (y : List Setting). progress x 0 y (replicate most_jobs 0)) (el ∙ sym (ap first_jobs size_is)) (es ∙ sym (ap setting_table s))
      ∙ ap (progress (first_jobs (length jobs)) 0 (setting_table (list_of (λ k. setting_left (job_at jobs k).id) (length jobs))))
      (sym (ap (table most_jobs 0) b ∙ table-blank most_jobs n 0 question.few))

  -- A set takes a level; p are the tables before.
  module _ (p : Progress) (level set : ℕ) (quanta : List ℕ) where
    settings-are : put (length jobs) (has set) (λ k. setting_in (job_at jobs k).id level (size set) (get_or (take n quanta) k 0)) (setting_at p.settings)
        ≡ settings_with question p.settings level set quanta
    settings-are =
        over (λ k. cond (has set k) (setting_in (job_at jobs k).id level (size set) (get_or (take n quanta) k 0)) (setting_at p.settings k))
        (λ k. cond (has set k) (setting_in (job_at question.workload.jobs k).id level (size set) (get_or quanta k 0)) (setting_at p.settings k))
        (λ k l. ap₂ (λ (x q : ℕ). cond (has set k) (setting_in x level (size set) q) (setting_at p.settings k)) (id-at k l) (get_or-take n quanta k 0 l))

    bounds-are : (above : ℕ) → put (length jobs) (has set) (bound jobs (take n quanta) (has set) (has above)) (λ k. get_or p.bounds k 0) ≡ bounds_with question p.bounds set above quanta
    bounds-are above =
        over (λ k. cond (has set k) (bound jobs (take n quanta) (has set) (has above) k) (get_or p.bounds k 0)) (λ k. cond (has set k) (bound jobs quanta (has set) (has above) k) (get_or p.bounds k 0))
        (λ k l. ap (λ (x : ℕ). cond (has set k) x (get_or p.bounds k 0))
        (bound-same jobs k (take n quanta) quanta (has set) (has set) (has above) (has above) (get_or-take n quanta k 0 l) (λ i il e. get_or-take n quanta i 0 (omega (arith, size_is))) (λ i il. refl) (λ i il. refl)))

    pub place_is : (left count : ℕ) (settings : List Setting) (bounds : List ℕ) → left ≡ rest p.left set → settings ≡ setting_table (settings_with question p.settings level set quanta)
        → bounds ≡ table most_jobs 0 (bounds_with question p.bounds set left quanta)
        → progress left count settings bounds ≡ progress_of (place jobs level set (take n quanta) (stage_of p)) count
    unfolding place_by
    place_is left count settings bounds el es eb =
        ap₂ (λ (y : List Setting) (z : List ℕ). progress left count y z) (es ∙ ap setting_table (sym settings-are)) (eb ∙ ap (table most_jobs 0) (sym (bounds-are left)))
        ∙ ap (λ (x : ℕ). progress_of (record {
          left = x;
          settings = put (length jobs) (has set) (λ k. setting_in (job_at jobs k).id level (size set) (get_or (take n quanta) k 0)) (setting_at p.settings);
          bounds = put (length jobs) (has set) (bound jobs (take n quanta) (has set) (has x)) (λ k. get_or p.bounds k 0);
        }) count) el

-- A level sees the tables of a stage as it sees the stage.
pub place-table : (jobs : List Job) (level set : ℕ) (quanta : List ℕ) (stage : Stage) (count : ℕ)
    → place jobs level set quanta (stage_of (progress_of stage count)) ≡ place jobs level set quanta stage
unfolding place_by
place-table jobs level set quanta stage count =
    let n = length jobs in
    ap₂ (λ (x : List Setting) (y : List ℕ). record { left = rest stage.left set; settings = x; bounds = y })
    (list_same (λ k. cond (has set k) (setting_in (job_at jobs k).id level (size set) (get_or quanta k 0)) (setting_at (setting_table stage.settings) k))
    (λ k. cond (has set k) (setting_in (job_at jobs k).id level (size set) (get_or quanta k 0)) (setting_at stage.settings k)) n
    (λ k l. ap (λ (x : Setting). cond (has set k) (setting_in (job_at jobs k).id level (size set) (get_or quanta k 0)) x) (table_at blank_setting stage.settings (most_jobs - length stage.settings) k)))
    (list_same (λ k. cond (has set k) (bound jobs quanta (has set) (has (rest stage.left set)) k) (get_or (table most_jobs 0 stage.bounds) k 0))
    (λ k. cond (has set k) (bound jobs quanta (has set) (has (rest stage.left set)) k) (get_or stage.bounds k 0)) n
    (λ k l. ap (λ (x : ℕ). cond (has set k) (bound jobs quanta (has set) (has (rest stage.left set)) k) x) (table_at 0 stage.bounds (most_jobs - length stage.bounds) k)))
