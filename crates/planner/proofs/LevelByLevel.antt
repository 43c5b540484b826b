-- The planner's loop over the levels: what its progress reaches at each, and that it ends in the rule's answer. Assumes nothing.
use Prim.Native.Nat.{ℕ, suc, ◌+◌, ◌*◌, ◌^◌, ◌≤◌, ◌<◌}
use mathlib.Core.Path.{◌≡◌, refl, sym, ap, ap₂, ◌∙◌}
use mathlib.Core.List.{List}
use native.Mathlib.Omega.{arith}
use lib.ListN.{length, take}
use Rattle.response.specs.Demand.{bound}
use Rattle.sets.specs.Sets.{first_jobs}
use Rattle.sets.specs.Order.{subsets, considered, considered_count}
use Rattle.sets.proofs.Parts.{rest_lt}
use Rattle.sets.proofs.Considering.{first-le, considered-none, considered-stops, considered-goes}
use Rattle.records.specs.Limits.{most_jobs}
use Rattle.records.specs.declared.job.Job.{Job}
use Rattle.assignment.specs.Plan.{quanta_in, chosen, Stage, place, place_by, plan_from, plan_from_by, start}
use Rattle.assignment.proofs.Plays.{plan-stops, plan-goes}
use Rattle.assignment.proofs.Planned.{start-less}
use Rattle.planner.specs.declared.question.Question.{Question}
use Rattle.planner.specs.declared.choice.Choice.{Choice}
use Rattle.planner.specs.declared.levels.Progress.{Progress}
use Rattle.planner.specs.Questions.{listed, finds}
use Rattle.planner.specs.Stages.{most_sets, takeable, Chosen, progress_of, stage_of, last_stage, count_all}
use Rattle.planner.proofs.Asked.{listed-length}
use Rattle.planner.proofs.Progressing.{place-table}

-- The progress shows a stage from which the levels still to come lead to the last stage.
pub record Reaches (question : Question) (sequence : List ℕ) (level : ℕ) (progress : Progress) : Type 0 where
  pub stage : Stage
  pub shows : progress ≡ progress_of stage progress.considered
  pub less : stage.left < 2 ^ question.n
  pub ends : plan_from (listed question) (finds question) sequence level stage ≡ last_stage question sequence
  pub count : progress.considered + considered_count (takeable question) sequence level stage.left ≡ count_all question sequence
  pub few : progress.considered + most_sets * level ≤ most_sets * most_jobs

module _ (question : Question) (sequence : List ℕ) (short : length sequence ≤ most_sets) where
  abbrev jobs : List Job
  jobs = listed question

  pub reaches-start : (progress : Progress) → progress ≡ progress_of (start jobs) 0 → Reaches question sequence question.n progress
  unfolding start
  reaches-start progress e =
      let none : progress.considered ≡ 0 = ap (λ (p : Progress). p.considered) e in
      record {
        stage = start jobs;
        shows = e ∙ ap (progress_of (start jobs)) (sym none);
        less = omega (arith, start-less jobs (omega (arith, listed-length question, question.few)), ap (λ (m : ℕ). 2 ^ m) (listed-length question));
        ends = refl;
        count = ap₂ (λ (x y : ℕ). x + considered_count (takeable question) sequence question.n (first_jobs y)) none (listed-length question) ∙ omega arith;
        few = omega (arith, none, question.few);
      }

  pub reaches_end : (progress : Progress) → Reaches question sequence 0 progress → progress ≡ progress_of (last_stage question sequence) (count_all question sequence)
  unfolding plan_from_by
  reaches_end progress R =
      R.shows ∙ ap₂ progress_of R.ends (omega (arith, R.count, considered-none (takeable question) sequence R.stage.left))

  module _ (v : ℕ) (progress : Progress) (R : Reaches question sequence (suc v) progress) (choice : Choice) (C : Chosen question sequence progress.left choice) where
    left_is : progress.left ≡ R.stage.left
    left_is = ap (λ (p : Progress). p.left) R.shows

    -- The search of this level, from the stage.
    abbrev counted : ℕ
    counted = length (considered (takeable question R.stage.left) (subsets R.stage.left sequence))

    count-is : choice.considered ≡ counted
    count-is = C.count ∙ ap (λ (x : ℕ). length (considered (takeable question x) (subsets x sequence))) left_is

    pub reaches-room : progress.considered + choice.considered < 2 ^ 16
    reaches-room = omega (arith, R.few, C.few, short)

    pub reaches-inside : (progress.left < 2 ^ question.n) × (choice.set < 2 ^ question.n)
    reaches-inside = (
      omega (arith, left_is, R.less),
      omega (arith, left_is, R.less, C.set, first-le (takeable question progress.left) progress.left sequence),
    )

    -- Nothing can be taken: the plan ends here.
    pub reaches-stop : choice.set ≡ 0 → (r : Progress)
        → r ≡ record { left = progress.left; considered = progress.considered + choice.considered; settings = progress.settings; bounds = progress.bounds }
        → r ≡ progress_of (last_stage question sequence) (count_all question sequence)
    reaches-stop none r e =
        let first = sym (C.set ∙ ap (λ (x : ℕ). chosen (finds question) sequence x) left_is) ∙ none in
        let total : progress.considered + choice.considered ≡ count_all question sequence = omega (arith, R.count, count-is, considered-stops (takeable question) sequence v R.stage.left first) in
        e
        ∙ ap (λ (p : Progress). record { left = p.left; considered = progress.considered + choice.considered; settings = p.settings; bounds = p.bounds }) R.shows
        ∙ ap₂ progress_of (sym (plan-stops (bound jobs) jobs (finds question) sequence v R.stage first) ∙ R.ends) total

    -- A set is taken: the next level goes on from it.
    module _ (some-set : choice.set ≡ 0 → ⊥) where
      taken : 0 < choice.set
      taken = omega arith

      first : chosen (finds question) sequence R.stage.left ≡ choice.set
      first = sym (C.set ∙ ap (λ (x : ℕ). chosen (finds question) sequence x) left_is)

      pub reaches-next : (r : Progress) → r ≡ progress_of (place jobs (suc v) choice.set (take question.n choice.quanta) (stage_of progress)) (progress.considered + choice.considered)
          → Reaches question sequence v r
      unfolding place_by
      reaches-next r e =
          let next = place jobs (suc v) choice.set (take question.n choice.quanta) R.stage in
          let sum : r.considered ≡ progress.considered + choice.considered = ap (λ (p : Progress). p.considered) e in
          let quanta : quanta_in (finds question R.stage.left choice.set) ≡ take question.n choice.quanta =
          ap quanta_in (ap (λ (x : ℕ). finds question x choice.set) (sym left_is) ∙ C.quanta taken)
          in
          let same : place jobs (suc v) choice.set (take question.n choice.quanta) (stage_of progress) ≡ next =
          ap (λ (p : Progress). place jobs (suc v) choice.set (take question.n choice.quanta) (stage_of p)) R.shows
          ∙ place-table jobs (suc v) choice.set (take question.n choice.quanta) R.stage progress.considered
          in
          record {
            stage = next;
            shows = e ∙ ap₂ progress_of same (sym sum);
            less = rest_lt question.n R.stage.left choice.set R.less;
            ends =
                sym (plan-goes (bound jobs) jobs (finds question) sequence v R.stage choice.set first taken
                ∙ ap (λ (q : List ℕ). plan_from jobs (finds question) sequence v (place jobs (suc v) choice.set q R.stage)) quanta)
                ∙ R.ends;
            count = omega (arith, sum, count-is, R.count, considered-goes (takeable question) sequence v R.stage.left choice.set first taken);
            few = omega (arith, sum, R.few, C.few, short);
          }
