-- What the planner's functions know of a question: it is accepted, and the bounds that they find are those of the list. Assumes nothing.
use Prim.Native.Nat.{ℕ, suc, ◌^◌, ◌≤◌, ◌<◌}
use mathlib.Core.Bool.{Bool, false, cond}
use native.Mathlib.Decide.{dec_le}
use Rattle.sets.specs.Places.{list_of}
use Rattle.sets.proofs.Places.{list_at, list_length}
use mathlib.Core.Path.{◌≡◌, sym, ap, ◌∙◌}
use mathlib.Core.List.{List}
use mathlib.Core.Option.{none, some}
use native.Mathlib.Omega.{arith}
use lib.ListN.{length, get_or, take, get_or-eq_default}
use lib.Seq.{get_or-take, length-take-le}
use Rattle.sets.specs.Sets.{has, rest}
use Rattle.sets.proofs.Parts.{rest_lt, within-refl}
use Rattle.sets.proofs.Members.{has-high}
use Rattle.records.specs.Limits.{most_jobs}
use Rattle.records.specs.Jobs.{blank_job, job_at}
use Rattle.records.specs.declared.job.Job.{Job}
use Rattle.response.specs.Demand.{bound}
use Rattle.search.specs.Search.{bound_by}
use Rattle.search.specs.declared.workload.Workload.{Workload}
use Rattle.response.proofs.Easier.{bound-take}
use Rattle.search.proofs.BothBounds.{bound-found}
use Rattle.assignment.specs.Plan.{quanta_for, quanta_by}
use Rattle.assignment.specs.Layers.{Hopeless, Settles}
use Rattle.assignment.proofs.Serving.{Costs}
use Rattle.assignment.proofs.Settling.{lowest-stands, says-smallest}
use Rattle.planner.specs.declared.question.Question.{Question}
use Rattle.std.specs.Prelude.{Option as Maybe, None, Some}
use Rattle.planner.specs.Questions.{listed, lowest_quanta, Accepted, Laid, Pending, offered}

module _ (question : Question) where
  pub accepted : Accepted question
  accepted = record { table = question.table; few = question.few; whole = question.whole; costs = question.costs; low = question.low; ordered = question.ordered }

  pub listed-length : length (listed question) ≡ question.n
  listed-length = length-take-le question.n question.workload.jobs (omega (arith, question.table, question.few))

  pub listed_at : (k : ℕ) → k < question.n → job_at (listed question) k ≡ job_at question.workload.jobs k
  listed_at k l = get_or-take question.n question.workload.jobs k blank_job l

  pub listed-costs : Costs (listed question)
  listed-costs k l =
      let kn : k < question.n = omega (arith, listed-length) in
      omega (arith, ap (λ (job : Job). job.cost) (listed_at k kn), question.costs k kn)

-- The lowest quanta of a layer.
pub lowest-at : (question : Question) (layer above : ℕ) → Laid question layer above → (low i : ℕ) → get_or (lowest_quanta low (has layer)) i 0 ≡ cond (has layer i) low 0
lowest-at question layer above L low i = elim (dec_le (suc i) most_jobs) [
  | yes l ↦ list_at f most_jobs i 0 l
  | no l ↦
      let short : length (list_of f most_jobs) ≤ i = omega (arith, list_length f most_jobs) in
      let out : has layer i ≡ false = has-high question.n layer i L.inside (omega (arith, question.few)) in
      get_or-eq_default (list_of f most_jobs) 0 short ∙ sym (ap (λ (b : Bool). cond b low 0) out)
]
  where
    f : ℕ → ℕ
    f j = cond (has layer j) low 0

pub asked-bound : (question : Question) (layer above : ℕ) → Laid question layer above → (quanta : List ℕ) (k : ℕ) → k < question.n
    → bound_by question.workload quanta (has layer) (has above) k ≡ bound (listed question) quanta (has layer) (has above) k
asked-bound question layer above L quanta k l =
    let jobs = question.workload.jobs in
    ap (λ (w : Workload). bound_by w quanta (has layer) (has above) k) question.whole
    ∙ bound-found jobs quanta (has layer) (has above) k
    ∙ bound-take question.n jobs quanta (has layer) (has above) k (omega (arith, question.table, question.few)) l
    (λ i il. has-high question.n layer i L.inside il) (λ i il. has-high question.n above i L.over il)

-- ---- the quanta of a set, from the lowest

module _ (question : Question) (left set : ℕ) (left_less : left < 2 ^ question.n) (set-less : set < 2 ^ question.n)
    (above : ℕ) (is : above ≡ rest left set)
  where
    pub laid : Laid question set above
    laid = record { accepted = accepted question; inside = set-less; over = rw is (rest_lt question.n left set left_less) }

    module _ (quanta : List ℕ) (lowest : quanta ≡ lowest_quanta question.range.low (has set)) where
      pub begins : Pending question set above set quanta
      begins = record {
        laid = laid;
        sub = within-refl set;
        standing = lowest-stands (listed question) (listed-costs question) question.range.low question.range.high question.low (has set) (has above) question.ordered quanta
            (omega (arith, ap length lowest, list_length (λ i. cond (has set i) question.range.low 0) most_jobs, listed-length question, question.few))
            (λ i. ap (λ (v : List ℕ). get_or v i 0) lowest ∙ lowest-at question set above laid question.range.low i)
            (λ i l. has-high question.n set i set-less (omega (arith, listed-length question)));
      }

    pub out : Hopeless (listed question) question.range.low question.range.high (has set) (has above) → quanta_for (listed question) question.range.low question.range.high left set ≡ none
    unfolding quanta_by
    out h = rw (← is) h

    -- What settling comes to.
    pub ends : (v : List ℕ) (r : Maybe (List ℕ)) → Settles (listed question) question.range.low question.range.high (has set) (has above) (has set) v r
        → offered question.n r ≡ quanta_for (listed question) question.range.low question.range.high left set
    unfolding quanta_by
    ends v None h = sym (out h)
    ends v (Some u) S =
        ap (λ (n : ℕ). some (take n u)) (sym (listed-length question))
        ∙ rw (← is) (says-smallest (listed question) (listed-costs question) question.range.low question.range.high question.low (has set) (has above) v u S)
