use Prim.Native.Nat.{ℕ, ◌<◌}
use mathlib.Core.Path.{◌≡◌, sym, ap, ◌∙◌}
use mathlib.Core.List.{List}
use Rattle.records.specs.Limits.{most_jobs}
use native.Mathlib.Omega.{arith}
use lib.ListN.{length, get_or, set}
use lib.Seq.{get_or-set_same, get_or-set_other}
use Rattle.sets.specs.Sets.{has}
use Rattle.assignment.proofs.Settling.{out-of-reach}
use Rattle.planner.specs.Questions.{listed}
use Rattle.planner.proofs.Asked.{listed-length, listed-costs, lowest-at, asked-bound}
use borrow.Author.Rules.{rules}
use Rattle.planner.proofs.quanta.is_within_reach.Goals as goal

pub returns-then-bound-eq0 : goal.returns-then-bound-eq0
returns-then-bound-eq0 c =
    let a = c.args in
    let L = c.requires.0 in
    let k = c.loop-job.job in
    let q = set a.quanta k a.question.now.range.high in
    let kn : k < a.question.now.n = c.loop-job-test.true in
    let long : length a.quanta ≡ most_jobs = search rules in
    let is = c.bound.ensures ∙ asked-bound a.question.now a.layer a.above L q k kn in
    λ e. out-of-reach (listed a.question.now) (listed-costs a.question.now) a.question.now.range.low a.question.now.range.high a.question.now.low (has a.layer) (has a.above) k
    (omega (arith, listed-length a.question.now)) (sym c.contains.ensures ∙ c.if-contains.true) q
    (get_or-set_same a.quanta k a.question.now.range.high 0 (omega (arith, a.question.now.few)))
    (λ i d. get_or-set_other a.quanta k i a.question.now.range.high 0 d ∙ ap (λ (v : List ℕ). get_or v i 0) c.requires.1 ∙ lowest-at a.question.now a.layer a.above L a.question.now.range.low i)
    (λ p. omega (arith, is, c.if-bound-eq0.true))
