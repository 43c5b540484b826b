use Prim.Native.Nat.{ℕ, suc, ◌+◌, ◌*◌, ◌/◌, max}
use mathlib.Core.Path.{◌≡◌, ◌∙◌, ap, ap₂, fun_ext}
use native.Mathlib.Omega.{arith}
use Rattle.std.proofs.Math.Nat.{max_comm}
use lib.Dec.{leb}
use lib.ListN.{length}
use Rattle.sets.specs.Sets.{has}
use Rattle.records.specs.Limits.{most_jobs}
use Rattle.records.specs.Jobs.{job_at}
use Rattle.response.specs.Demand.{interference}
use Rattle.finishes.specs.Finishes.{whole, spare_of, carried, climb, short_of, long_of, estimate, short_part, far_time}
use Rattle.finishes.specs.declared.capacity.Table.{Table}
use Rattle.response.proofs.Easier.{interference-same, interference-split}
use Rattle.finishes.proofs.Loops.{long-part, short-part, spare-same, carried_same}
use borrow.Author.Rules.{rules}
use Rattle.finishes.proofs.capacity.Table.far_time.Goals as goal

pub returns : goal.returns
unfolding far_time estimate
returns c =
    let a = c.args in
    let jobs = a.self.jobs in
    let utilisations = a.self.utilisations in
    let longest = a.start / short_part in
    let eight : length jobs ≡ most_jobs = search rules in
    let as_many : length utilisations ≡ most_jobs = search rules in
    let long = long-part jobs a.above c.short_jobs.result c.rest-long.result c.rest-short.result longest c.short_jobs.ensures c.rest-long.ensures c.rest-short.ensures in
    let short = short-part jobs a.above c.short_jobs.result c.rest-long.result c.rest-short.result longest c.short_jobs.ensures c.rest-long.ensures c.rest-short.ensures in
    let f : (t : ℕ) → a.own + interference jobs (has c.rest-long.result) t + interference jobs (has c.rest-short.result) t ≡ a.own + interference jobs (has a.above) t =
    λ t. omega (
      arith,
      interference-same jobs _ (long_of jobs (has a.above) longest) t (λ i l. long i (omega arith)),
      interference-same jobs _ (short_of jobs (has a.above) longest) t (λ i l. short i (omega arith)),
      interference-split jobs (has a.above) (λ i. leb (job_at jobs i).period longest) t,
    ) in
    let w : Table = a.self in
    let spare : c.max-spare.result ≡ max 1 (spare_of utilisations (short_of jobs (has a.above) longest)) =
    c.max-spare.ensures ∙ max_comm c.capacity_of-capacity.result.spare 1 ∙ ap (max 1) (c.capacity_of-capacity.ensures.0 ∙ spare-same utilisations _ _ (λ i l. short i (omega arith))) in
    let carry : c.capacity_of-capacity.result.carry ≡ carried w (short_of jobs (has a.above) longest) =
    c.capacity_of-capacity.ensures.2 ∙ carried_same w _ _ (λ i l. short i (omega arith)) in
    let g : (t : ℕ) → ((a.own + interference jobs (has c.rest-long.result) t) * whole + c.capacity_of-capacity.result.carry) / c.max-spare.result ≡ estimate w (has a.above) longest a.own t =
    λ t. ap₂ (λ (x y : ℕ). x / y) (ap₂ (λ (x y : ℕ). (a.own + x) * whole + y) (interference-same jobs _ (long_of jobs (has a.above) longest) t (λ i l. long i (omega arith))) carry) spare in
    let found : c.climb.result
    ≡ climb (λ t. a.own + interference jobs (has c.rest-long.result) t + interference jobs (has c.rest-short.result) t)
    (λ t. ((a.own + interference jobs (has c.rest-long.result) t) * whole + c.capacity_of-capacity.result.carry) / c.max-spare.result) a.limit
    (suc a.limit) a.start =
    c.climb.ensures.0 in
    (found ∙ ap₂ (λ (f g : ℕ → ℕ). climb f g a.limit (suc a.limit) a.start) (fun_ext f) (fun_ext g), c.climb.ensures.1, c.climb.ensures.2)
