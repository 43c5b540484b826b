-- The rules see the first n entries of the tables of jobs and kernel records as they see those lists. Assumes nothing.
use Prim.Native.Nat.{ℕ, min, ◌<◌}
use mathlib.Core.Path.{◌≡◌, sym, ap, ap₂, ◌∙◌}
use mathlib.Core.List.{List}
use native.Mathlib.Omega.{arith}
use lib.Dec.{eqb}
use lib.ListN.{length, take}
use lib.Seq.{get_or-take}
use Rattle.sets.specs.Places.{every}
use Rattle.sets.proofs.Places.{every-same, count_same}
use Rattle.records.specs.Jobs.{blank_job, job_at}
use Rattle.records.specs.declared.job.Job.{Job}
use Rattle.records.proofs.FixedWidth.{cut-length}
use Rattle.configuration.specs.Configuration.{scheduled, may_share}
use Rattle.kernel.specs.declared.priority.KernelPriority.{KernelPriority}
use Rattle.kernel.specs.declared.record.KernelRecord.{KernelRecord}
use Rattle.kernel.specs.declared.judge.KernelRule.{KernelRule}
use Rattle.kernel.specs.declared.judge.KernelRule.TheVariants.{Id, Top, Shape, Sharing}
use Rattle.kernel.specs.KernelRecords.{blank_kernel, kernel_at}
use Rattle.kernel.specs.KernelConfiguration.{on_top, on_priority, prioritised, kernel_ok, all_kernels_ok}

prioritised-same : (n : ℕ) (a b : List KernelRecord) (kernel : KernelRecord) → ((i : ℕ) → i < n → kernel_at a i ≡ kernel_at b i) → prioritised n a kernel ≡ prioritised n b kernel
prioritised-same n a b kernel same =
    ap (may_share kernel.policy)
    (count_same n (on_priority a kernel.priority.0) (on_priority b kernel.priority.0) (λ i l. ap (λ (x : KernelRecord). eqb x.priority.0 kernel.priority.0) (same i l)))

-- The rule at a place, of jobs and records that are the same at the first n places.
module _ (n : ℕ) (jobs jobs' : List Job) (low high : ℕ) (highest : KernelPriority) (a b : List KernelRecord)
    (same-jobs : (i : ℕ) → i < n → job_at jobs i ≡ job_at jobs' i) (same : (i : ℕ) → i < n → kernel_at a i ≡ kernel_at b i)
  where
    ok_same : (rule : KernelRule) (i : ℕ) → i < n → kernel_ok rule n jobs low high highest a i ≡ kernel_ok rule n jobs' low high highest b i
    ok_same Id i l = ap₂ (λ (x : KernelRecord) (y : Job). eqb x.id y.id) (same i l) (same-jobs i l)
    ok_same Top i l = ap (on_top n highest) (same i l)
    ok_same Shape i l = ap (λ (x : KernelRecord). scheduled low high x.policy x.quantum) (same i l)
    ok_same Sharing i l = prioritised-same n a b (kernel_at a i) same ∙ ap (prioritised n b) (same i l)

-- Tables of k entries, and a count that is cut to k.
module _ (jobs : List Job) (kernels : List KernelRecord) (k n count : ℕ) (size : length jobs ≡ k) (cut : count ≡ min n k) where
  pub ok-table : (rule : KernelRule) (low high : ℕ) (highest : KernelPriority)
      → every (kernel_ok rule count jobs low high highest kernels) count ≡ all_kernels_ok rule (take n jobs) low high highest (take n kernels)
  ok-table rule low high highest =
      let within : (i : ℕ) → i < count → i < n = λ i l. omega arith in
      every-same (kernel_ok rule count jobs low high highest kernels) (kernel_ok rule count (take n jobs) low high highest (take n kernels)) count
      (ok_same count jobs (take n jobs) low high highest kernels (take n kernels)
      (λ i l. sym (get_or-take n jobs i blank_job (within i l))) (λ i l. sym (get_or-take n kernels i blank_kernel (within i l))) rule)
      ∙ ap (λ (m : ℕ). every (kernel_ok rule m (take n jobs) low high highest (take n kernels)) m) (sym (cut-length jobs k n count size cut))
