-- The lines of job lists, configurations and kernel records, as they are written part after part. Assumes nothing.
use Prim.Native.Nat.{ℕ, zero, suc, ◌≤◌}
use mathlib.Core.Path.{◌≡◌, refl, ap}
use mathlib.Core.List.{List, [], ◌∷◌, ◌++◌, append_assoc}
use native.Mathlib.Omega.{arith}
use Rattle.records.specs.declared.job.Job.{Job}
use Rattle.configuration.specs.declared.setting.Setting.{Setting}
use Rattle.kernel.specs.declared.record.KernelRecord.{KernelRecord}
use Rattle.lists.specs.Decimals.{space, line_feed, decimal}
use Rattle.lists.specs.Lists.{line_text, delay_words, job_text, policy_word, setting_text, kernel_text}
use Rattle.writing.specs.Templates.{filled}

-- The end of the line of a job that has a delay.
pub delay-told : (delay : ℕ) → 1 ≤ delay → space ∷ (decimal delay ++ (line_feed ∷ [])) ≡ line_text [] (delay_words delay)
delay-told zero h = absurd (omega arith)
delay-told (suc delay) h = refl

-- A line is its first word and the end that follows it.
end-apart : (word : List ℕ) (rest : List (List ℕ)) → word ++ line_text [] rest ≡ line_text word rest
end-apart word [] = refl
end-apart word (next ∷ rest) = refl

-- The line of a job is its four numbers and the end with its delay. More numbers than a template takes change nothing, here and below.
pub job-line : (job : Job) (more : List ℕ) → filled (37 ∷ 32 ∷ 37 ∷ 32 ∷ 37 ∷ 32 ∷ 37 ∷ []) (job.id ∷ job.cost ∷ job.period ∷ job.deadline ∷ more) ++ line_text [] (delay_words job.delay) ≡ job_text job
unfolding filled
job-line job more =
    simp append_assoc
    (ap (λ (end : List ℕ). decimal job.id ++ (space ∷ (decimal job.cost ++ (space ∷ (decimal job.period ++ (space ∷ end)))))) (end-apart (decimal job.deadline) (delay_words job.delay)))

-- The line of a setting, and of a kernel record, is what stands before its policy, the policy's word and what stands after it.
pub setting-line : (setting : Setting) (more further : List ℕ) → filled (37 ∷ 32 ∷ 37 ∷ 32 ∷ []) (setting.id ∷ setting.level ∷ more) ++ (policy_word setting.policy ++ filled (32 ∷ 37 ∷ 10 ∷ []) (setting.quantum ∷ further))
    ≡ setting_text setting
unfolding filled
setting-line setting more further = simp append_assoc

pub kernel-line : (kernel : KernelRecord) (more further : List ℕ) → filled (37 ∷ 32 ∷ []) (kernel.id ∷ more) ++ (policy_word kernel.policy ++ filled (32 ∷ 37 ∷ 32 ∷ 37 ∷ 10 ∷ []) (kernel.priority.0 ∷ kernel.quantum ∷ further))
    ≡ kernel_text kernel
unfolding filled
kernel-line kernel more further = simp append_assoc

-- A policy that has no name has its number.
pub policy-number : (policy : ℕ) → (policy ≡ 0 → ⊥) → (policy ≡ 1 → ⊥) → (policy ≡ 2 → ⊥) → decimal policy ≡ policy_word policy
policy-number zero h₀ h₁ h₂ = absurd (h₀ refl)
policy-number (suc zero) h₀ h₁ h₂ = absurd (h₁ refl)
policy-number (suc (suc zero)) h₀ h₁ h₂ = absurd (h₂ refl)
policy-number (suc (suc (suc policy))) h₀ h₁ h₂ = refl
