-- What a configuration of a list of jobs and a range is: what refusals 7 to 10 let by; and whether it is full, refusal 11 (01). Assumes
-- nothing.
use Rattle.std.specs.Prelude.{ℕ, List, [], ◌∷◌, Bool, not, ◌&&◌, ◌||◌, leb, ltb, eqb, length}
use Rattle.sets.specs.Places.{every, count}
use Rattle.records.specs.Refusals.{Tests, Accepts}
use Rattle.records.specs.Jobs.{job_at}
use Rattle.records.specs.declared.job.Job.{Job}
use Rattle.configuration.specs.declared.setting.Setting.{Setting}
use Rattle.configuration.specs.declared.judge.SettingRule.{SettingRule}
use Rattle.configuration.specs.declared.judge.SettingRule.TheVariants.{Id, Shape, Sharing, Placed}
use Rattle.configuration.specs.Settings.{not_placed, fifo, round_robin, setting_at, level_at}

-- ---- refusal 9: the three shapes

-- "Policy 0 is not placed (level 0, quantum 0)."
abbrev pub is_not_placed : Setting → Bool
is_not_placed setting = eqb setting.policy not_placed && eqb setting.level 0 && eqb setting.quantum 0

-- "Policy 1 is sched_fifo (quantum 0)."
abbrev pub is_fifo : ℕ → ℕ → Bool
is_fifo policy quantum = eqb policy fifo && eqb quantum 0

-- "Policy 2 is sched_rr (quantum from the lowest to the highest permitted)."
abbrev pub is_round_robin : ℕ → ℕ → ℕ → ℕ → Bool
is_round_robin low high policy quantum = eqb policy round_robin && leb low quantum && leb quantum high

-- What is asked of a placed job besides its level: one of the two policies, with its quantum. Kernel records have no level, and are asked
-- this alone (02, E5).
unfoldable pub scheduled : ℕ → ℕ → ℕ → ℕ → Bool
scheduled low high policy quantum = is_fifo policy quantum || is_round_robin low high policy quantum

-- "A placed job's level is 1 to n, n being the number of jobs."
unfoldable pub placed_level : ℕ → ℕ → Bool
placed_level n level = leb 1 level && leb level n

-- The record has one of the three shapes.
unfoldable pub shaped : ℕ → ℕ → ℕ → Setting → Bool
shaped n low high setting = is_not_placed setting || (placed_level n setting.level && scheduled low high setting.policy setting.quantum)

-- ---- refusal 10: who shares a level

abbrev pub on_level : List Setting → ℕ → ℕ → Bool
on_level settings level i = eqb (level_at settings i) level

-- The number of the first n jobs on a level.
abbrev pub sharing : ℕ → List Setting → ℕ → ℕ
sharing n settings level = count n (on_level settings level)

-- A policy 1 job is alone, a policy 2 job is not; `jobs` is the number of jobs where it stands, itself included.
unfoldable pub may_share : ℕ → ℕ → Bool
may_share policy jobs = (not (eqb policy fifo) || eqb jobs 1) && (not (eqb policy round_robin) || leb 2 jobs)

abbrev pub levelled : ℕ → List Setting → Setting → Bool
levelled n settings setting = may_share setting.policy (sharing n settings setting.level)

-- ---- refusal 11: who is placed

abbrev pub is_placed : List Setting → ℕ → Bool
is_placed settings i = ltb not_placed (setting_at settings i).policy

-- "A configuration is full if each job is placed."
abbrev pub full : List Job → List Setting → Bool
full jobs settings = every (is_placed settings) (length jobs)

-- ---- refusals 7 to 11

-- What a rule asks of the setting at place i; refusal 8: the ids are the jobs' ids in order.
abbrev pub setting_ok : SettingRule → ℕ → List Job → ℕ → ℕ → List Setting → ℕ → Bool
setting_ok Id n jobs low high settings i = eqb (setting_at settings i).id (job_at jobs i).id
setting_ok Shape n jobs low high settings i = shaped n low high (setting_at settings i)
setting_ok Sharing n jobs low high settings i = levelled n settings (setting_at settings i)
setting_ok Placed n jobs low high settings i = is_placed settings i

-- The rule holds of the setting of each job of a list.
abbrev pub all_ok : SettingRule → List Job → ℕ → ℕ → List Setting → Bool
all_ok rule jobs low high settings = every (setting_ok rule (length jobs) jobs low high settings) (length jobs)

-- Refusals 8, 9 and 10 of settings for a list of jobs.
abbrev pub setting_tests : List Job → ℕ → ℕ → List Setting → Tests
setting_tests jobs low high settings =
    (all_ok Id jobs low high settings, 8) ∷ (all_ok Shape jobs low high settings, 9) ∷ (all_ok Sharing jobs low high settings, 10) ∷ []

-- Refusals 7 to 10 of a list of settings for a list of jobs.
abbrev pub configuration_tests : List Job → ℕ → ℕ → List Setting → Tests
configuration_tests jobs low high settings = (eqb (length settings) (length jobs), 7) ∷ setting_tests jobs low high settings

-- "A configuration of a list is any that refusals 7 to 10 let by for that list and range."
abbrev pub Configuration : List Job → ℕ → ℕ → List Setting → Type 0
Configuration jobs low high settings = Accepts (configuration_tests jobs low high settings)

-- Refusal 11 of a configuration.
abbrev pub full_tests : List Job → List Setting → Tests
full_tests jobs settings = (full jobs settings, 11) ∷ []
