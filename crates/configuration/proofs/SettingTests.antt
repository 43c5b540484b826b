-- The rules see the first n entries of the tables of jobs and settings as they see those lists. Assumes nothing.
use Prim.Native.Nat.{ℕ, min, ◌<◌}
use mathlib.Core.Path.{◌≡◌, sym, ap, ap₂, ◌∙◌}
use mathlib.Core.List.{List, [], ◌∷◌}
use native.Mathlib.Omega.{arith}
use lib.Dec.{eqb}
use lib.ListN.{length, take}
use lib.Seq.{get_or-take}
use Rattle.sets.specs.Places.{every}
use Rattle.sets.proofs.Places.{every-same, count_same}
use Rattle.records.specs.Jobs.{blank_job, job_at}
use Rattle.records.specs.declared.job.Job.{Job}
use Rattle.records.proofs.FixedWidth.{cut-length}
use Rattle.configuration.specs.declared.setting.Setting.{Setting}
use Rattle.configuration.specs.declared.judge.SettingRule.{SettingRule}
use Rattle.configuration.specs.declared.judge.SettingRule.TheVariants.{Id, Shape, Sharing, Placed}
use Rattle.configuration.specs.Settings.{blank_setting, setting_at}
use Rattle.configuration.specs.Configuration.{shaped, on_level, may_share, levelled, is_placed, setting_ok, all_ok}

levelled-same : (n : ℕ) (a b : List Setting) (setting : Setting) → ((i : ℕ) → i < n → setting_at a i ≡ setting_at b i) → levelled n a setting ≡ levelled n b setting
levelled-same n a b setting same =
    ap (may_share setting.policy)
    (count_same n (on_level a setting.level) (on_level b setting.level) (λ i l. ap (λ (x : Setting). eqb x.level setting.level) (same i l)))

-- The rule at a place, of jobs and settings that are the same at the first n places.
module _ (n : ℕ) (jobs jobs' : List Job) (low high : ℕ) (a b : List Setting)
    (same-jobs : (i : ℕ) → i < n → job_at jobs i ≡ job_at jobs' i) (same : (i : ℕ) → i < n → setting_at a i ≡ setting_at b i)
  where
    ok_same : (rule : SettingRule) (i : ℕ) → i < n → setting_ok rule n jobs low high a i ≡ setting_ok rule n jobs' low high b i
    ok_same Id i l = ap₂ (λ (x : Setting) (y : Job). eqb x.id y.id) (same i l) (same-jobs i l)
    ok_same Shape i l = ap (shaped n low high) (same i l)
    ok_same Sharing i l = levelled-same n a b (setting_at a i) same ∙ ap (levelled n b) (same i l)
    ok_same Placed i l = ap (λ (x : Setting). is_placed (x ∷ []) 0) (same i l)

-- Tables of k entries, and a count that is cut to k.
module _ (jobs : List Job) (settings : List Setting) (k n count : ℕ) (size : length jobs ≡ k) (cut : count ≡ min n k) where
  pub ok-table : (rule : SettingRule) (low high : ℕ) → every (setting_ok rule count jobs low high settings) count ≡ all_ok rule (take n jobs) low high (take n settings)
  ok-table rule low high =
      let within : (i : ℕ) → i < count → i < n = λ i l. omega arith in
      every-same (setting_ok rule count jobs low high settings) (setting_ok rule count (take n jobs) low high (take n settings)) count
      (ok_same count jobs (take n jobs) low high settings (take n settings)
      (λ i l. sym (get_or-take n jobs i blank_job (within i l))) (λ i l. sym (get_or-take n settings i blank_setting (within i l))) rule)
      ∙ ap (λ (m : ℕ). every (setting_ok rule m (take n jobs) low high (take n settings)) m) (sym (cut-length jobs k n count size cut))
