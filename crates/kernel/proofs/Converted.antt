-- Converting full configurations and kernel records into each other: "Converting a full accepted configuration there and back gives it
-- again, and equally the other way" (02, E5), over lists of records. Assumes nothing.
use Prim.Native.Nat.{ℕ, ◌+◌, ◌≤◌, ◌<◌}
use mathlib.Core.Path.{◌≡◌, sym, ap, subst, ◌∙◌}
use mathlib.Core.Bool.{true, false≢true}
use mathlib.Core.Logic.{◌≢◌, ◌↔◌}
use mathlib.Core.List.{List, map}
use native.Mathlib.Decide.{ℕ_discrete}
use native.Mathlib.Omega.{arith}
use lib.Dec.{eqb}
use lib.ListN.{length, length-map}
use borrow.Author.Tests.{eq-eqb, ne_eqb, eqb-true, ltb-true, lt-ltb}
use Rattle.sets.proofs.Places.{every-at, every_of, every-same, count_same}
use Rattle.records.specs.Limits.{most_jobs}
use Rattle.records.specs.Refusals.{Accepts}
use Rattle.records.specs.Jobs.{job_at}
use Rattle.records.specs.declared.job.Job.{Job}
use Rattle.records.proofs.Mapped.{map_at, map_back}
use Rattle.configuration.specs.declared.setting.Setting.{Setting}
use Rattle.configuration.specs.declared.judge.SettingRule.TheVariants.{Id as SettingId, Shape as SettingShape, Sharing as SettingSharing}
use Rattle.configuration.specs.Settings.{not_placed, blank_setting, setting_at, level_at}
use Rattle.configuration.specs.Configuration.{scheduled, on_level, may_share, levelled, is_placed, full, all_ok, setting_tests, Configuration}
use Rattle.configuration.specs.Shape.{Shape as ShapeOf, unplaced, alone, shared}
use Rattle.configuration.proofs.Policies.{of-level, scheduled-other, shaped_on}
use Rattle.configuration.proofs.Shapes.{shapes}
use Rattle.kernel.specs.declared.priority.KernelPriority.{KernelPriority}
use Rattle.kernel.specs.declared.record.KernelRecord.{KernelRecord}
use Rattle.kernel.specs.declared.judge.KernelRule.TheVariants.{Id, Top, Shape, Sharing}
use Rattle.kernel.specs.KernelRecords.{blank_kernel, kernel_at, priority_at, to_kernel_record, to_setting}
use Rattle.kernel.specs.KernelConfiguration.{on_top, on_priority, prioritised, kernel_ok, all_kernels_ok, kernel_tests, KernelConfiguration}
use Rattle.kernel.specs.Promises.{SameLayers}
use Rattle.kernel.proofs.Opposite.{level-back, priority-top, priority-back, level-within}
use Rattle.kernel.proofs.Tops.{top_placed, top_of, of-top}

-- A setting of a placed job of n.
pub record Placed (n : ℕ) (setting : Setting) : Type 0 where
  pub policy : setting.policy ≢ not_placed
  pub first : 1 ≤ setting.level
  pub last : setting.level ≤ n

-- One priority belongs to one level, and the smaller level has the greater priority.
module _ (n : ℕ) (highest : KernelPriority) (fits : n ≤ highest.0 + 1) (a b : Setting) (pa : Placed n a) (pb : Placed n b) where
  abbrev x : ℕ
  x = (to_kernel_record highest a).priority.0

  abbrev y : ℕ
  y = (to_kernel_record highest b).priority.0

  same-priority : (a.level ≡ b.level) ↔ (x ≡ y)
  same-priority =
      let la = pa.first in
      let ma = pa.last in
      let lb = pb.first in
      let mb = pb.last in
      (λ e. omega (arith, e), λ e. omega (arith, e, la, ma, lb, mb, fits))

  greater-priority : (a.level < b.level) ↔ (y < x)
  greater-priority =
      let la = pa.first in
      let ma = pa.last in
      let lb = pb.first in
      let mb = pb.last in
      (λ e. omega (arith, e, la, ma, lb, mb, fits), λ e. omega (arith, e, la, ma, lb, mb, fits))

  priority-same : eqb x y ≡ eqb a.level b.level
  priority-same = elim (ℕ_discrete a.level b.level) [
    | yes e ↦ eq-eqb x y (same-priority.0 e) ∙ sym (eq-eqb _ _ e)
    | no e ↦ ne_eqb x y (λ z. e (same-priority.1 z)) ∙ sym (ne_eqb _ _ e)
  ]

-- ---- the tests of settings and of their kernel records, of placed jobs

module _ (jobs : List Job) (low high : ℕ) (highest : KernelPriority) (fits : length jobs ≤ highest.0 + 1) (settings : List Setting) (kernels : List KernelRecord)
    (placed : (i : ℕ) → i < length jobs → Placed (length jobs) (setting_at settings i))
    (same : (i : ℕ) → i < length jobs → kernel_at kernels i ≡ to_kernel_record highest (setting_at settings i))
  where
    abbrev n : ℕ
    n = length jobs

    sharing-same : (i : ℕ) → i < n → prioritised n kernels (kernel_at kernels i) ≡ levelled n settings (setting_at settings i)
    sharing-same i l =
        let k = to_kernel_record highest (setting_at settings i) in
        ap (prioritised n kernels) (same i l)
        ∙ ap (may_share k.policy)
        (count_same n (on_priority kernels k.priority.0) (on_level settings (level_at settings i))
        (λ j m. ap (λ (x : KernelRecord). eqb x.priority.0 k.priority.0) (same j m) ∙ priority-same n highest fits (setting_at settings j) (setting_at settings i) (placed j m) (placed i l)))

    ids-same : all_kernels_ok Id jobs low high highest kernels ≡ all_ok SettingId jobs low high settings
    ids-same = every-same _ _ n (λ i l. ap (λ (x : KernelRecord). eqb x.id (job_at jobs i).id) (same i l))

    shapes-same : all_kernels_ok Shape jobs low high highest kernels ≡ all_ok SettingShape jobs low high settings
    shapes-same =
        every-same _ _ n
        (λ i l.
        let p = placed i l in
        ap (λ (x : KernelRecord). scheduled low high x.policy x.quantum) (same i l)
        ∙ sym (shaped_on n low high (setting_at settings i) p.policy (of-level n (level_at settings i) p.first p.last)))

    sharings-same : all_kernels_ok Sharing jobs low high highest kernels ≡ all_ok SettingSharing jobs low high settings
    sharings-same = every-same _ _ n sharing-same

    tops-hold : all_kernels_ok Top jobs low high highest kernels ≡ true
    tops-hold =
        every_of _ n
        (λ i l.
        let p = placed i l in
        let k = to_kernel_record highest (setting_at settings i) in
        let last = p.last in
        let t = priority-top highest (record { 0 = level_at settings i }) p.first (omega (arith, last, fits)) n last in
        ap (on_top n highest) (same i l) ∙ top_placed n highest k p.policy ∙ of-top n highest k.priority t.0 t.1)

    tests-there : Accepts (setting_tests jobs low high settings) → Accepts (kernel_tests jobs low high highest kernels)
    tests-there ok = (ids-same ∙ ok.0, (tops-hold, (shapes-same ∙ ok.1.0, (sharings-same ∙ ok.1.1.0, tt))))

    tests-back : Accepts (kernel_tests jobs low high highest kernels) → Accepts (setting_tests jobs low high settings)
    tests-back ok = (sym ids-same ∙ ok.0, (sym shapes-same ∙ ok.1.1.0, (sym sharings-same ∙ ok.1.1.1.0, tt)))

    layers-same : SameLayers n settings kernels
    layers-same = record {
      shared = λ i j il jl.
          let e = same-priority n highest fits (setting_at settings i) (setting_at settings j) (placed i il) (placed j jl) in
          let si = ap (λ (x : KernelRecord). x.priority.0) (same i il) in
          let sj = ap (λ (x : KernelRecord). x.priority.0) (same j jl) in
          (λ z. si ∙ e.0 z ∙ sym sj, λ z. e.1 (sym si ∙ z ∙ sj));
      above = λ i j il jl.
          let e = greater-priority n highest fits (setting_at settings i) (setting_at settings j) (placed i il) (placed j jl) in
          let si = ap (λ (x : KernelRecord). x.priority.0) (same i il) in
          let sj = ap (λ (x : KernelRecord). x.priority.0) (same j jl) in
          (λ z. let g = e.0 z in omega (arith, g, si, sj), λ z. e.1 (omega (arith, z, si, sj)));
    }

-- ---- there

-- A full configuration whose jobs have a priority each.
module _ (jobs : List Job) (low high : ℕ) (highest : KernelPriority) (fits : length jobs ≤ highest.0 + 1) (few : length jobs ≤ most_jobs) (settings : List Setting)
    (c : Configuration jobs low high settings) (all : full jobs settings ≡ true)
  where
    long : length settings ≡ length jobs
    long = eqb-true _ _ c.0

    placed-there : (i : ℕ) → i < length jobs → Placed (length jobs) (setting_at settings i)
    placed-there i l = go ((shapes jobs low high settings c).shape i l)
      where
        on : 0 < (setting_at settings i).policy
        on = ltb-true _ _ (every-at (is_placed settings) (length jobs) all i l)

        go : ShapeOf (length jobs) low high settings i → Placed (length jobs) (setting_at settings i)
        go (unplaced p v q) = absurd (omega (arith, on))
        go (alone p a b q u) = record { policy = λ z. omega arith; first = a; last = b }
        go (shared p a b q r j jl x y) = record { policy = λ z. omega arith; first = a; last = b }

    same-there : (i : ℕ) → i < length jobs → kernel_at (map (to_kernel_record highest) settings) i ≡ to_kernel_record highest (setting_at settings i)
    same-there i l = map_at (to_kernel_record highest) settings blank_setting blank_kernel i (omega (arith, long))

    -- Its kernel records are accepted, ..
    pub there-accepted : KernelConfiguration jobs low high highest (map (to_kernel_record highest) settings)
    there-accepted = (
      eq-eqb _ _ (length-map settings (to_kernel_record highest) ∙ long),
      tests-there jobs low high highest fits settings (map (to_kernel_record highest) settings) placed-there same-there c.1,
    )

    -- .. converted back they are the configuration, ..
    pub there_and_back : map (to_setting highest) (map (to_kernel_record highest) settings) ≡ settings
    there_and_back = map_back (to_kernel_record highest) (to_setting highest) settings blank_setting (λ i l. back i (omega (arith, long)))
      where
        back : (i : ℕ) → i < length jobs → to_setting highest (to_kernel_record highest (setting_at settings i)) ≡ setting_at settings i
        back i l =
            let s = setting_at settings i in
            let p = placed-there i l in
            let last = p.last in
            ap (λ (v : ℕ). record { id = s.id; level = v; policy = s.policy; quantum = s.quantum })
            (level-back highest (record { 0 = s.level }) p.first (omega (arith, last, fits)) (omega (arith, last, few)))

    -- .. and the layers are the same.
    pub there-layers : SameLayers (length jobs) settings (map (to_kernel_record highest) settings)
    there-layers = layers-same jobs low high highest fits settings (map (to_kernel_record highest) settings) placed-there same-there

-- ---- back

-- Accepted kernel records.
module _ (jobs : List Job) (low high : ℕ) (highest : KernelPriority) (fits : length jobs ≤ highest.0 + 1) (few : length jobs ≤ most_jobs) (kernels : List KernelRecord)
    (c : KernelConfiguration jobs low high highest kernels)
  where
    abbrev settings-back : List Setting
    settings-back = map (to_setting highest) kernels

    long-back : length kernels ≡ length jobs
    long-back = eqb-true _ _ c.0

    -- Of policy 1 or 2, since policy 0 always gets 9.
    not-unplaced : (i : ℕ) → i < length jobs → (kernel_at kernels i).policy ≢ not_placed
    not-unplaced i l p =
        let k = kernel_at kernels i in
        false≢true (sym (scheduled-other low high k.policy k.quantum (λ z. omega arith) (λ z. omega arith)) ∙ every-at (kernel_ok Shape (length jobs) jobs low high highest kernels) (length jobs) c.1.1.1.0 i l)

    top-at : (i : ℕ) → i < length jobs → (priority_at kernels i ≤ highest.0) × (highest.0 < priority_at kernels i + length jobs)
    top-at i l =
        let k = kernel_at kernels i in
        top_of (length jobs) highest k.priority
        (sym (top_placed (length jobs) highest k (not-unplaced i l)) ∙ every-at (kernel_ok Top (length jobs) jobs low high highest kernels) (length jobs) c.1.1.0 i l)

    setting-is : (i : ℕ) → i < length jobs → setting_at settings-back i ≡ to_setting highest (kernel_at kernels i)
    setting-is i l = map_at (to_setting highest) kernels blank_kernel blank_setting i (omega (arith, long-back))

    placed-back : (i : ℕ) → i < length jobs → Placed (length jobs) (setting_at settings-back i)
    placed-back i l =
        let k = kernel_at kernels i in
        let t = top-at i l in
        let w = level-within highest k.priority t.0 (length jobs) t.1 (omega (arith, few)) in
        subst (Placed (length jobs)) (sym (setting-is i l)) (record { policy = not-unplaced i l; first = w.0; last = w.1 })

    kernel-again : (i : ℕ) → i < length jobs → to_kernel_record highest (to_setting highest (kernel_at kernels i)) ≡ kernel_at kernels i
    kernel-again i l =
        let k = kernel_at kernels i in
        let t = top-at i l in
        ap (λ (p : ℕ). record { id = k.id; policy = k.policy; priority = record { 0 = p }; quantum = k.quantum })
        (priority-back highest k.priority t.0 (length jobs) t.1 (omega (arith, few)))

    same_back : (i : ℕ) → i < length jobs → kernel_at kernels i ≡ to_kernel_record highest (setting_at settings-back i)
    same_back i l = sym (ap (to_kernel_record highest) (setting-is i l) ∙ kernel-again i l)

    -- Their settings are a configuration, ..
    pub back-accepted : Configuration jobs low high settings-back
    back-accepted = (
      eq-eqb _ _ (length-map kernels (to_setting highest) ∙ long-back),
      tests-back jobs low high highest fits settings-back kernels placed-back same_back c.1,
    )

    -- .. a full one, ..
    pub back_full : full jobs settings-back ≡ true
    back_full = every_of (is_placed settings-back) (length jobs) (λ i l. lt-ltb 0 (setting_at settings-back i).policy (let p = (placed-back i l).policy in omega (arith, p)))

    -- .. converted there they are the kernel records, ..
    pub back-and-there : map (to_kernel_record highest) settings-back ≡ kernels
    back-and-there = map_back (to_setting highest) (to_kernel_record highest) kernels blank_kernel (λ i l. kernel-again i (omega (arith, long-back)))

    -- .. and the layers are the same.
    pub back-layers : SameLayers (length jobs) settings-back kernels
    back-layers = layers-same jobs low high highest fits settings-back kernels placed-back same_back
