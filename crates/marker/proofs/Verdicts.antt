-- A full configuration passes exactly if no bound is 0, and the marker says so (demand 2's second sentence). Assumes nothing.
use Prim.Native.Nat.{ℕ, ◌<◌}
use mathlib.Core.Path.{◌≡◌, refl, sym, ap, ap₂, ◌∙◌}
use mathlib.Core.Bool.{Bool, true, ◌&&◌, and-eq-true_iff}
use mathlib.Core.List.{List, ◌++◌}
use mathlib.Core.Logic.{◌↔◌}
use native.Mathlib.Omega.{arith}
use lib.ListN.{length}
use borrow.Author.Tests.{ltb-true, lt-ltb}
use Rattle.sets.proofs.Places.{every-at, every_of}
use Rattle.records.specs.Refusals.{Answer, given, Accepts}
use Rattle.records.specs.Jobs.{job_list}
use Rattle.records.specs.Calls.{call_tests}
use Rattle.records.specs.declared.job.Job.{Job}
use Rattle.records.proofs.Outcomes.{accepted, accepts, gives, accepts-first, accepts-second}
use Rattle.configuration.specs.declared.setting.Setting.{Setting}
use Rattle.configuration.specs.Configuration.{full}
use Rattle.configuration.specs.Blocks.{settings_of, hand_in_tests}
use Rattle.configuration.proofs.HandIns.{full-accepted}
use Rattle.marker.specs.Bounds.{bound_at, is_served, passes}
use Rattle.marker.specs.Marks.{bounds_room, marked, mark_tests, mark_outcome}

-- No bound of the list's jobs is 0.
abbrev pub NoneZero : List Job → List Setting → Type 0
NoneZero jobs settings = (k : ℕ) → k < length jobs → bound_at jobs settings k ≡ 0 → ⊥

pub passes-exactly : (jobs : List Job) (settings : List Setting) → full jobs settings ≡ true → (passes jobs settings ≡ true) ↔ NoneZero jobs settings
passes-exactly jobs settings all = (
  λ e k l z.
      let b : 0 < bound_at jobs settings k = ltb-true _ _ (every-at (is_served jobs settings) (length jobs) ((and-eq-true_iff (full jobs settings) _).0 e).1 k l) in
      omega arith,
  λ h. ap₂ ◌&&◌ all (every_of (is_served jobs settings) (length jobs) (λ k l. lt-ltb 0 (bound_at jobs settings k) (let z = h k l in omega (arith, z)))),
)

-- The marker answers "passes" exactly if no refusal applies and no bound is 0.
module _ (jobs : List ℕ) (low high : ℕ) (block output : List ℕ) where
  is-full : Accepts (mark_tests jobs low high block (length output)) → full (job_list jobs) (settings_of jobs block) ≡ true
  is-full ok =
      let list = job_list jobs in
      full-accepted list low high block
      (accepts-first (hand_in_tests list low high block) (bounds_room list (length output))
      (accepts-second (call_tests jobs low high) (hand_in_tests list low high block ++ bounds_room list (length output)) ok))

  pub mark-passes : ((mark_outcome jobs low high block output).0 ≡ given true) ↔ (Accepts (mark_tests jobs low high block (length output)) × NoneZero (job_list jobs) (settings_of jobs block))
  unfolding mark_outcome
  mark-passes =
      let tests = mark_tests jobs low high block (length output) in
      let passed = passes (job_list jobs) (settings_of jobs block) in
      let new = marked (job_list jobs) (settings_of jobs block) output in (
        λ e.
            let ok = accepted passed new output tests true e in
            let g = gives tests passed new output (mark_outcome jobs low high block output) true refl e in
            (ok, (passes-exactly (job_list jobs) (settings_of jobs block) (is-full ok)).0 (sym g.1)),
        λ h.
            ap (λ (x : Answer Bool × List ℕ). x.0) (accepts passed new output tests h.0)
            ∙ ap given ((passes-exactly (job_list jobs) (settings_of jobs block) (is-full h.0)).1 h.1),
      )
