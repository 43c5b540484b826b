-- A hand-in after its call: what marking a configuration block comes to where the call is turned down, and for the jobs and the range that
-- it hands on where it is not. Assumes nothing.
use Prim.Native.Nat.{ℕ}
use mathlib.Core.Path.{◌≡◌, sym, ap₂, ◌∙◌}
use mathlib.Core.Bool.{Bool}
use mathlib.Core.List.{List, ◌++◌}
use lib.ListN.{length}
use Rattle.records.specs.Refusals.{Answer, Tests, outcome, answer, turned}
use Rattle.std.specs.Prelude.{Result, Ok, Err}
use Rattle.records.specs.Jobs.{job_list, listed}
use Rattle.records.specs.Calls.{asked, call_tests, question}
use Rattle.records.specs.declared.job.Job.{Job}
use Rattle.records.specs.declared.range.Range.{Range}
use Rattle.records.specs.declared.call.Call.{Call}
use Rattle.records.specs.declared.refusal.Refusal.{Refusal}
use Rattle.records.proofs.Asking.{call-knows, call-turned, call-on}
use Rattle.configuration.specs.declared.setting.Setting.{Setting}
use Rattle.configuration.specs.Blocks.{settings_of}
use Rattle.marker.specs.Bounds.{passes}
use Rattle.marker.specs.Marks.{marked, mark_hand_in_tests, mark_hand_in}

-- `more` are the tests between the range and the configuration, judged by then.
module _ (jobs : List ℕ) (low high : ℕ) (more : Tests) (asking : Result Call Refusal) (asks : asked asking ≡ answer (call_tests jobs low high ++ more) (question jobs low high)) (configuration output : List ℕ) where
  abbrev settings : List Setting
  settings = settings_of jobs configuration

  abbrev later : Tests
  later = mark_hand_in_tests (job_list jobs) low high configuration (length output)

  abbrev passed : Bool
  passed = passes (job_list jobs) settings

  abbrev new : List ℕ
  new = marked (job_list jobs) settings output

  abbrev whole : Answer Bool × List ℕ
  whole = outcome ((call_tests jobs low high ++ more) ++ later) passed new output

  pub mark-turned : (refusal : Refusal) → asking ≡ Err refusal → turned refusal output ≡ whole
  mark-turned refusal e = call-turned jobs low high more asking asks later passed new output refusal e

  pub mark_on : (call : Call) → asking ≡ Ok call → mark_hand_in (listed call.jobs) call.range.low call.range.high configuration output ≡ whole
  unfolding mark_hand_in
  mark_on call e =
      let known = (call-knows jobs low high more asking asks call e).1 in
      ap₂ (λ (l : List Job) (x : Range). mark_hand_in l x.low x.high configuration output) known.list known.range
      ∙ sym (call-on jobs low high more asking asks later passed new output call e)
