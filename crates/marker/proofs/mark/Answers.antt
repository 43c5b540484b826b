use mathlib.Core.Path.{◌≡◌, ap, ◌∙◌}
use mathlib.Core.Bool.{Bool, false}
use mathlib.Core.List.{[]}
use Rattle.std.specs.Prelude.{Result, Ok, Err}
use Rattle.std.specs.Result.{result_and}
use Rattle.records.specs.declared.call.Call.{Call}
use Rattle.records.specs.declared.refusal.Refusal.{Refusal}
use Rattle.marker.specs.Marks.{mark_answer, mark_outcome}
use Rattle.marker.proofs.HandingIn.{mark-turned, mark_on}
use Rattle.marker.proofs.mark.Goals as goal

pub returns-in_default : goal.returns-in_default
unfolding mark_outcome
returns-in_default c =
    let a = c.args in
    let turned : c.and.result ≡ Err c.in_default.field-0 = c.and.ensures ∙ ap (λ (x : Result Call Refusal). result_and x (Ok false)) c.in_default.is in
    ap (λ (x : Result Bool Refusal). (mark_answer x, a.output.now)) turned
    ∙ mark-turned a.jobs.now a.low a.high [] c.read_call-asked.result c.read_call-asked.ensures a.configuration.now a.output.now _ c.in_default.is

pub returns : goal.returns
unfolding mark_outcome
returns c =
    let a = c.args in
    c.mark_hand_in.ensures ∙ mark_on a.jobs.now a.low a.high [] c.read_call-asked.result c.read_call-asked.ensures a.configuration.now a.output.now _ c.in-Ok.is
