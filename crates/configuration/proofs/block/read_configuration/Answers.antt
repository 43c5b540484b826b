use mathlib.Core.Path.{sym, ap₂, ◌∙◌}
use mathlib.Core.List.{List, []}
use lib.ListN.{length}
use Rattle.std.proofs.lemmas.Result.{err_from_is_err_and}
use Rattle.records.specs.Jobs.{job_list}
use Rattle.records.specs.declared.job.Job.{Job}
use Rattle.records.specs.declared.range.Range.{Range}
use Rattle.records.proofs.Asking.{call-knows, call-turned, call-on}
use Rattle.configuration.specs.Settings.{setting_table}
use Rattle.configuration.specs.Blocks.{settings_of, record_tests, read_settings, read_configuration}
use Rattle.configuration.proofs.block.read_configuration.Goals as goal

pub returns-in_err-call : goal.returns-in_err-call
unfolding read_configuration
returns-in_err-call c =
    let a = c.args in
    let jobs = a.jobs.now in
    let block = a.configuration.now in
    let p = err_from_is_err_and c.from_residual.result c.from_residual.ensures.1 in
    rw (p.1, p.2)
    (call-turned jobs a.low a.high [] c.read_call.result c.read_call.ensures (record_tests (job_list jobs) a.low a.high block) (length (job_list jobs)) (setting_table (settings_of jobs block)) (setting_table []) _ c.in_err-call.was)

pub returns : goal.returns
unfolding read_settings read_configuration
returns c =
    let a = c.args in
    let jobs = a.jobs.now in
    let block = a.configuration.now in
    let known = (call-knows jobs a.low a.high [] c.read_call.result c.read_call.ensures _ c.in_ok-call.was).1 in
    c.read_settings.ensures
    ∙ ap₂ (λ (l : List Job) (x : Range). read_settings l x.low x.high block) known.list known.range
    ∙ sym (call-on jobs a.low a.high [] c.read_call.result c.read_call.ensures (record_tests (job_list jobs) a.low a.high block) (length (job_list jobs)) (setting_table (settings_of jobs block)) (setting_table []) _ c.in_ok-call.was)
