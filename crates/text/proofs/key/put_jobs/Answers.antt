use Prim.Native.Nat.{ℕ, ◌<◌}
use mathlib.Core.Path.{◌≡◌, ap₂, ◌∙◌}
use mathlib.Core.List.{[], ◌∷◌}
use native.Mathlib.Omega.{arith}
use lib.ListN.{length, get_or, take, length-take}
use lib.Seq.{get_or-take}
use Rattle.std.proofs.lemmas.Slice.Zip.{zip_turn}
use Rattle.configuration.specs.declared.setting.Setting.{Setting}
use Rattle.configuration.specs.Settings.{blank_setting}
use Rattle.text.specs.Keys.{job_line}
use Rattle.writing.proofs.Writing.{row-more}
use borrow.Author.Rules.{rules}
use Rattle.text.proofs.key.put_jobs.Goals as goal
use Rattle.text.proofs.key.put_jobs.Goals.{In-Some}

-- Where this turn's setting and bound stand.
turn : (c : In-Some) → let a = c.args in let k = length c.loop-setting.yielded in
    (k < a.n) × (c.in-Some.setting.now ≡ get_or a.settings k blank_setting) × (c.in-Some.bound.now ≡ get_or a.bounds k 0)
turn c =
    let a = c.args in
    let k = length c.loop-setting.yielded in
    let at = zip_turn (take a.n a.settings) a.bounds c.loop-setting.yielded _ c.loop-setting.setting-iterator c.next.new.self c.next.result (search rules) (search rules) c.loop-setting.yielded_by _ c.in-Some.is c.next.ensures.steps in
    let within : k < a.n = omega (arith, at.0, length-take a.n a.settings) in
    (within, at.2 blank_setting ∙ get_or-take a.n a.settings k blank_setting within, at.3 0)

pub loop-setting-preserved : goal.loop-setting-preserved
loop-setting-preserved c =
    let a = c.args in
    let here = turn (goal.at.loop-setting-preserved c).In-Some in
    row-more 100 (job_line a.settings a.bounds) c.loop-setting.yielded _ c.loop-setting.invariant c.put_job-at.ensures
    (ap₂ (λ (s : Setting) (b : ℕ). job_line (s ∷ []) (b ∷ []) 0) here.1 here.2)
