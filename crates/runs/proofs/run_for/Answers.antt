use Prim.Native.Nat.{ℕ}
use mathlib.Core.Path.{◌≡◌, sym, ◌∙◌, ap, ap₂}
use Rattle.sets.specs.Sets.{has}
use Rattle.finishes.specs.Finishes.{spare_of}
use Rattle.runs.specs.Runs.{runs_on, largest_by}
use Rattle.runs.proofs.OneRun.{run-stops, run-runs}
use Rattle.runs.proofs.run_for.Goals as goal
use Rattle.runs.proofs.run_for.Goals.{After-runs_on}

-- After the test: what is left of the processor is that of the definition, and so is the test.
runs : (c : After-runs_on) → c.runs_on.result ≡ runs_on (spare_of c.args.table.utilisations (has c.args.above)) c.args.quantum c.args.others c.args.job
runs c = c.runs_on.ensures ∙ ap (λ (spare : ℕ). runs_on spare c.args.quantum c.args.others c.args.job) c.capacity_of-left.ensures.0

pub returns-then-runs_on : goal.returns-then-runs_on
returns-then-runs_on c =
    let a = c.args in
    sym (run-stops a.table (has a.above) a.quantum a.others a.job a.sought (sym (runs (goal.at.returns-then-runs_on c).After-runs_on) ∙ c.if-runs_on.true))

pub returns : goal.returns
returns c =
    let a = c.args in
    let left = c.capacity_of-left in
    let found : c.largest_response.result ≡ largest_by a.table (has a.above) left.result.spare left.result.carry a.quantum a.others a.job a.sought = c.largest_response.ensures in
    found
    ∙ ap₂ (λ (spare carry : ℕ). largest_by a.table (has a.above) spare carry a.quantum a.others a.job a.sought) left.ensures.0 left.ensures.2
    ∙ sym (run-runs a.table (has a.above) a.quantum a.others a.job a.sought (sym (runs (goal.at.returns c).After-runs_on) ∙ c.if-runs_on.false))
