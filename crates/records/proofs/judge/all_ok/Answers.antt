use Prim.Native.Nat.{ℕ}
use mathlib.Core.Path.{◌≡◌, sym, ap, ◌∙◌}
use native.Mathlib.Omega.{arith}
use lib.Dec.{eqb}
use Rattle.sets.specs.Places.{failing}
use Rattle.sets.proofs.Places.{every-failing}
use Rattle.records.specs.Jobs.{job_ok_at}
use Rattle.records.proofs.judge.all_ok.Goals as goal

pub returns : goal.returns
returns c =
    let a = c.args in
    let same : c.first_faulty.result ≡ failing (job_ok_at a.rule a.table) a.n =
    c.first_faulty.ensures ∙ ap (failing (job_ok_at a.rule a.table)) (omega (arith, c.requires)) in
    ap (λ (k : ℕ). eqb k a.n) same ∙ sym (every-failing (job_ok_at a.rule a.table) a.n)
