use Prim.Native.Nat.{ℕ, ◌*◌, ◌^◌, ◌<◌}
use mathlib.Core.Path.{ap}
use native.Mathlib.Omega.{arith}
use mir.Val.{Fits}
use mir.Syntax.{w8}
use Rattle.response.specs.Demand.{work}
use Rattle.finishes.proofs.Loops.{product_lt}
use borrow.Author.Rules.{rules}
use Rattle.finishes.proofs.demand.work.Goals as goal
use Rattle.finishes.proofs.demand.work.Goals.{After-ceil_div}

quotient : (c : After-ceil_div) → c.ceil_div.result < 2 ^ 23
quotient c = let h : Fits w8 c.args.job.delay = search rules in omega (arith, c.ceil_div.ensures.1, c.requires, h)

pub returns : goal.returns
unfolding work
returns c =
    let a = c.args in
    let d = c.ceil_div in
    (ap (λ (x : ℕ). x * a.job.cost) d.ensures.0, product_lt d.result a.job.cost (quotient (goal.at.returns c).After-ceil_div) (search rules))
