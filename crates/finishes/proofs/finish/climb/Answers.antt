use Prim.Native.Nat.{ℕ, suc, ◌+◌, ◌*◌, ◌/◌, max}
use mathlib.Core.Path.{◌≡◌, sym, ◌∙◌, ap, ap₂}
use native.Mathlib.Omega.{arith}
use Rattle.sets.specs.Sets.{has}
use Rattle.response.specs.Demand.{interference}
use Rattle.finishes.specs.Finishes.{whole, climb}
use Rattle.finishes.proofs.Climbing.{loop-past, loop-found, loop-falls, loop-rises}
use Rattle.finishes.proofs.finish.climb.Invariants.{demand, estimate}
use Rattle.finishes.proofs.finish.climb.Goals as goal
use Rattle.finishes.proofs.finish.climb.Goals.{After-works_of-works}

-- In a turn: the demand at t, and the part of it with long periods.
module _ (c : After-works_of-works) where
  abbrev t : ℕ
  t = c.loop-t.t

  abbrev f : ℕ → ℕ
  f = let a = c.args in demand a.jobs a.long a.short a.own

  abbrev g : ℕ → ℕ
  g = let a = c.args in estimate a.jobs a.long a.spare a.carry a.own

  part : c.args.own + c.works_of-works.result.long ≡ c.args.own + interference c.args.jobs (has c.args.long) t
  part = ap (λ (x : ℕ). c.args.own + x) c.works_of-works.ensures.0

  next : c.args.own + c.works_of-works.result.long + c.works_of-works.result.short ≡ f t
  next = ap₂ (λ (x y : ℕ). x + y) part c.works_of-works.ensures.1

pub returns-then-next-t-2 : goal.returns-then-next-t-2
returns-then-next-t-2 c =
    let l = c.loop-t in
    let h = c.loop-t-test.true in
    (sym (l.invariant.0 ∙ loop-found (f (goal.at.returns-then-next-t-2 c).After-works_of-works) (g (goal.at.returns-then-next-t-2 c).After-works_of-works) _ (omega (arith, h)) (sym (next (goal.at.returns-then-next-t-2 c).After-works_of-works) ∙ c.if-next-t-2.true)), omega (arith, h), λ e. l.invariant.1)

pub returns-then-next-t : goal.returns-then-next-t
returns-then-next-t c =
    let l = c.loop-t in
    (sym (l.invariant.0 ∙ loop-falls (f (goal.at.returns-then-next-t c).After-works_of-works) (g (goal.at.returns-then-next-t c).After-works_of-works) _ (omega (arith, c.loop-t-test.true)) (omega (arith, next (goal.at.returns-then-next-t c).After-works_of-works, c.if-next-t.true)) (λ e. c.if-next-t-2.false (next (goal.at.returns-then-next-t c).After-works_of-works ∙ e))), omega arith, λ e. absurd (omega arith))

pub loop-t-preserved : goal.loop-t-preserved
loop-t-preserved c =
    let l = c.loop-t in
    let a = c.args in
    let moved : c.max-t.result ≡ max (f (goal.at.loop-t-preserved c).After-works_of-works (t (goal.at.loop-t-preserved c).After-works_of-works)) (g (goal.at.loop-t-preserved c).After-works_of-works (t (goal.at.loop-t-preserved c).After-works_of-works)) = c.max-t.ensures ∙ ap₂ max (next (goal.at.loop-t-preserved c).After-works_of-works) (ap (λ (x : ℕ). (x * whole + a.carry) / a.spare) (part (goal.at.loop-t-preserved c).After-works_of-works)) in (
      l.invariant.0
          ∙ loop-rises (f (goal.at.loop-t-preserved c).After-works_of-works) (g (goal.at.loop-t-preserved c).After-works_of-works) _ (omega (arith, c.loop-t-test.true)) (omega (arith, next (goal.at.loop-t-preserved c).After-works_of-works, c.if-next-t.false))
          ∙ sym (ap (climb (f (goal.at.loop-t-preserved c).After-works_of-works) (g (goal.at.loop-t-preserved c).After-works_of-works) a.limit (suc a.limit)) moved),
      omega (arith, c.max-t.ensures, c.if-next-t.false, l.invariant.1),
    )

pub returns : goal.returns
returns c =
    (sym (c.loop-t.invariant.0 ∙ loop-past _ _ _ (omega (arith, c.loop-t-test.false))), omega arith, λ e. absurd (omega arith))
