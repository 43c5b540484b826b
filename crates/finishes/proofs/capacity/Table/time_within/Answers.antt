use Prim.Native.Nat.{ℕ, suc, ◌+◌, ◌-◌, ◌≤◌, ◌<◌, max}
use mathlib.Core.Path.{◌≡◌, sym, ◌∙◌, ap}
use native.Mathlib.Omega.{arith}
use Rattle.sets.specs.Sets.{has}
use Rattle.response.specs.Demand.{interference}
use Rattle.finishes.specs.Finishes.{steps, plain_steps, far_time, time_from}
use Rattle.finishes.proofs.Climbing.{loop-past, loop-found, loop-falls, steps-none, steps-past, steps-end, steps_on, time-idle, time-full, time-start}
use Rattle.finishes.proofs.capacity.Table.time_within.Goals as goal
use Rattle.finishes.proofs.capacity.Table.time_within.Goals.{After-interference, then-own-ne0+else-left-eq0, else-own-ne0}

pub returns-then-left-eq0 : goal.returns-then-left-eq0
returns-then-left-eq0 c =
    let a = c.args in
    (sym (time-full a.self (has a.above) a.left.spare a.left.carry a.own a.limit a.before c.if-own-ne0.true c.if-left-eq0.true), omega arith, λ e. absurd (omega arith))

pub loop-init : goal.loop-init
unfolding time_from
loop-init c =
    let l = c.max-t in
    let a = c.args in
    let w = a.self in
    let start : ℕ → ℕ = time_from w (has a.above) a.own a.limit in (
      elim c.if-own-ne0.branch [ then-own-ne0+else-left-eq0 v ↦ time-start w (has a.above) a.left.spare a.left.carry a.own a.limit a.before v.if-own-ne0.true v.if-left-eq0.false ∙ sym (ap start (l.ensures ∙ ap (λ (x : ℕ). max x a.before) v.t-is)) | else-own-ne0 v ↦ time-idle w (has a.above) a.left.spare a.left.carry a.own a.limit a.before v.if-own-ne0.false ∙ sym (ap start (l.ensures ∙ ap (λ (x : ℕ). max x a.before) v.t-is)) ],
      omega (arith, l.ensures),
    )

pub returns-then-late-t : goal.returns-then-late-t
unfolding far_time
returns-then-late-t c =
    let l = c.loop in
    let a = c.args in
    let f : ℕ → ℕ = λ x. a.own + interference a.self.jobs (has a.above) x in
    let past : a.limit < l.t = omega (arith, c.if-late-t.true) in
    (sym (l.invariant.0 ∙ ap (far_time a.self (has a.above) a.own a.limit) (steps-past f a.limit (plain_steps - l.counter) past) ∙ loop-past f _ a.limit past), omega arith, λ e. absurd (omega arith))

-- In a turn: the demand at t.
module _ (c : After-interference) where
  abbrev t : ℕ
  t = c.loop.t

  abbrev limit : ℕ
  limit = c.args.limit

  abbrev f : ℕ → ℕ
  f x = let a = c.args in a.own + interference a.self.jobs (has a.above) x

  abbrev far : ℕ → ℕ
  far = let a = c.args in far_time a.self (has a.above) a.own a.limit

  next : c.args.own + c.interference.result ≡ f t
  next = ap (λ (x : ℕ). c.args.own + x) c.interference.ensures.0

  reach : t ≤ limit
  reach = omega (arith, c.if-late-t.false)

pub returns-then-next-t-2 : goal.returns-then-next-t-2
unfolding far_time
returns-then-next-t-2 c =
    let l = c.loop in
    let e : f (goal.at.returns-then-next-t-2 c).After-interference (t (goal.at.returns-then-next-t-2 c).After-interference) ≡ t (goal.at.returns-then-next-t-2 c).After-interference = sym (next (goal.at.returns-then-next-t-2 c).After-interference) ∙ c.if-next-t-2.true in
    (sym (l.invariant.0 ∙ ap (far (goal.at.returns-then-next-t-2 c).After-interference) (steps-end (f (goal.at.returns-then-next-t-2 c).After-interference) (limit (goal.at.returns-then-next-t-2 c).After-interference) (plain_steps - l.counter) (omega arith)) ∙ loop-found (f (goal.at.returns-then-next-t-2 c).After-interference) _ (limit (goal.at.returns-then-next-t-2 c).After-interference) (reach (goal.at.returns-then-next-t-2 c).After-interference) e), reach (goal.at.returns-then-next-t-2 c).After-interference, λ q. l.invariant.1)

pub returns-then-next-t : goal.returns-then-next-t
unfolding far_time
returns-then-next-t c =
    let l = c.loop in
    let h : f (goal.at.returns-then-next-t c).After-interference (t (goal.at.returns-then-next-t c).After-interference) ≤ t (goal.at.returns-then-next-t c).After-interference = omega (arith, next (goal.at.returns-then-next-t c).After-interference, c.if-next-t.true) in
    (sym (l.invariant.0 ∙ ap (far (goal.at.returns-then-next-t c).After-interference) (steps-end (f (goal.at.returns-then-next-t c).After-interference) (limit (goal.at.returns-then-next-t c).After-interference) (plain_steps - l.counter) h) ∙ loop-falls (f (goal.at.returns-then-next-t c).After-interference) _ (limit (goal.at.returns-then-next-t c).After-interference) (reach (goal.at.returns-then-next-t c).After-interference) h (λ e. c.if-next-t-2.false (next (goal.at.returns-then-next-t c).After-interference ∙ e))), omega arith, λ e. absurd (omega arith))

pub loop-preserved : goal.loop-preserved
loop-preserved c =
    let l = c.loop in
    let left : plain_steps - l.counter ≡ suc (plain_steps - (l.counter + 1)) = omega (arith, c.loop-test.true) in
    let up : t (goal.at.loop-preserved c).After-interference < f (goal.at.loop-preserved c).After-interference (t (goal.at.loop-preserved c).After-interference) = omega (arith, next (goal.at.loop-preserved c).After-interference, c.if-next-t.false) in (
      l.invariant.0
          ∙ ap (far (goal.at.loop-preserved c).After-interference)
          (ap (λ (n : ℕ). steps (f (goal.at.loop-preserved c).After-interference) (limit (goal.at.loop-preserved c).After-interference) n (t (goal.at.loop-preserved c).After-interference)) left ∙ steps_on (f (goal.at.loop-preserved c).After-interference) (limit (goal.at.loop-preserved c).After-interference) (plain_steps - (l.counter + 1)) (reach (goal.at.loop-preserved c).After-interference) up
          ∙ sym (ap (steps (f (goal.at.loop-preserved c).After-interference) (limit (goal.at.loop-preserved c).After-interference) (plain_steps - (l.counter + 1))) (next (goal.at.loop-preserved c).After-interference))),
      omega (arith, next (goal.at.loop-preserved c).After-interference, l.invariant.1),
    )

pub returns : goal.returns
returns c =
    let l = c.loop in
    let a = c.args in
    let f : ℕ → ℕ = λ x. a.own + interference a.self.jobs (has a.above) x in
    let none : plain_steps - l.counter ≡ 0 = omega (arith, c.loop-test.false) in
    let found : c.far_time.result ≡ far_time a.self (has a.above) a.own a.limit l.t = c.far_time.ensures.0 in (
      found
          ∙ sym (l.invariant.0 ∙ ap (far_time a.self (has a.above) a.own a.limit) (ap (λ (n : ℕ). steps f a.limit n l.t) none ∙ steps-none f a.limit l.t)),
      c.far_time.ensures.1,
      λ e. omega (arith, l.invariant.1, c.far_time.ensures.2 e),
    )
