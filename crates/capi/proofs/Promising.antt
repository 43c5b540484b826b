-- The promises of the entries, of the words that stand for their answers. Assumes nothing.
use Prim.Native.Nat.{ℕ, ◌+◌, ◌*◌, ◌/◌, ◌%◌, ◌<◌}
use mathlib.Core.Path.{◌≡◌, refl, sym, ap, ap₂, subst, ◌∙◌}
use mathlib.Core.List.{List}
use native.Mathlib.Omega.{arith}
use Rattle.std.specs.Prelude.{Bool, Result, Ok, Err}
use Rattle.records.specs.Refusals.{Answer, refused, given, verdict}
use Rattle.records.specs.declared.refusal.Refusal.{Refusal}
use Rattle.records.proofs.Outcomes.{number-byte}
use Rattle.kernel.specs.Promises.{ToKernelPromise, FromKernelPromise}
use Rattle.limits.specs.Boxes.{gate_limits}
use Rattle.limits.specs.Limited.{Limited}
use Rattle.limits.proofs.Limiting.{limited-as}
use Rattle.marker.specs.Marks.{mark_answer}
use Rattle.breakdown.specs.Promises.{BreakdownPromise}
use Rattle.planner.specs.declared.Planned.{Planned}
use Rattle.planner.specs.Plans.{plan_answer, answered, HeldIn, Promise}
use Rattle.planner.proofs.Holding.{told-byte}
use Rattle.gate.specs.Promises.{PlanWithinPromise, MarkWithinPromise}
use Rattle.gate.proofs.Promising.{as-mats}
use Rattle.capi.specs.Words.{word, in_words, no_value, truth_value, plan_value}
use Rattle.capi.specs.Promises.{WordPromise, GatePlanWord, GateMarkWord, BreakdownWord, priority, ToKernelWord, FromKernelWord}
use Rattle.capi.proofs.Worded.{worded}

-- What is said of outcomes beside the mats' holds of words.
limited-words : (jobs : List ℕ) (low high : ℕ) {A B : Type 0} (value : A → ℕ) {w : ℕ} {a : Answer A} {b old : B} {mats : Answer A × B} → w ≡ word value a
    → Limited gate_limits jobs low high (a, b) mats (refused 15, old) → Limited gate_limits jobs low high (w, b) (in_words value mats) (15, old)
limited-words jobs low high {A} {B} value {w} {a} {b} {old} {mats} e l =
    subst (λ (x : ℕ). Limited gate_limits jobs low high (x, b) (in_words value mats) (15, old)) (sym e)
    (limited-as gate_limits jobs low high (in_words value) (a, b) mats (refused 15, old) l)

module _ (jobs : List ℕ) (low high : ℕ) (configuration bounds : List ℕ) (after : List ℕ × List ℕ) (w : ℕ) where
  -- The bytes of the word are the two values.
  held : (a : Result Planned Refusal) → ((told : ℕ × ℕ) → plan_answer a ≡ given told → Promise jobs low high configuration bounds (answered a after.0 after.1)) → w ≡ word plan_value (plan_answer a)
      → w % 256 ≡ 0 → HeldIn jobs low high (w / 256 % 256, w / 65536) after
  held (Ok plan) promises e z =
      let placed = plan.placed in
      let considered = plan.considered in
      let promised = promises (placed, considered) refl in
      let small : placed < 256 = told-byte jobs low high configuration bounds _ promised.is (placed, considered) refl in
      let upper : w / 256 ≡ placed + 256 * considered = omega arith in
      let first : w / 256 % 256 ≡ placed = ap (λ (x : ℕ). x % 256) upper ∙ omega arith in
      let second : w / 65536 ≡ considered = omega arith in
      subst (λ (told : ℕ × ℕ). HeldIn jobs low high told after) (sym (ap₂ (λ (x y : ℕ). (x, y)) first second)) (promised.guarantee (placed, considered) refl)
  held (Err refusal) promises e z = absurd (omega (arith, number-byte refusal))

  pub word-promise : (a : Result Planned Refusal) → Promise jobs low high configuration bounds (answered a after.0 after.1) → w ≡ word plan_value (plan_answer a)
      → WordPromise jobs low high configuration bounds w after
  word-promise a promised e = record { is = worded plan_value e promised.is; guarantee = held a (λ told f. promised) e }

  pub gate-plan-word : (a : Result Planned Refusal) → PlanWithinPromise gate_limits jobs low high configuration bounds (answered a after.0 after.1) → w ≡ word plan_value (plan_answer a)
      → GatePlanWord jobs low high configuration bounds w after
  gate-plan-word a promised e = record {
    is = worded plan_value e promised.is;
    limited = limited-words jobs low high plan_value e promised.limited;
    guarantee = held a (as-mats gate_limits jobs low high configuration bounds _ promised.is) e;
  }

pub gate-mark-word : (jobs : List ℕ) (low high : ℕ) (configuration output after : List ℕ) (a : Result Bool Refusal) (w : ℕ) → w ≡ word truth_value (mark_answer a)
    → MarkWithinPromise gate_limits jobs low high configuration output (mark_answer a, after) → GateMarkWord jobs low high configuration output w after
gate-mark-word jobs low high configuration output after a w e promised =
    record { is = worded truth_value e promised.is; limited = limited-words jobs low high truth_value e promised.limited }

-- A word of 0 is no refusal.
done : (v : Result (Unit {0}) Refusal) (w : ℕ) → w ≡ word no_value (verdict v) → w ≡ 0 → verdict v ≡ given tt
done (Ok u) w e z = refl
done (Err refusal) w e z = absurd (omega (arith, number-byte refusal))

pub breakdown-word : (jobs : List ℕ) (low high : ℕ) (configuration output after : List ℕ) (v : Result (Unit {0}) Refusal) (w : ℕ) → w ≡ word no_value (verdict v)
    → BreakdownPromise jobs low high configuration output (verdict v, after) → BreakdownWord jobs low high configuration output w after
breakdown-word jobs low high configuration output after v w e promised = record {
  is = worded no_value e promised.is;
  held = λ z. promised.held (done v w e z);
  bounds = λ z room h. ap (in_words no_value) (promised.bounds (done v w e z) room h);
}

module _ (jobs : List ℕ) (low high lowest highest : ℕ) (block output after : List ℕ) (v : Result (Unit {0}) Refusal) (w : ℕ) (e : w ≡ word no_value (verdict v)) where
  pub to-kernel-word : ToKernelPromise jobs low high (priority lowest) (priority highest) block output (verdict v, after) → ToKernelWord jobs low high lowest highest block output w after
  to-kernel-word promised = record { is = worded no_value e promised.is; back = λ z. promised.back (done v w e z) }

  pub from-kernel-word : FromKernelPromise jobs low high (priority lowest) (priority highest) block output (verdict v, after) → FromKernelWord jobs low high lowest highest block output w after
  from-kernel-word promised = record { is = worded no_value e promised.is; there = λ z. promised.there (done v w e z) }
