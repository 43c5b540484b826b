use Prim.Native.Nat.{ℕ}
use mathlib.Core.Path.{◌≡◌, sym, ap, ◌∙◌}
use mathlib.Core.Bool.{false}
use native.Mathlib.Omega.{arith}
use lib.Dec.{eqb}
use borrow.Author.Tests.{ne_eqb}
use Rattle.reasons.specs.declared.reason.Sentence.TheVariants.{SettingBytes}
use Rattle.reasons.specs.Reasons.{count_reason, hand_in_reason}
use Rattle.reasons.proofs.hand_in.hand_in_reason.Goals as goal

pub returns-in-7 : goal.returns-in-7
unfolding hand_in_reason
returns-in-7 c = rw c.in-7.is (c.count_reason.ensures ∙ ap (count_reason SettingBytes c.args.size) c.at_most.ensures)

pub returns-in-8 : goal.returns-in-8
unfolding hand_in_reason
returns-in-8 c = rw c.in-8.is c.setting_reason.ensures

pub returns-in-9 : goal.returns-in-9
unfolding hand_in_reason
returns-in-9 c = rw c.in-9.is c.setting_reason-in-9.ensures

pub returns-in-10 : goal.returns-in-10
unfolding hand_in_reason
returns-in-10 c = rw c.in-10.is c.setting_reason-in-10.ensures

pub returns-in-11 : goal.returns-in-11
unfolding hand_in_reason
returns-in-11 c = rw c.in-11.is c.setting_reason-in-11.ensures

pub returns-in_default : goal.returns-in_default
unfolding hand_in_reason
returns-in_default c =
    let other : (k : ℕ) → (c.args.number ≡ k → ⊥) → eqb c.args.number k ≡ false = λ k ne. ne_eqb c.args.number k ne in
    c.unknown.ensures ∙ simp (other 7 (λ e. omega (arith, e)), other 8 (λ e. omega (arith, e)), other 9 (λ e. omega (arith, e)), other 10 (λ e. omega (arith, e)), other 11 (λ e. omega (arith, e)))
