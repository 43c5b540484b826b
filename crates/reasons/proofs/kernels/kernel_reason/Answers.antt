use Prim.Native.Nat.{ℕ}
use mathlib.Core.Path.{◌≡◌, sym, ap, ◌∙◌}
use mathlib.Core.Bool.{false}
use native.Mathlib.Omega.{arith}
use lib.Dec.{eqb}
use borrow.Author.Tests.{ne_eqb}
use Rattle.reasons.specs.declared.reason.Sentence.TheVariants.{KernelBytes}
use Rattle.reasons.specs.Reasons.{count_reason, kernel_reason}
use Rattle.reasons.proofs.kernels.kernel_reason.Goals as goal

pub returns-in-7 : goal.returns-in-7
unfolding kernel_reason
returns-in-7 c = rw c.in-7.is (c.count_reason.ensures ∙ ap (count_reason KernelBytes c.args.size) c.at_most.ensures)

pub returns-in-8 : goal.returns-in-8
unfolding kernel_reason
returns-in-8 c = rw c.in-8.is c.kernel_record_reason.ensures

pub returns-in-14 : goal.returns-in-14
unfolding kernel_reason
returns-in-14 c = rw c.in-14.is c.kernel_record_reason-in-14.ensures

pub returns-in-9 : goal.returns-in-9
unfolding kernel_reason
returns-in-9 c = rw c.in-9.is c.kernel_record_reason-in-9.ensures

pub returns-in-10 : goal.returns-in-10
unfolding kernel_reason
returns-in-10 c = rw c.in-10.is c.kernel_record_reason-in-10.ensures

pub returns-in_default : goal.returns-in_default
unfolding kernel_reason
returns-in_default c =
    let other : (k : ℕ) → (c.args.number ≡ k → ⊥) → eqb c.args.number k ≡ false = λ k ne. ne_eqb c.args.number k ne in
    c.unknown.ensures ∙ simp (other 7 (λ e. omega (arith, e)), other 8 (λ e. omega (arith, e)), other 14 (λ e. omega (arith, e)), other 9 (λ e. omega (arith, e)), other 10 (λ e. omega (arith, e)))
