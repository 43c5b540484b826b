use Prim.Native.Nat.{ℕ}
use mathlib.Core.Path.{◌≡◌, sym, ap, ◌∙◌}
use mathlib.Core.Bool.{Bool, cond}
use mathlib.Core.List.{[], ◌∷◌}
use native.Mathlib.Omega.{arith}
use Rattle.writing.specs.Templates.{filled}
use Rattle.writing.proofs.Writing.{then, retold, widened}
use Rattle.marking.specs.Marks.{none_over, fails_line}
use borrow.Author.Rules.{rules}
use Rattle.marking.proofs.put_verdict.Goals as goal
use Rattle.marking.proofs.put_verdict.Goals.{After-none_zero}

-- What the code asked is whether none of the n bounds is 0.
passing : (c : After-none_zero) → let a = c.args in c.none_zero.result ≡ none_over a.n a.bounds
passing c = let a = c.args in c.none_zero.ensures ∙ ap (λ (k : ℕ). none_over k a.bounds) (omega (arith, c.requires))

pub returns-then-none_zero : goal.returns-then-none_zero
unfolding filled
returns-then-none_zero c =
    let a = c.args in
    retold (widened 230 (c.put_template.ensures.wrote (search rules)) (omega arith)) (sym (ap (λ (b : Bool). cond b (112 ∷ 97 ∷ 115 ∷ 115 ∷ 101 ∷ 115 ∷ 10 ∷ []) (fails_line a.n a.jobs a.bounds)) (sym (passing (goal.at.returns-then-none_zero c).After-none_zero) ∙ c.if-none_zero.true)))

pub returns : goal.returns
unfolding filled
returns c =
    let a = c.args in
    let fails = c.put_template-after_word.ensures.wrote (search rules) in
    let ids = c.put_overs-after_jobs.ensures in
    retold (then fails (then ids (c.put_template-2.ensures.wrote (omega (arith, fails.next, fails.short, ids.next, ids.short)))))
    (sym (ap (λ (b : Bool). cond b (112 ∷ 97 ∷ 115 ∷ 115 ∷ 101 ∷ 115 ∷ 10 ∷ []) (fails_line a.n a.jobs a.bounds)) (sym (passing (goal.at.returns c).After-none_zero) ∙ c.if-none_zero.false)))
