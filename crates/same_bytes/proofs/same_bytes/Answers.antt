use Prim.Native.Nat.{ℕ, ◌*◌, ◌/◌}
use mathlib.Core.Path.{◌≡◌, sym, ap, ◌∙◌}
use native.Mathlib.Omega.{arith}
use lib.ListN.{length}
use borrow.Author.Tests.{not-true, not-false}
use Rattle.same_bytes.specs.Same.{same_bytes, same_between}
use Rattle.same_bytes.proofs.Equality.{same-lengths}
use Rattle.same_bytes.proofs.Parts.{between_none, between-whole, between-on, whole-off, between-rest}
use borrow.Author.Rules.{rules}
use Rattle.same_bytes.proofs.same_bytes.Goals as goal
use Rattle.same_bytes.proofs.same_bytes.Goals.{Else-not-same_parts-3}

pub returns-then-b-length : goal.returns-then-b-length
returns-then-b-length c = let a = c.args in sym (same-lengths a.a.now a.b.now (λ e. omega arith))

pub returns-then-not-same_parts : goal.returns-then-not-same_parts
returns-then-not-same_parts c =
    let a = c.args in
    sym (whole-off a.a.now a.b.now c.same_parts.ensures (not-true _ c.if-not-same_parts.true-raw) (omega arith) (omega arith) (omega arith))

pub returns-then-not-same_parts-2 : goal.returns-then-not-same_parts-2
returns-then-not-same_parts-2 c =
    let a = c.args in
    sym (whole-off a.a.now a.b.now c.same_parts-2.ensures (not-true _ c.if-not-same_parts-2.true-raw) (omega arith) (omega arith) (omega arith))

pub returns-then-not-same_parts-3 : goal.returns-then-not-same_parts-3
returns-then-not-same_parts-3 c =
    let a = c.args in
    sym (whole-off a.a.now a.b.now c.same_parts-3.ensures (not-true _ c.if-not-same_parts-3.true-raw) (omega arith) (omega arith) (omega arith))

-- Up to the whole records the blocks are the same, so that what is left decides.
left : (c : Else-not-same_parts-3) → let a = c.args.a.now in let b = c.args.b.now in
    same_bytes a b ≡ same_between a b (length a / 4 * 4) (length a)
left c =
    let a = c.args.a.now in
    let b = c.args.b.now in
    between-whole a b (omega arith)
    ∙ between-on a b (length a) c.same_parts.ensures (not-false _ c.if-not-same_parts.false-raw) (omega arith) (omega arith)
    ∙ between-on a b (length a) c.same_parts-2.ensures (not-false _ c.if-not-same_parts-2.false-raw) (omega arith) (omega arith)
    ∙ between-on a b (length a) c.same_parts-3.ensures (not-false _ c.if-not-same_parts-3.false-raw) (omega arith) (omega arith)

pub returns-then-records-length : goal.returns-then-records-length
returns-then-records-length c =
    let a = c.args.a.now in
    let b = c.args.b.now in
    sym (left (goal.at.returns-then-records-length c).Else-not-same_parts-3 ∙ ap (λ (n : ℕ). same_between a b n (length a)) (search rules) ∙ between_none a b (length a))

pub returns : goal.returns
returns c =
    let a = c.args.a.now in
    let b = c.args.b.now in
    sym (left (goal.at.returns c).Else-not-same_parts-3 ∙ sym (c.same_singly.ensures ∙ between-rest a b _ (omega arith)))
