use mathlib.Core.Path.{◌≡◌, refl, sym, ap, ap₂, ◌∙◌}
use mathlib.Core.Bool.{Bool, true, false, ◌&&◌}
use mathlib.Core.List.{[]}
use mathlib.Core.Logic.{inl, inr}
use Prim.Native.Nat.{ℕ, ◌<◌, ◌%◌}
use native.Mathlib.Omega.{arith}
use lib.ListN.{length, length-append}
use borrow.Author.Tests.{not-true, not-false}
use Rattle.std.specs.Iterator.Adapters.{zip_first, zip_second}
use Rattle.std.specs.Slice.Iter.{chunks_exact_rest}
use Rattle.same_bytes.specs.Same.{same_bytes, same_between}
use Rattle.same_bytes.proofs.Equality.{same-exactly, same-split}
use Rattle.same_bytes.proofs.Parts.{part, part_length, whole-parts, parts-next, no-parts, between_none, between-part}
use borrow.Author.Rules.{rules}
use Rattle.same_bytes.proofs.same_parts.Goals as goal
use Rattle.same_bytes.proofs.same_parts.Goals.{In-Some, After-same_records}

-- The next parts have one length, that of a part.
long : (c : In-Some) → (length c.in-Some.x.now ≡ c.args.size) × (length c.in-Some.y.now ≡ c.args.size)
long c = (c.in-Some.ensures.steps.0.1.1 ∙ c.loop-x.invariant.0, c.in-Some.ensures.steps.1.1.1 ∙ c.loop-x.invariant.1)

-- All parts left are the same if the next are and those after them.
split : (c : After-same_records) (same : Bool) → c.same_records.result ≡ same → let a = c.args in
    same_between a.a.now a.b.now a.from a.end ≡ same && same_bytes (chunks_exact_rest (zip_first c.next.new.self)) (chunks_exact_rest (zip_second c.next.new.self))
split c same e =
    let size = long (goal.at.After-same_records c).In-Some in
    let xs = chunks_exact_rest (zip_first c.next.new.self) in
    let ys = chunks_exact_rest (zip_second c.next.new.self) in
    c.loop-x.invariant.4 ∙ ap₂ same_bytes c.in-Some.ensures.steps.0.1.0 c.in-Some.ensures.steps.1.1.0
    ∙ same-split c.in-Some.x.now c.in-Some.y.now xs ys (size.0 ∙ sym size.1) ∙ ap (λ (t : Bool). t && same_bytes xs ys) (sym c.same_records.ensures ∙ e)

pub returns-then-from-end : goal.returns-then-from-end
returns-then-from-end c =
    let a = c.args in
    sym (sym (ap (same_between a.a.now a.b.now a.from) (search rules)) ∙ between_none a.a.now a.b.now a.from)

pub loop-x-init : goal.loop-x-init
loop-x-init c =
    let s = c.args in
    let a : chunks_exact_rest (zip_first c.into_iter-x-iterator.result) ≡ part s.from s.end s.a.now = search rules in
    let b : chunks_exact_rest (zip_second c.into_iter-x-iterator.result) ≡ part s.from s.end s.b.now = search rules in
    let within = c.requires.1 in
    let long-a = ap length a ∙ part_length s.from s.end s.a.now within.in-a in
    let long-b = ap length b ∙ part_length s.from s.end s.b.now within.in_b in (
      search rules,
      search rules,
      long-a ∙ sym long-b,
      ap (λ (n : ℕ). n % s.size) long-a ∙ whole-parts s.size s.from s.end within.ordered within.starts within.ends,
      sym (ap₂ same_bytes a b ∙ between-part s.a.now s.b.now s.from s.end within.in-a within.in_b),
    )

pub returns-then-not-same_records : goal.returns-then-not-same_records
returns-then-not-same_records c =
    sym (split (goal.at.returns-then-not-same_records c).After-same_records false (not-true _ c.if-not-same_records.true-raw))

pub loop-x-preserved : goal.loop-x-preserved
loop-x-preserved c =
    let i = c.loop-x.invariant in
    let a = c.in-Some.ensures.steps.0 in
    let b = c.in-Some.ensures.steps.1 in
    let size = long (goal.at.loop-x-preserved c).In-Some in
    let sum-x = ap length a.1.0 ∙ length-append c.in-Some.x.now _ in
    let sum-y = ap length b.1.0 ∙ length-append c.in-Some.y.now _ in (
      a.0 ∙ i.0,
      b.0 ∙ i.1,
      omega (arith, i.2, sum-x, sum-y, size),
      parts-next c.args.size _ c.in-Some.x.now _ a.1.0 size.0 i.3,
      split (goal.at.loop-x-preserved c).After-same_records true (not-false _ c.if-not-same_records.false-raw),
    )

pub returns : goal.returns
returns c =
    let i = c.loop-x.invariant in
    let xs = chunks_exact_rest (zip_first c.loop-x.x-iterator) in
    let ys = chunks_exact_rest (zip_second c.loop-x.x-iterator) in
    let less : length xs < c.args.size = elim c.in-None.ensures.steps [ inl u ↦ omega (arith, u.1.1.0, i.0) | inr u ↦ omega (arith, u.1.1.0, i.1, i.2) ] in
    let none-x : xs ≡ [] = no-parts c.args.size xs less i.3 in
    let none-y : ys ≡ [] = no-parts c.args.size ys (omega (arith, less, i.2)) (ap (λ (n : ℕ). n % c.args.size) (sym i.2) ∙ i.3) in
    sym (i.4 ∙ ap₂ same_bytes none-x none-y ∙ (same-exactly [] []).1 refl)
