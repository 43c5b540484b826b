use mathlib.Core.Path.{◌≡◌, refl, sym, ap, ap₂, subst, ◌∙◌}
use mathlib.Core.Bool.{Bool, ◌&&◌, and-true}
use mathlib.Core.List.{List, []}
use mathlib.Core.Logic.{inl, inr}
use Prim.Native.Nat.{ℕ, ◌<◌}
use native.Mathlib.Omega.{arith}
use lib.Dec.{eqb}
use lib.ListN.{length, length-append}
use Rattle.std.specs.Iterator.Adapters.{zip_first, zip_second}
use Rattle.std.specs.Slice.Iter.{chunks_exact_rest}
use Rattle.records.specs.Records.{AllBytes}
use Rattle.same_bytes.specs.Same.{same_bytes, record_size}
use Rattle.same_bytes.proofs.Equality.{same-exactly}
use Rattle.same_bytes.proofs.Parts.{parts-next, no-parts}
use Rattle.same_bytes.proofs.RecordNumbers.{gather-on, next-bytes}
use Rattle.same_bytes.proofs.same_records.Goals as goal

pub loop-x-preserved : goal.loop-x-preserved
loop-x-preserved c =
    let i = c.loop-x.invariant in
    let a = c.in-Some.ensures.steps.0 in
    let b = c.in-Some.ensures.steps.1 in
    let x = c.in-Some.x.now in
    let y = c.in-Some.y.now in
    let xs = chunks_exact_rest (zip_first c.next.new.self) in
    let ys = chunks_exact_rest (zip_second c.next.new.self) in
    let long-x : length x ≡ record_size = a.1.1 ∙ i.0 in
    let long-y : length y ≡ record_size = b.1.1 ∙ i.1 in
    let bytes-x = next-bytes x xs (subst AllBytes a.1.0 i.4) in
    let bytes-y = next-bytes y ys (subst AllBytes b.1.0 i.5) in
    let sum-x = ap length a.1.0 ∙ length-append x xs in
    let sum-y = ap length b.1.0 ∙ length-append y ys in (
      a.0 ∙ i.0,
      b.0 ∙ i.1,
      omega (arith, i.2, sum-x, sum-y, long-x, long-y),
      parts-next record_size xs x _ a.1.0 long-x i.3,
      bytes-x.1,
      bytes-y.1,
      i.6 ∙ ap₂ (λ (r s : List ℕ). eqb c.loop-x.differences 0 && same_bytes r s) a.1.0 b.1.0
          ∙ gather-on x y xs ys c.loop-x.differences _ _ long-x long-y bytes-x.0 bytes-y.0 c.number_of.ensures c.number_of-in-loop-x.ensures,
    )

pub returns : goal.returns
returns c =
    let i = c.loop-x.invariant in
    let xs = chunks_exact_rest (zip_first c.loop-x.x-iterator) in
    let ys = chunks_exact_rest (zip_second c.loop-x.x-iterator) in
    let less : length xs < record_size = elim c.in-None.ensures.steps [ inl u ↦ omega (arith, u.1.1.0, i.0) | inr u ↦ omega (arith, u.1.1.0, i.1, i.2) ] in
    let none-x : xs ≡ [] = no-parts record_size xs less i.3 in
    let none-y : ys ≡ [] = no-parts record_size ys (omega (arith, less, i.2)) (omega (arith, i.2, i.3)) in
    sym (i.6 ∙ ap₂ (λ (r s : List ℕ). eqb c.loop-x.differences 0 && same_bytes r s) none-x none-y ∙ ap (λ (t : Bool). eqb c.loop-x.differences 0 && t) ((same-exactly [] []).1 refl) ∙ and-true _)
