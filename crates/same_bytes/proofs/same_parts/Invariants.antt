use Prim.Native.Nat.{◌%◌}
use mathlib.Core.Path.{◌≡◌}
use lib.ListN.{length}
use Rattle.std.specs.Iterator.Adapters.{zip_first, zip_second}
use Rattle.std.specs.Slice.Iter.{chunks_exact_rest, chunks_exact_size}
use Rattle.same_bytes.specs.Same.{same_bytes, same_between}
use Rattle.same_bytes.proofs.same_parts.Given as goal

-- The parts left are the same exactly if all are.
abbrev pub invariant-loop-x : goal.invariant-loop-x
invariant-loop-x l =
    let xs = chunks_exact_rest (zip_first l.x-iterator) in
    let ys = chunks_exact_rest (zip_second l.x-iterator) in
    (chunks_exact_size (zip_first l.x-iterator) ≡ l.fn.size) × (chunks_exact_size (zip_second l.x-iterator) ≡ l.fn.size)
    × (length xs ≡ length ys) × (length xs % l.fn.size ≡ 0) × (same_between l.a l.b l.fn.from l.fn.end ≡ same_bytes xs ys)
