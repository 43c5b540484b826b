use Prim.Native.Nat.{◌%◌}
use mathlib.Core.Path.{◌≡◌}
use mathlib.Core.Bool.{◌&&◌}
use lib.Dec.{eqb}
use lib.ListN.{length}
use Rattle.std.specs.Iterator.Adapters.{zip_first, zip_second}
use Rattle.std.specs.Slice.Iter.{chunks_exact_rest, chunks_exact_size}
use Rattle.records.specs.Records.{AllBytes}
use Rattle.same_bytes.specs.Same.{same_bytes, record_size}
use Rattle.same_bytes.proofs.same_records.Given as goal

-- No difference is gathered and the records left are the same exactly if the blocks are.
abbrev pub invariant-loop-x : goal.invariant-loop-x
invariant-loop-x l =
    let xs = chunks_exact_rest (zip_first l.x-iterator) in
    let ys = chunks_exact_rest (zip_second l.x-iterator) in
    (chunks_exact_size (zip_first l.x-iterator) ≡ record_size) × (chunks_exact_size (zip_second l.x-iterator) ≡ record_size)
    × (length xs ≡ length ys) × (length xs % record_size ≡ 0) × AllBytes xs × AllBytes ys × (same_bytes l.a l.b ≡ eqb l.differences 0 && same_bytes xs ys)
