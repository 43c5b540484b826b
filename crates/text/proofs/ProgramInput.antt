-- The key program reads enough of its input. Assumes nothing.
use Prim.Native.Nat.{ℕ, ◌<◌}
use mathlib.Core.Path.{◌≡◌, sym, ap, ◌∙◌}
use mathlib.Core.List.{List}
use native.Mathlib.Decide.{dec_le}
use native.Mathlib.Omega.{arith}
use lib.ListN.{length, take}
use lib.Seq.{take_all, length-take-le}
use borrow.Author.Tests.{le-leb, lt-leb}
use Rattle.text.specs.Keys.{refused_text, key_of, program_key, program_reads}

-- A block of more than 64 bytes is refused for its size.
too_long : (block : List ℕ) (low high : ℕ) → 64 < length block → key_of block low high ≡ refused_text 1
unfolding key_of
too_long block low high h = simp (le-leb 1 (length block) (omega arith), lt-leb (length block) 64 h)

-- Whatever comes after the bytes that are read, the key is that of the whole input.
pub read-enough : (input : List ℕ) → program_key (take program_reads input) ≡ program_key input
read-enough input = elim (dec_le (length input) program_reads) [
  | yes h ↦ ap program_key (take_all program_reads input h)
  | no h ↦
      let long : length (take program_reads input) ≡ program_reads = length-take-le program_reads input (omega arith) in
      too_long (take program_reads input) 1 4 (omega arith) ∙ sym (too_long input 1 4 (omega arith))
]
