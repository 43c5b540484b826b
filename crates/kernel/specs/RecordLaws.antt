-- What the record traits ask of kernel records: how long their bytes are, and that nothing past them is looked at. Assumes nothing.
use Prim.Native.Nat.{ℕ, ◌≤◌, ◌<◌}
use mathlib.Core.Path.{◌≡◌, refl}
use mathlib.Core.List.{List}
use native.Mathlib.Omega.{arith}
use lib.ListN.{length, get_or, take}
use lib.Seq.{get_or-take}
use Rattle.kernel.specs.KernelRecords.{kernel_size, kernel_of, kernel_bytes}
use Rattle.kernel.specs.declared.record.KernelRecord.{KernelRecord}

pub kernel-width : (kernel : KernelRecord) → length (kernel_bytes kernel) ≡ kernel_size
unfolding kernel_bytes
kernel-width kernel = refl

pub kernel-own : (block : List ℕ) → kernel_size ≤ length block → kernel_of (take kernel_size block) ≡ kernel_of block
kernel-own block h =
    let same : (i : ℕ) → i < kernel_size → get_or (take kernel_size block) i 0 ≡ get_or block i 0 = λ i l. get_or-take kernel_size block i 0 l in
    rw (same 0 (omega arith), same 1 (omega arith), same 2 (omega arith), same 3 (omega arith)) refl
