-- One kernel record: its width, and its round trips. Assumes nothing.
use Prim.Native.Nat.{ℕ, suc, ◌*◌, ◌≤◌}
use mathlib.Core.Path.{◌≡◌, refl, ◌∙◌}
use mathlib.Core.List.{List, ◌++◌}
use native.Mathlib.Omega.{arith}
use lib.ListN.{length, take, drop, length-drop}
use lib.Seq.{take_all}
use Rattle.kernel.specs.RecordLaws.{kernel-width}
use Rattle.records.specs.Records.{flat}
use Rattle.records.proofs.FixedWidth.{spell, chunks-flat, flat-chunks}
use Rattle.kernel.specs.declared.record.KernelRecord.{KernelRecord}
use Rattle.kernel.specs.KernelRecords.{kernel_size, kernel_of, kernel_bytes, kernels_in}

kernel-back : (kernel : KernelRecord) (s : List ℕ) → kernel_of (kernel_bytes kernel ++ s) ≡ kernel
unfolding kernel_bytes
kernel-back kernel s = refl

kernel-again : (n : ℕ) (s : List ℕ) → kernel_size * suc n ≤ length s
    → (kernel_bytes (kernel_of s) ≡ take kernel_size s) × (kernel_size * n ≤ length (drop kernel_size s))
unfolding kernel_bytes
kernel-again n s h =
    let long : kernel_size ≤ length s = omega arith in
    (rw (spell kernel_size 0 s long), simp length-drop (omega arith))

-- What was written is read back.
pub kernels-back : (kernels : List KernelRecord) → kernels_in (length kernels) (flat kernel_bytes kernels) ≡ kernels
kernels-back kernels = chunks-flat kernel_size kernel_bytes kernel_of kernel-width kernel-back kernels

-- What was read is written again as it stood.
pub kernels-again : (n : ℕ) (s : List ℕ) → length s ≡ kernel_size * n → flat kernel_bytes (kernels_in n s) ≡ s
kernels-again n s h =
    let l : kernel_size * n ≤ length s = omega arith in
    flat-chunks kernel_size kernel_bytes kernel_of (λ k t. kernel_size * k ≤ length t) kernel-again n s l ∙ take_all (kernel_size * n) s (omega arith)
