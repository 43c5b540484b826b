use mathlib.Core.Path.{refl}
use Rattle.kernel.specs.KernelRecords.{kernel_bytes}
use Rattle.kernel.proofs.record.KernelRecordToRecordKernelRecordSIZE.to_bytes.Goals as goal

pub returns : goal.returns
unfolding kernel_bytes
returns c = refl
