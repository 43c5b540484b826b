use Prim.Native.Nat.{◌/◌, ◌%◌}
use mathlib.Core.Path.{◌≡◌, refl}
use native.Mathlib.Omega.{arith}
use Rattle.records.specs.Records.{word_bytes}
use Rattle.records.proofs.record.U16ToRecord2.to_bytes.Goals as goal

pub returns : goal.returns
unfolding word_bytes
returns c =
    let high : c.args.self / 256 % 256 ≡ c.args.self / 256 = omega (arith, c.ranges.self.fits) in
    rw (c.to_be_bytes.ensures, high) refl
