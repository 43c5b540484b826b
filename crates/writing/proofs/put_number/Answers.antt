use Prim.Native.Nat.{◌+◌, ◌≤◌}
use native.Mathlib.Omega.{arith}
use lib.ListN.{length}
use Rattle.lists.specs.Decimals.{decimal}
use Rattle.lists.proofs.Decimal.{decimal-short}
use Rattle.writing.proofs.put_number.Goals as goal

pub put_digits-requires : goal.put_digits-requires
put_digits-requires c =
    let h : c.args.at + length (decimal c.args.n) ≤ length c.args.buffer.now = omega (arith, decimal-short c.args.n c.ranges.n.fits) in
    h
