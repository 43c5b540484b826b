use native.Mathlib.Omega.{arith}
use lib.Seq.{sets-eq}
use Rattle.records.specs.Records.{word_bytes, long_bytes}
use Rattle.breakdown.proofs.bytes.put_long.Goals as goal

pub returns : goal.returns
unfolding long_bytes word_bytes
returns c = sets-eq (long_bytes c.args.number) c.args.output.now 0 (omega arith)
