use mathlib.Core.Path.{refl}
use mathlib.Core.List.{[], ◌∷◌}
use Rattle.records.specs.Records.{long_bytes, flat}
use Rattle.records.proofs.FixedWidth.{put-after}
use Rattle.breakdown.specs.Breakdowns.{amounts, parts_bytes}
use Rattle.breakdown.proofs.bytes.put_parts.Goals as goal

pub returns : goal.returns
unfolding parts_bytes
returns c =
    let put = c.put_amounts in
    let head = c.put_head in
    let a = c.args in
    put-after (a.parts.instance ∷ a.parts.which ∷ []) (flat long_bytes (amounts a.parts)) a.output.now 2 20 refl head.new.output head.ensures put.new.output put.ensures
