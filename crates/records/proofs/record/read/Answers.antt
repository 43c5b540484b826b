use Prim.Native.Nat.{ℕ, ◌*◌, ◌/◌, ◌≤◌, min}
use mathlib.Core.Path.{◌≡◌, refl, ap, ◌∙◌}
use mathlib.Core.List.{List, map}
use native.Mathlib.Omega.{arith}
use lib.ListN.{length, take}
use Rattle.records.specs.Limits.{most_jobs}
use Rattle.records.specs.Records.{chunks, table}
use Rattle.records.proofs.FixedWidth.{chunks-parts}
use Rattle.records.proofs.Mapped.{table-on}
use Rattle.records.proofs.record.read.Goals as goal

pub as_chunks-requires : goal.as_chunks-requires
as_chunks-requires g c = (omega (arith, g.met.R.FromRecord.sized.1), g.met.R.FromRecord.sized.0)

pub loop-i-init : goal.loop-i-init
loop-i-init g c = rw c.blank-table.ensures refl

pub loop-i-preserved : goal.loop-i-preserved
loop-i-preserved g c =
    let l = c.loop-i in
    let r = g.R.FromRecord in
    let parts = c.as_chunks.result.0.now in
    table-on r.read r.blank parts most_jobs l.i l.table c.from_bytes.result c.index-parts-i.result (omega arith) (omega arith) l.invariant
    (c.from_bytes.ensures ∙ ap r.read c.index-parts-i.is)

pub returns : goal.returns
returns g c =
    let l = c.loop-i in
    let r = g.R.FromRecord in
    let w : ℕ = g.row.SIZE in
    let s : List ℕ = c.args.block.now in
    let k : ℕ = length s / w in
    let count : l.i ≡ min k most_jobs = omega (arith, c.as_chunks.ensures.front_len, c.at_most-count.ensures) in
    let fits : w * k ≤ length s = omega (arith, g.met.R.FromRecord.sized.0) in
    l.invariant
    ∙ ap (λ (ps : List (List ℕ)). table most_jobs r.blank (map r.read (take l.i ps))) c.as_chunks.ensures.front
    ∙ ap (table most_jobs r.blank) (chunks-parts w r.read g.met.R.FromRecord.own l.i k s (omega arith) fits)
    ∙ ap (λ (n : ℕ). table most_jobs r.blank (chunks w r.read n s)) count
