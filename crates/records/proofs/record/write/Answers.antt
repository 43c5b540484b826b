use Prim.Native.Nat.{ℕ, ◌*◌, ◌-◌, ◌+◌}
use mathlib.Core.Path.{◌≡◌, ap, ◌∙◌}
use mathlib.Core.List.{◌++◌}
use native.Mathlib.Omega.{arith}
use native.Mathlib.Nat.{mul-suc, mul-zero}
use native.Mathlib.Numerals.{add-one}
use borrow.Rule.Slice.PartMut.{put_mid}
use lib.ListN.{length, take, drop}
use lib.Seq.{take_all}
use Rattle.records.specs.Records.{flat}
use Rattle.records.proofs.FixedWidth.{write-on, has-no-room, has-room}
use Rattle.records.proofs.record.write.Goals as goal

pub returns-then-output-records : goal.returns-then-output-records
returns-then-output-records g c =
    has-no-room g.row.SIZE g.R.ToRecord.bytes c.args.records.now c.args.output.now g.met.R.ToRecord.sized c.if-output-records.true

pub loop-i-init : goal.loop-i-init
unfolding flat
loop-i-init g c = rw mul-zero

pub loop-i-preserved : goal.loop-i-preserved
loop-i-preserved g c =
    let l = c.loop-i in
    let w : ℕ = g.row.SIZE in
    let step : w * (l.i + 1) ≡ w * l.i + w = rw (add-one l.i, mul-suc w l.i) in
    let put : c.copy_from_slice.new.self ≡ g.R.ToRecord.bytes c.index-records-i.result = c.copy_from_slice.ensures.after ∙ c.to_bytes.ensures in
    ap (put_mid (w * l.i) (w * (l.i + 1) - w * l.i) l.output) (put ∙ ap g.R.ToRecord.bytes c.index-records-i.is)
    ∙ write-on g.R.ToRecord.bytes w g.met.R.ToRecord.width l.i c.args.records.now c.index-records-i.result c.args.output.now l.output _ c.loop-i-test.true l.invariant (omega (arith, step))

pub returns : goal.returns
returns g c =
    let l = c.loop-i in
    let a = c.args in
    let w : ℕ = g.row.SIZE in
    let n : ℕ = length a.records.now in
    let e : l.i ≡ n = omega arith in
    has-room w g.R.ToRecord.bytes a.records.now a.output.now g.met.R.ToRecord.sized c.if-output-records.false l.output
    (l.invariant ∙ ap (λ (k : ℕ). flat g.R.ToRecord.bytes (take k a.records.now) ++ drop (w * k) a.output.now) e ∙ rw (take_all n a.records.now (omega arith)))
