use Prim.Native.Nat.{ℕ, ◌*◌, ◌^◌, ◌≤◌, ◌<◌, min}
use mathlib.Core.Path.{◌≡◌, sym, ◌∙◌, ap}
use native.Mathlib.Nat.{mul-le-mul}
use native.Mathlib.Omega.{arith}
use lib.ListN.{length, get_or}
use mir.Val.{Fits}
use mir.Syntax.{w32}
use Rattle.sets.specs.Places.{sum_over}
use Rattle.sets.specs.Sets.{has}
use Rattle.sets.proofs.Places.{over_none, over-in, over-out}
use Rattle.records.specs.Limits.{most_jobs}
use Rattle.records.specs.Jobs.{job_at}
use Rattle.finishes.specs.Finishes.{load, spare_of, delays_of, most_carried}
use borrow.Author.Rules.{rules}
use Rattle.finishes.proofs.capacity.Table.capacity_of.Goals as goal
use Rattle.finishes.proofs.capacity.Table.capacity_of.Goals.{After-loop-i, then-contains, else-contains}

pub loop-i-init : goal.loop-i-init
loop-i-init c = (sym (over_none _ _), sym (over_none _ _), omega arith, omega arith)

carry-fits : (delay parts : ℕ) → delay < 2 ^ 8 → parts < 2 ^ 32 → delay * parts ≤ 2 ^ 40
carry-fits delay parts hd hs = let m : delay * parts ≤ 255 * 4294967295 = mul-le-mul {n₂ = 255} {m₂ = 4294967295} (omega arith) (omega arith) in omega arith

pub loop-i-preserved : goal.loop-i-preserved
loop-i-preserved c =
    let a = c.args in
    let l = c.loop-i in
    let f : ℕ → ℕ = λ k. get_or a.self.utilisations k 0 in
    let g : ℕ → ℕ = λ k. (job_at a.self.jobs k).delay * get_or a.self.utilisations k 0 in
    let s : Fits w32 (get_or a.self.utilisations l.i 0) = search rules in
    elim c.if-contains.branch [
      | then-contains w ↦ (let fits = carry-fits (job_at a.self.jobs l.i).delay (get_or a.self.utilisations l.i 0) (search rules) (omega arith) in
          (w.taken-is ∙ omega (arith, over-in l.i (has a.set) f c.contains.ensures w.if-contains.true, l.invariant.0), w.carry-is ∙ omega (arith, over-in l.i (has a.set) g c.contains.ensures w.if-contains.true, l.invariant.1), omega (arith, w.taken-is, l.invariant.2), omega (arith, w.carry-is, l.invariant.3, fits)))
      | else-contains w ↦ (w.taken-is ∙ omega (arith, over-out l.i (has a.set) f c.contains.ensures w.if-contains.false, l.invariant.0), w.carry-is ∙ omega (arith, over-out l.i (has a.set) g c.contains.ensures w.if-contains.false, l.invariant.1), omega (arith, w.taken-is, l.invariant.2), omega (arith, w.carry-is, l.invariant.3))
    ]

-- After the loop: both sums.
module _ (c : After-loop-i) where
  sums : let a = c.args in let l = c.loop-i in
      (l.taken ≡ load a.self.utilisations (has a.set)) × (l.carry ≡ delays_of a.self (has a.set))
  unfolding load delays_of
  sums =
      let a = c.args in
      let l = c.loop-i in
      let eight : length a.self.jobs ≡ most_jobs = search rules in
      let as_many : length a.self.utilisations ≡ most_jobs = search rules in
      let e : l.i ≡ length a.self.jobs = omega arith in
      let o : l.i ≡ length a.self.utilisations = omega arith in (
        l.invariant.0 ∙ ap (λ (n : ℕ). sum_over n (has a.set) (λ k. get_or a.self.utilisations k 0)) o,
        l.invariant.1 ∙ ap (λ (n : ℕ). sum_over n (has a.set) (λ k. (job_at a.self.jobs k).delay * get_or a.self.utilisations k 0)) e,
      )

pub returns : goal.returns
unfolding spare_of
returns c =
    let v = sums (goal.at.returns c).After-loop-i in
    (omega (arith, v.0, c.saturating_sub.ensures), omega (arith, c.saturating_sub.ensures), c.min.ensures ∙ ap (λ (x : ℕ). min x most_carried) v.1)
