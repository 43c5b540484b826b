-- The sum of the other quanta of a layer. Assumes nothing.
use mathlib.Core.Path.{◌≡◌, refl, ◌∙◌, ap}
use mathlib.Core.Bool.{not, ◌&&◌}
use mathlib.Core.List.{List}
use Prim.Native.Nat.{ℕ}
use lib.Dec.{eqb}
use lib.ListN.{get_or}
use Rattle.sets.specs.Places.{sum_over}
use Rattle.sets.specs.Sets.{has, remove}
use Rattle.sets.proofs.Places.{over-same}
use Rattle.sets.proofs.Members.{has-others}
use Rattle.records.specs.Limits.{most_jobs}
use Rattle.response.specs.Demand.{other_quanta}

-- The other quanta of a layer are those of the layer without the job.
pub others-removed : (k layer others : ℕ) (quanta : List ℕ) → others ≡ remove layer k
    → sum_over most_jobs (has others) (λ i. get_or quanta i 0) ≡ other_quanta most_jobs quanta (has layer) k
unfolding other_quanta
others-removed k layer others quanta e =
    over-same most_jobs (has others) (λ i. has layer i && not (eqb i k)) _ _ (λ i l. ap (λ (x : ℕ). has x i) e ∙ has-others layer k i l) (λ i l x. refl)
