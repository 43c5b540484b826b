use Prim.Native.Nat.{ℕ, min}
use mathlib.Core.Path.{◌≡◌, refl, ap, ◌∙◌}
use mathlib.Core.List.{List}
use lib.Dec.{ltb}
use lib.ListN.{length, get_or, take}
use Rattle.sets.specs.Places.{every}
use Rattle.records.specs.Limits.{most_jobs}
use Rattle.records.proofs.FixedWidth.{cut-length}
use Rattle.marker.proofs.Configured.{served-table}
use borrow.Author.Rules.{rules}
use Rattle.marker.proofs.table.all_served.Goals as goal

pub returns : goal.returns
returns c =
    let a = c.args in
    let count = min a.n most_jobs in
    let size : length a.jobs ≡ most_jobs = search rules in
    c.none_zero.ensures
    ∙ ap (λ (l : List ℕ). every (λ i. ltb 0 (get_or l i 0)) count) c.bounds_of.ensures
    ∙ served-table (take a.n a.jobs) (take a.n a.settings) count (cut-length a.jobs most_jobs a.n count size refl)
