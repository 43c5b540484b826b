-- The line of a job of a marked hand-in, by its bound. Assumes nothing.
use Prim.Native.Nat.{ℕ}
use mathlib.Core.Path.{◌≡◌, sym, ap}
use mathlib.Core.Bool.{Bool, cond}
use mathlib.Core.List.{List, [], ◌∷◌}
use lib.ListN.{get_or}
use borrow.Author.Tests.{eq-eqb, ne_eqb}
use Rattle.records.specs.Jobs.{job_at}
use Rattle.records.specs.declared.job.Job.{Job}
use Rattle.writing.specs.Templates.{filled}
use Rattle.marking.specs.Marks.{mark_line}

module _ (jobs : List Job) (bounds : List ℕ) (k : ℕ) where
  abbrev over : List ℕ → List ℕ
  over numbers = filled (106 ∷ 111 ∷ 98 ∷ 32 ∷ 37 ∷ 58 ∷ 32 ∷ 110 ∷ 111 ∷ 32 ∷ 98 ∷ 111 ∷ 117 ∷ 110 ∷ 100 ∷ 32 ∷ 117 ∷ 112 ∷ 32 ∷ 116 ∷ 111 ∷ 32 ∷ 105 ∷ 116 ∷ 115 ∷ 32 ∷ 100 ∷ 101 ∷ 97 ∷ 100 ∷ 108 ∷ 105 ∷ 110 ∷ 101 ∷ 32 ∷ 37 ∷ 10 ∷ []) numbers

  abbrev within : List ℕ → List ℕ
  within numbers = filled (106 ∷ 111 ∷ 98 ∷ 32 ∷ 37 ∷ 58 ∷ 32 ∷ 98 ∷ 111 ∷ 117 ∷ 110 ∷ 100 ∷ 32 ∷ 37 ∷ 44 ∷ 32 ∷ 100 ∷ 101 ∷ 97 ∷ 100 ∷ 108 ∷ 105 ∷ 110 ∷ 101 ∷ 32 ∷ 37 ∷ 10 ∷ []) numbers

  pub over-line : get_or bounds k 0 ≡ 0 → over ((job_at jobs k).id ∷ (job_at jobs k).deadline ∷ []) ≡ mark_line jobs bounds k
  unfolding filled
  over-line e =
      sym (ap (λ (b : Bool). cond b (over ((job_at jobs k).id ∷ (job_at jobs k).deadline ∷ [])) (within ((job_at jobs k).id ∷ get_or bounds k 0 ∷ (job_at jobs k).deadline ∷ []))) (eq-eqb (get_or bounds k 0) 0 e))

  pub bound-line : (get_or bounds k 0 ≡ 0 → ⊥) → within ((job_at jobs k).id ∷ get_or bounds k 0 ∷ (job_at jobs k).deadline ∷ []) ≡ mark_line jobs bounds k
  unfolding filled
  bound-line e =
      sym (ap (λ (b : Bool). cond b (over ((job_at jobs k).id ∷ (job_at jobs k).deadline ∷ [])) (within ((job_at jobs k).id ∷ get_or bounds k 0 ∷ (job_at jobs k).deadline ∷ []))) (ne_eqb (get_or bounds k 0) 0 e))
