-- The loops of the code over the places of a table. Assumes nothing.
use mathlib.Core.Path.{◌≡◌, refl, ◌∙◌, ap}
use mathlib.Core.Bool.{Bool, true, false, not, ◌&&◌}
use mathlib.Core.List.{List}
use Prim.Native.Nat.{ℕ, ◌-◌, ◌*◌, ◌^◌, ◌≤◌, ◌<◌, min}
use native.Mathlib.Nat.{mul-le-mul}
use native.Mathlib.Omega.{arith}
use lib.Dec.{leb}
use lib.ListN.{length}
use borrow.Author.Tests.{lt-ltb}
use Rattle.sets.specs.Sets.{Set, has, rest, Collects}
use Rattle.sets.proofs.Places.{over-same}
use Rattle.sets.proofs.Members.{has_rest}
use Rattle.records.specs.Limits.{most_jobs}
use Rattle.records.specs.Jobs.{job_at}
use Rattle.records.specs.declared.job.Job.{Job}
use Rattle.finishes.specs.Finishes.{whole, load, spare_of, delays_of, most_carried, carried, short_of, long_of}
use Rattle.finishes.specs.declared.capacity.Table.{Table}

-- ---- the set above in two parts

module _ (jobs : List Job) (above all long short longest : ℕ)
    (collects : Collects most_jobs (λ i. leb (job_at jobs i).period longest) all) (el : long ≡ rest above all) (es : short ≡ rest above long) where
  pub long-part : (i : ℕ) → i < most_jobs → has long i ≡ long_of jobs (has above) longest i
  long-part i l =
      let test : has all i ≡ leb (job_at jobs i).period longest =
      collects i ∙ ap (λ (b : Bool). b && leb (job_at jobs i).period longest) (lt-ltb i most_jobs l) in
      ap (λ (x : ℕ). has x i) el ∙ has_rest i above all ∙ ap (λ (b : Bool). has above i && not b) test

  pub short-part : (i : ℕ) → i < most_jobs → has short i ≡ short_of jobs (has above) longest i
  short-part i l =
      ap (λ (x : ℕ). has x i) es ∙ has_rest i above long ∙ ap (λ (b : Bool). has above i && not b) (long-part i l)
      ∙ rest_of (has above i) (leb (job_at jobs i).period longest)
    where
      rest_of : (a b : Bool) → (a && not (a && not b)) ≡ (a && b)
      rest_of true true = refl
      rest_of true false = refl
      rest_of false b = refl

pub spare-same : (utilisations : List ℕ) (a b : Set) → ((i : ℕ) → i < length utilisations → a i ≡ b i) → spare_of utilisations a ≡ spare_of utilisations b
unfolding spare_of load
spare-same utilisations a b h = ap (λ (x : ℕ). whole - x) (over-same (length utilisations) a b _ _ h (λ i l e. refl))

pub carried_same : (w : Table) (a b : Set) → ((i : ℕ) → i < length w.jobs → a i ≡ b i) → carried w a ≡ carried w b
unfolding delays_of
carried_same w a b h = ap (λ (x : ℕ). min x most_carried) (over-same (length w.jobs) a b _ _ h (λ i l e. refl))

-- The product of a quotient and a 16-bit number.
pub product_lt : (x y : ℕ) → x < 2 ^ 23 → y < 2 ^ 16 → x * y < 2 ^ 39
product_lt x y hx hy = let m : x * y ≤ 8388607 * 65535 = mul-le-mul {n₂ = 8388607} {m₂ = 65535} (omega arith) (omega arith) in omega arith
