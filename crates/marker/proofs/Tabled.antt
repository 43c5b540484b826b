-- What writing the bounds of tables of jobs and settings comes to. Assumes nothing.
use Prim.Native.Nat.{ℕ, ◌*◌, min, ◌<◌}
use mathlib.Core.Path.{◌≡◌, ap, ◌∙◌}
use mathlib.Core.List.{List}
use native.Mathlib.Omega.{arith}
use borrow.Author.Tests.{lt-leb}
use lib.Dec.{ltb}
use lib.ListN.{length, get_or, take}
use Rattle.std.specs.Prelude.{Result, Ok, Err}
use Rattle.sets.specs.Places.{every}
use Rattle.sets.proofs.Places.{list_length}
use Rattle.records.specs.Limits.{most_jobs}
use Rattle.records.specs.Refusals.{Answer, given, refused, number, outcome, counted}
use Rattle.records.specs.Records.{word_bytes, table, room_tests, write_records}
use Rattle.records.specs.declared.job.Job.{Job}
use Rattle.records.specs.declared.refusal.Refusal.{Refusal}
use Rattle.records.proofs.FixedWidth.{cut-length, take-table, wrote-turned, wrote-given}
use Rattle.configuration.specs.declared.setting.Setting.{Setting}
use Rattle.marker.specs.Bounds.{bound_at, bounds_of, all_served}
use Rattle.marker.specs.Marks.{bound_size, marked, put_bounds}
use Rattle.marker.proofs.Configured.{served-table}

-- An output without room for the bounds of the first n jobs.
pub bounds-refused : (jobs : List Job) (settings : List Setting) (n count : ℕ) → length jobs ≡ most_jobs → count ≡ min n most_jobs → (output : List ℕ) → length output < bound_size * count
    → (refused 12, output) ≡ put_bounds (take n jobs) (take n settings) output
unfolding put_bounds
bounds-refused jobs settings n count jobs-size cut output h =
    let need : bound_size * length (take n jobs) ≡ bound_size * count = ap (λ (m : ℕ). bound_size * m) (cut-length jobs most_jobs n count jobs-size cut) in
    simp (lt-leb (bound_size * length (take n jobs)) (length output) (omega (arith, need)))

-- Tables of 8 entries, a count that is cut to 8, and the bounds of the first n jobs.
module _ (jobs : List Job) (settings : List Setting) (n count : ℕ) (jobs-size : length jobs ≡ most_jobs) (cut : count ≡ min n most_jobs) (bounds : List ℕ)
    (made : bounds ≡ table most_jobs 0 (bounds_of (take n jobs) (take n settings)))
  where
    size : length (take n jobs) ≡ count
    size = cut-length jobs most_jobs n count jobs-size cut

    abbrev own : List ℕ
    own = bounds_of (take n jobs) (take n settings)

    long : length own ≡ length (take n jobs)
    long = list_length (bound_at (take n jobs) (take n settings)) (length (take n jobs))

    first : take count bounds ≡ own
    first = ap (take count) made ∙ take-table most_jobs 0 count own (long ∙ size)

    module _ (output after : List ℕ) (wrote : Result ℕ Refusal) (is : (counted wrote, after) ≡ write_records bound_size word_bytes (take count bounds) output) where
      saw : (counted wrote, after) ≡ write_records bound_size word_bytes own output
      saw = is ∙ ap (λ (l : List ℕ). write_records bound_size word_bytes l output) first

      abbrev done : Answer (Unit {0}) × List ℕ
      done = outcome (room_tests (bound_size * length own) (length output)) tt (marked (take n jobs) (take n settings) output) output

      roomed : done ≡ put_bounds (take n jobs) (take n settings) output
      unfolding put_bounds
      roomed = ap (λ (m : ℕ). outcome (room_tests (bound_size * m) (length output)) tt (marked (take n jobs) (take n settings) output) output) long

      pub bounds-turned : (refusal : Refusal) → wrote ≡ Err refusal → (refused (number refusal), after) ≡ put_bounds (take n jobs) (take n settings) output
      bounds-turned refusal e = wrote-turned bound_size word_bytes own output wrote after saw refusal e ∙ roomed

      pub bounds-done : (m : ℕ) → wrote ≡ Ok m → (given tt, after) ≡ put_bounds (take n jobs) (take n settings) output
      bounds-done m e = wrote-given bound_size word_bytes own output wrote after saw m e ∙ roomed

    pub bounds-served : every (λ i. ltb 0 (get_or bounds i 0)) count ≡ all_served (take n jobs) (take n settings)
    bounds-served =
        ap (λ (l : List ℕ). every (λ i. ltb 0 (get_or l i 0)) count) made
        ∙ served-table (take n jobs) (take n settings) count size
