-- What a caller holds after breakdown: the records are the parts, they make the bounds, and fit their bytes. Assumes nothing.
use Prim.Native.Nat.{ℕ, ◌+◌, ◌*◌, ◌/◌, ◌%◌, ◌^◌, ◌≤◌, ◌<◌}
use mathlib.Core.Path.{◌≡◌, refl, sym, subst, ◌∙◌, ap, ap₂}
use mathlib.Core.List.{List, ◌++◌}
use native.Mathlib.Decide.{ℕ_discrete}
use native.Mathlib.Omega.{arith}
use lib.ListN.{length, get_or, take, drop}
use lib.Seq.{take_at}
use borrow.Author.Tests.{eqb-true, le-ltb, le-leb}
use Rattle.sets.proofs.Places.{list_at, list_length}
use Rattle.records.specs.Refusals.{Answer, given, Tests, Accepts}
use Rattle.records.specs.Records.{word, word_of, word_bytes, long_of, long_bytes, flat, room_tests}
use Rattle.records.specs.Jobs.{job_at, job_list, block_tests}
use Rattle.records.specs.Ranges.{range_tests}
use Rattle.records.specs.Calls.{call_tests}
use Rattle.records.specs.declared.job.Job.{Job}
use Rattle.records.proofs.Outcomes.{accepts, gives, accepts-both, accepts-first, accepts-second}
use Rattle.records.proofs.FixedWidth.{chunks-flat, length-flat}
use Rattle.records.proofs.Reading.{accepted-list, longest-at}
use Rattle.configuration.specs.declared.setting.Setting.{Setting}
use Rattle.configuration.specs.Settings.{fifo, setting_at, level_at}
use Rattle.configuration.specs.Configuration.{Configuration}
use Rattle.configuration.specs.Shape.{Shape, unplaced, alone, shared}
use Rattle.configuration.proofs.Shapes.{shapes}
use Rattle.configuration.proofs.RoundTrip.{block-configuration}
use Rattle.configuration.specs.Blocks.{settings_of, record_tests}
use Rattle.response.specs.declared.parts.Parts.{Parts}
use Rattle.response.specs.Breakdown.{no_parts}
use Rattle.response.proofs.Breakdown.{Apart, parts-make, parts_held, parts-fit, parts_none, which-alone}
use Rattle.marker.specs.Bounds.{quanta_of, layer_of, above_of, bound_at}
use Rattle.marker.specs.Marks.{bound_size, marked, bounds_room, bounds_tests, bounds_outcome}
use Rattle.marker.proofs.Configured.{bound-unplaced, bound-placed}
use Rattle.parts.specs.Breakdowns.{parts_in, breakdown_of}
use Rattle.parts.proofs.Placed.{parts-unplaced, parts-placed}
use Rattle.breakdown.specs.Breakdowns.{parts_size, parts_bytes, parts_at_start, breakdown_in, broken_down, breakdown_tests, breakdown_outcome}
use Rattle.breakdown.specs.Promises.{PartsOf, Held, BreakdownPromise}

-- ---- the record

pub parts-width : (p : Parts) → length (parts_bytes p) ≡ parts_size
unfolding parts_bytes flat long_bytes word_bytes
parts-width p = refl

-- A number from the four numbers that are its bytes.
abbrev again : ℕ → ℕ
again x = word (x / 65536 / 256) (x / 65536 % 256) * 65536 + word (x % 65536 / 256) (x % 65536 % 256)

again-is : (x : ℕ) → again x ≡ x
again-is x = omega arith

parts-back : (p : Parts) (s : List ℕ) → parts_at_start (parts_bytes p ++ s) ≡ p
unfolding parts_bytes parts_at_start flat long_bytes word_bytes long_of word_of
parts-back p s =
    let with : ℕ → ℕ → ℕ → ℕ → ℕ → Parts =
    λ own share above delay taken. record { instance = p.instance; which = p.which; own = own; share = share; above = above; delay = delay; taken = taken } in
    ap₂ (λ (x y : ℕ). with x y (again p.above) (again p.delay) (again p.taken)) (again-is p.own) (again-is p.share)
    ∙ ap₂ (λ (x y : ℕ). with p.own p.share x y (again p.taken)) (again-is p.above) (again-is p.delay)
    ∙ ap (with p.own p.share p.above p.delay) (again-is p.taken)

breakdown-back : (xs : List Parts) → breakdown_in (length xs) (flat parts_bytes xs) ≡ xs
breakdown-back xs = chunks-flat parts_size parts_bytes parts_at_start parts-width parts-back xs

-- ---- one job

-- No job of a level has a smaller one.
levels-apart : (n : ℕ) (settings : List Setting) (level : ℕ) → Apart n (layer_of settings level) (above_of settings level)
levels-apart n settings level i l e = le-ltb (level_at settings i) level (omega (arith, eqb-true (level_at settings i) level e))

parts-of : (jobs : List Job) (settings : List Setting) (k : ℕ) → (job_at jobs k).period < 2 ^ 16 → (job_at jobs k).deadline < 2 ^ 16
    → PartsOf (job_at jobs k) (bound_at jobs settings k) (parts_in jobs settings k)
parts-of jobs settings k ht hd = elim (ℕ_discrete (level_at settings k) 0) [
  | yes z ↦ rw (parts-unplaced jobs settings k z, bound-unplaced jobs settings k z) (record {
    makes = refl;
    taken = omega arith;
    which = λ e. absurd (e refl);
    bytes = omega arith;
    long = omega arith;
    zeros = λ e. refl;
  })
  | no z ↦
      let q = quanta_of settings in
      let s = layer_of settings (level_at settings k) in
      let a = above_of settings (level_at settings k) in
      let held = parts_held jobs q s a k in
      rw (parts-placed jobs settings k z, bound-placed jobs settings k z) (record {
        makes = parts-make jobs q s a k (levels-apart (length jobs) settings (level_at settings k));
        taken = held.taken;
        which = λ e. (held.decided e, held.which);
        bytes = (omega (arith, held.within), omega (arith, held.which));
        long = parts-fit jobs q s a k ht hd;
        zeros = parts_none jobs q s a k;
      })
]

-- A job of policy 1 is alone on its level, so that its first bound decides.
alone-first : (jobs : List Job) (low high : ℕ) (settings : List Setting) → Configuration jobs low high settings → (k : ℕ) → k < length jobs → (setting_at settings k).policy ≡ fifo
    → (bound_at jobs settings k ≡ 0 → ⊥) → (parts_in jobs settings k).which ≡ 1
alone-first jobs low high settings c k l p z = go ((shapes jobs low high settings c).shape k l)
  where
    go : Shape (length jobs) low high settings k → (parts_in jobs settings k).which ≡ 1
    go (unplaced q e r) = absurd (omega (arith, p, q))
    go (shared q a b x y i il e d) = absurd (omega (arith, p, q))
    go (alone q a b x only) =
        let placed : level_at settings k ≡ 0 → ⊥ = λ e. omega (arith, a) in
        ap (λ (x : Parts). x.which) (parts-placed jobs settings k placed)
        ∙ which-alone jobs (quanta_of settings) (layer_of settings (level_at settings k)) (above_of settings (level_at settings k)) k
        (λ i il e. only i il (eqb-true (level_at settings i) (level_at settings k) e)) (λ e. z (bound-placed jobs settings k placed ∙ e))

-- ---- all jobs of an accepted call

module _ (jobs : List ℕ) (low high : ℕ) (configuration : List ℕ) (room : ℕ) (ok : Accepts (breakdown_tests jobs low high configuration room)) where
  abbrev list : List Job
  list = job_list jobs

  abbrev settings : List Setting
  settings = settings_of jobs configuration

  abbrev n : ℕ
  n = length list

  abbrev each-parts : List Parts
  each-parts = breakdown_of list settings

  abbrev later : Tests
  later = record_tests list low high configuration ++ room_tests (parts_size * n) room

  called : Accepts (call_tests jobs low high)
  called = accepts-first (call_tests jobs low high) later ok

  judged : Accepts (record_tests list low high configuration)
  judged = accepts-first (record_tests list low high configuration) (room_tests (parts_size * n) room) (accepts-second (call_tests jobs low high) later ok)

  each-job : (k : ℕ) → k < n → PartsOf (job_at list k) (bound_at list settings k) (get_or each-parts k no_parts)
  each-job k l =
      let w = longest-at list (accepted-list jobs (accepts-first (block_tests jobs) (range_tests low high) called)) k l in
      subst (PartsOf (job_at list k) (bound_at list settings k)) (sym (list_at (parts_in list settings) n k no_parts l))
      (parts-of list settings k (omega (arith, w.0)) (omega (arith, w.1)))

  each-alone : (k : ℕ) → k < n → (setting_at settings k).policy ≡ fifo → (bound_at list settings k ≡ 0 → ⊥) → (get_or each-parts k no_parts).which ≡ 1
  each-alone k l p z =
      ap (λ (x : Parts). x.which) (list_at (parts_in list settings) n k no_parts l)
      ∙ alone-first list low high settings (block-configuration jobs low high configuration (accepts-both (call_tests jobs low high) (record_tests list low high configuration) called judged)) k l p z

  -- What was written is read back.
  held_back : (output : List ℕ) → breakdown_in n (take (parts_size * n) (broken_down list settings output)) ≡ each-parts
  held_back output =
      let count : length each-parts ≡ n = list_length (parts_in list settings) n in
      let long : length (flat parts_bytes each-parts) ≡ parts_size * n = length-flat parts_bytes parts_size parts-width each-parts ∙ ap (λ (m : ℕ). parts_size * m) count in
      ap (breakdown_in n) (take_at (flat parts_bytes each-parts) (drop (parts_size * length each-parts) output) (parts_size * n) long)
      ∙ ap (λ (m : ℕ). breakdown_in m (flat parts_bytes each-parts)) (sym count) ∙ breakdown-back each-parts

  same-bounds : (output : List ℕ) → bound_size * n ≤ length output → bounds_outcome jobs low high configuration output ≡ (given tt, marked list settings output)
  unfolding bounds_outcome
  same-bounds output h =
      accepts tt (marked list settings output) output (bounds_tests jobs low high configuration (length output))
      (accepts-both (call_tests jobs low high) (record_tests list low high configuration ++ bounds_room list (length output)) called
      (accepts-both (record_tests list low high configuration) (bounds_room list (length output)) judged (le-leb (bound_size * n) (length output) h, tt)))

-- Whatever is the outcome of breakdown keeps its promise.
pub breakdown-promise : (jobs : List ℕ) (low high : ℕ) (configuration output : List ℕ) (got : Answer (Unit {0}) × List ℕ)
    → got ≡ breakdown_outcome jobs low high configuration output → BreakdownPromise jobs low high configuration output got
unfolding breakdown_outcome
breakdown-promise jobs low high configuration output got e = record { is = e; held = held; bounds = λ f room h. same-bounds jobs low high configuration (length output) (told f).0 room h }
  where
    told : got.0 ≡ given tt → Accepts (breakdown_tests jobs low high configuration (length output)) × (got.1 ≡ broken_down (job_list jobs) (settings_of jobs configuration) output)
    told f =
        let w = gives (breakdown_tests jobs low high configuration (length output)) tt (broken_down (job_list jobs) (settings_of jobs configuration) output) output got tt e f in
        (w.0, w.2)

    held : got.0 ≡ given tt
        → Held (job_list jobs) (settings_of jobs configuration) (breakdown_in (length (job_list jobs)) (take (parts_size * length (job_list jobs)) got.1))
    held f =
        let w = told f in
        let n = length (job_list jobs) in
        let back : breakdown_in n (take (parts_size * n) got.1) ≡ breakdown_of (job_list jobs) (settings_of jobs configuration) =
        ap (λ (block : List ℕ). breakdown_in n (take (parts_size * n) block)) w.1 ∙ held_back jobs low high configuration (length output) w.0 output in
        record {
          is = back;
          each = λ k l.
              subst (λ (p : List Parts). PartsOf (job_at (job_list jobs) k) (bound_at (job_list jobs) (settings_of jobs configuration) k) (get_or p k no_parts)) (sym back)
              (each-job jobs low high configuration (length output) w.0 k l);
          alone = λ k l p z. ap (λ (x : List Parts). (get_or x k no_parts).which) back ∙ each-alone jobs low high configuration (length output) w.0 k l p z;
        }
