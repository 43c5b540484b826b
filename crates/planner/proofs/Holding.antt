-- What a caller of the planner holds is the plan, and demand 3 is said of it. Assumes nothing.
use Prim.Native.Nat.{ℕ, ◌*◌, ◌≤◌, ◌<◌}
use mathlib.Core.Path.{◌≡◌, sym, ap, ap₂, subst, ◌∙◌}
use mathlib.Core.Bool.{true}
use mathlib.Core.Logic.{◌↔◌}
use mathlib.Core.List.{List, ◌++◌}
use native.Mathlib.Nat.{lt_of_lt_of_le}
use native.Mathlib.Omega.{arith}
use lib.ListN.{length, take, drop}
use lib.Pow.{pow_mono}
use lib.Seq.{take_at}
use borrow.Author.Tests.{le-leb}
use Rattle.sets.proofs.Places.{every-at, every_of}
use Rattle.records.specs.Refusals.{given, Accepts}
use Rattle.records.specs.Records.{word_bytes, flat, written}
use Rattle.records.specs.Jobs.{job_size, job_of, job_count, job_list}
use Rattle.records.specs.Calls.{call_tests}
use Rattle.records.specs.declared.job.Job.{Job}
use Rattle.records.proofs.Outcomes.{accepts, accepts-both, accepts-first, accepts-second, gives}
use Rattle.records.proofs.Reading.{accepted-list, jobs-most}
use Rattle.records.proofs.Asking.{call-accepts}
use Rattle.records.proofs.FixedWidth.{length-flat, length-chunks, word_width, words_back}
use Rattle.configuration.specs.declared.setting.Setting.{Setting}
use Rattle.configuration.specs.Settings.{setting_size, setting_bytes, setting_table}
use Rattle.configuration.specs.Configuration.{is_placed, full, full_tests}
use Rattle.configuration.specs.Blocks.{settings_of, record_tests, hand_in_tests}
use Rattle.configuration.specs.RecordLaws.{setting-width}
use Rattle.configuration.proofs.RoundTrip.{settings-read, configuration-block, read-bytes}
use Rattle.configuration.proofs.HandIns.{full-accepted}
use Rattle.marker.specs.Marks.{bound_size, bounds_in, marked, bounds_room, bounds_tests, bounds_outcome, mark_outcome}
use Rattle.marker.proofs.Verdicts.{NoneZero, passes-exactly, mark-passes}
use Rattle.assignment.specs.Plan.{Plan, plan}
use Rattle.assignment.specs.Guarantee.{Guarantee}
use Rattle.assignment.proofs.Planned.{placed_less}
use Rattle.planner.specs.Plans.{Outcome, output_tests, values, written_by, plan_tests, plan_outcome, plan_held, AllPlaced, Held, HeldIn, PlanHeld, Promise}
use Rattle.planner.proofs.Answering.{settings-length, bounds-length}
use Rattle.planner.proofs.Promising.{call-guarantee, call-orders}

-- The blocks of the plan of an accepted call.
module _ (jobs : List ℕ) (low high : ℕ) (ok : Accepts (call_tests jobs low high)) where
  abbrev list : List Job
  list = job_list jobs

  abbrev n : ℕ
  n = job_count jobs

  abbrev p : Plan
  p = plan list low high

  abbrev configuration : List ℕ
  configuration = flat setting_bytes p.settings

  abbrev bounds : List ℕ
  bounds = flat word_bytes p.bounds

  G : Guarantee list low high p
  G = call-guarantee jobs low high ok

  size : length list ≡ n
  size = length-chunks job_size job_of n jobs

  settings-are : settings_of jobs configuration ≡ p.settings
  settings-are = settings-read jobs low high p.settings ok G.allowed

  settings-size : length configuration ≡ setting_size * n
  settings-size = length-flat setting_bytes setting_size setting-width p.settings ∙ ap (λ (m : ℕ). setting_size * m) (settings-length list low high p G ∙ size)

  bounds-count : length p.bounds ≡ n
  bounds-count = bounds-length list low high p G ∙ size

  bounds-size : length bounds ≡ bound_size * n
  bounds-size = length-flat word_bytes bound_size word_width p.bounds ∙ ap (λ (m : ℕ). bound_size * m) bounds-count

  held-is : plan_held jobs (values p) configuration bounds ≡ p
  held-is =
      ap₂ (λ (s : List Setting) (b : List ℕ). record { placed = p.placed; considered = p.considered; settings = s; bounds = b })
      settings-are (ap (λ (m : ℕ). bounds_in m bounds) (sym bounds-count) ∙ words_back p.bounds)

  records-ok : Accepts (record_tests list low high configuration)
  records-ok = accepts-second (call_tests jobs low high) (record_tests list low high configuration) (configuration-block jobs low high p.settings ok G.allowed)

  -- What `bounds` writes for the configuration, and whether `mark` passes it.
  module _ (output : List ℕ) (room : bound_size * n ≤ length output) where
    room-ok : Accepts (bounds_room list (length output))
    room-ok = (le-leb (bound_size * length list) (length output) (omega (arith, size)), tt)

    marked-is : marked list (settings_of jobs configuration) output ≡ bounds ++ drop (bound_size * n) output
    marked-is =
        ap (λ (s : List Setting). marked list s output) settings-are
        ∙ ap (λ (b : List ℕ). written bound_size word_bytes b output) (sym G.bounds)
        ∙ ap (λ (m : ℕ). bounds ++ drop (bound_size * m) output) bounds-count

    held-again : bounds_outcome jobs low high configuration output ≡ (given tt, bounds ++ drop (bound_size * n) output)
    unfolding bounds_outcome
    held-again =
        accepts tt (marked list (settings_of jobs configuration) output) output (bounds_tests jobs low high configuration (length output))
        (accepts-both (call_tests jobs low high) (record_tests list low high configuration ++ bounds_room list (length output)) ok
        (accepts-both (record_tests list low high configuration) (bounds_room list (length output)) records-ok room-ok))
        ∙ ap (λ (b : List ℕ). (given tt, b)) marked-is

    full-placed : full list p.settings ≡ true → AllPlaced n p.placed
    full-placed e k l = let m : k < length list = omega (arith, size) in G.placed k m ∙ every-at (is_placed p.settings) (length list) e k m

    placed-full : AllPlaced n p.placed → full list p.settings ≡ true
    placed-full all = every_of (is_placed p.settings) (length list) (λ k l. sym (G.placed k l) ∙ all k (omega (arith, size)))

    hand-in-full : Accepts (hand_in_tests list low high configuration) → full list p.settings ≡ true
    hand-in-full h = ap (full list) (sym settings-are) ∙ full-accepted list low high configuration h

    held-passes : ((mark_outcome jobs low high configuration output).0 ≡ given true) ↔ AllPlaced n p.placed
    held-passes = (
      λ e.
          let later = hand_in_tests list low high configuration ++ bounds_room list (length output) in
          let h = ((mark-passes jobs low high configuration output).0 e).0 in
          full-placed (hand-in-full (accepts-first (hand_in_tests list low high configuration) (bounds_room list (length output)) (accepts-second (call_tests jobs low high) later h))),
      λ all.
          let f = placed-full all in
          let there : full list (settings_of jobs configuration) ≡ true = ap (full list) settings-are ∙ f in
          let hand_in = accepts-both (record_tests list low high configuration) (full_tests list (settings_of jobs configuration)) records-ok (there, tt) in
          (mark-passes jobs low high configuration output).1 (
            accepts-both (call_tests jobs low high) (hand_in_tests list low high configuration ++ bounds_room list (length output)) ok
                (accepts-both (hand_in_tests list low high configuration) (bounds_room list (length output)) hand_in room-ok),
            subst (λ (s : List Setting). NoneZero list s) (sym settings-are) ((passes-exactly list p.settings f).0 (G.returned f)),
          ),
    )

  pub plan-held : PlanHeld jobs low high p
  plan-held = record {
    is = held-is;
    read = read-bytes jobs low high p.settings ok G.allowed ∙ ap (λ (m : ℕ). (given m, setting_table p.settings)) size;
    again = held-again;
    passes = held-passes;
    guarantee = subst (Guarantee list low high) (sym held-is) G;
    orders = call-orders jobs low high ok;
  }

-- A call of the entry that is answered.
pub promise : (jobs : List ℕ) (low high : ℕ) (configuration bounds : List ℕ) (got : Outcome) → got ≡ plan_outcome jobs low high configuration bounds → Promise jobs low high configuration bounds got
unfolding plan_outcome
promise jobs low high configuration bounds got is = record {
  is = is;
  guarantee = λ told e.
      let p = plan (job_list jobs) low high in
      let tests = plan_tests jobs low high (length configuration) (length bounds) in
      let given_is = gives tests (values p) (written_by p configuration bounds) (configuration, bounds) got told is e in
      let ok = accepts-first (call_tests jobs low high) (output_tests (job_list jobs) (length configuration) (length bounds)) given_is.0 in
      let first : take (setting_size * job_count jobs) got.1.0 ≡ flat setting_bytes p.settings =
      ap (λ (x : List ℕ × List ℕ). take (setting_size * job_count jobs) x.0) given_is.2 ∙ take_at (flat setting_bytes p.settings) _ _ (settings-size jobs low high ok) in
      let second : take (bound_size * job_count jobs) got.1.1 ≡ flat word_bytes p.bounds =
      ap (λ (x : List ℕ × List ℕ). take (bound_size * job_count jobs) x.1) given_is.2 ∙ take_at (flat word_bytes p.bounds) _ _ (bounds-size jobs low high ok) in
      subst (λ (x : ℕ × ℕ). HeldIn jobs low high x got.1) (sym given_is.1)
      (subst (λ (x : List ℕ). Held jobs low high (values p) x (take (bound_size * job_count jobs) got.1.1)) (sym first)
      (subst (λ (x : List ℕ). Held jobs low high (values p) (flat setting_bytes p.settings) x) (sym second) (plan-held jobs low high ok)));
}

-- The placed set's number is a byte.
pub told-byte : (jobs : List ℕ) (low high : ℕ) (configuration bounds : List ℕ) (got : Outcome) → got ≡ plan_outcome jobs low high configuration bounds → (told : ℕ × ℕ) → got.0 ≡ given told → told.0 < 256
unfolding plan_outcome
told-byte jobs low high configuration bounds got is told e =
    let list = job_list jobs in
    let p = plan list low high in
    let given_is = gives (plan_tests jobs low high (length configuration) (length bounds)) (values p) (written_by p configuration bounds) (configuration, bounds) got told is e in
    let ok = accepts-first (call_tests jobs low high) (output_tests list (length configuration) (length bounds)) given_is.0 in
    let few = jobs-most list (accepted-list jobs (call-accepts jobs low high ok).0) in
    let less : p.placed < 256 = lt_of_lt_of_le (placed_less list few low high) (pow_mono few) in
    omega (arith, less, ap (λ (x : ℕ × ℕ). x.0) given_is.1)
