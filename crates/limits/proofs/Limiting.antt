-- Limits beside the mats: for any limits and any call, whatever tests, values and outputs an entry has after the range. Assumes nothing.
use Prim.Native.Nat.{ℕ}
use mathlib.Core.Path.{◌≡◌, refl, sym, ap, ◌∙◌}
use mathlib.Core.Bool.{Bool, true, false}
use mathlib.Core.List.{List, ◌∷◌, ◌++◌}
use mathlib.Core.Logic.{inl, inr}
use lib.Dec.{leb}
use borrow.Author.Tests.{leb-true, le-leb}
use Rattle.records.specs.Limits.{longest_quantum}
use Rattle.records.specs.Refusals.{Answer, refused, given, Tests, outcome, Accepts}
use Rattle.records.specs.Jobs.{job_count}
use Rattle.records.specs.Calls.{call_tests}
use Rattle.records.proofs.Outcomes.{past, fails-alike, accepts-or-not, accepted, accepts-first, accepts-second}
use Rattle.records.proofs.Reading.{count_most}
use Rattle.records.proofs.Asking.{call-accepts}
use Rattle.limits.specs.declared.Limits.{Limits}
use Rattle.limits.specs.Boxes.{mats_limits, limit_tests, limited_tests}
use Rattle.limits.specs.Limited.{Within, Limited}

-- The tests of limits hold exactly of calls within them.
pub within-accepts : (limits : Limits) (n high : ℕ) → Within limits n high → Accepts (limit_tests limits n high)
within-accepts limits n high w = (le-leb n limits.jobs w.jobs, (le-leb high limits.quantum w.quantum, tt))

accepts-within : (limits : Limits) (n high : ℕ) → Accepts (limit_tests limits n high) → Within limits n high
accepts-within limits n high ok = record { jobs = leb-true n limits.jobs ok.0; quantum = leb-true high limits.quantum ok.1.0 }

-- The mats' limits let by what refusals 1 to 6 let by.
mats-within : (jobs : List ℕ) (low high : ℕ) → Accepts (call_tests jobs low high) → Within mats_limits (job_count jobs) high
mats-within jobs low high ok =
    let own = call-accepts jobs low high ok in
    record { jobs = count_most jobs own.0; quantum = leb-true high longest_quantum own.1.1.1.0 }

-- An entry's tests after the range are `later`, its values and what is lent as below.
module _ (limits : Limits) (jobs : List ℕ) (low high : ℕ) {A B : Type 0} (later : Tests) (values : A) (new old : B) where
  abbrev own : Tests
  own = limit_tests limits (job_count jobs) high

  abbrev got : Answer A × B
  got = outcome (limited_tests limits jobs low high ++ later) values new old

  abbrev mats : Answer A × B
  mats = outcome (call_tests jobs low high ++ later) values new old

  -- Past refusals 1 to 6 the limits decide, and then the tests that follow.
  past-call : Accepts (call_tests jobs low high) → got ≡ outcome (own ++ later) values new old
  past-call ok = past (call_tests jobs low high) (own ++ later) values new old ok

  limits-refuse : (Within limits (job_count jobs) high → ⊥) → outcome (own ++ later) values new old ≡ (refused 15, old)
  limits-refuse bad = by (leb (job_count jobs) limits.jobs) (leb high limits.quantum) refl refl
    where
      by : (a b : Bool) → leb (job_count jobs) limits.jobs ≡ a → leb high limits.quantum ≡ b
          → outcome ((a, 15) ∷ (b, 15) ∷ later) values new old ≡ (refused 15, old)
      by true true e f = absurd (bad (accepts-within limits (job_count jobs) high (e, (f, tt))))
      by true false e f = refl
      by false b e f = refl

  within-limits : Within limits (job_count jobs) high → got ≡ mats
  within-limits w = elim (accepts-or-not (call_tests jobs low high)) [
    | inl ok ↦
        past-call ok
        ∙ past own later values new old (within-accepts limits (job_count jobs) high w)
        ∙ sym (past (call_tests jobs low high) later values new old ok)
    | inr bad ↦ fails-alike (call_tests jobs low high) (own ++ later) later values new old bad
  ]

  -- The theorem of E8.
  pub limited : Limited limits jobs low high got mats (refused 15, old)
  limited = record {
    within = within-limits;
    before = λ bad. fails-alike (call_tests jobs low high) (own ++ later) later values new old bad;
    beyond = λ ok bad. past-call ok ∙ limits-refuse bad;
  }

  -- A call that is answered is within the limits.
  pub answered-within : (a : A) → got.0 ≡ given a → Within limits (job_count jobs) high
  answered-within a e =
      let ok = accepted values new old (limited_tests limits jobs low high ++ later) a e in
      accepts-within limits (job_count jobs) high (accepts-second (call_tests jobs low high) own (accepts-first (limited_tests limits jobs low high) later ok))

-- The mats' limits are no limits beside refusals 1 to 6: every call has the mats' outcome.
pub mats-limits : (jobs : List ℕ) (low high : ℕ) {A B : Type 0} (later : Tests) (values : A) (new old : B)
    → outcome (limited_tests mats_limits jobs low high ++ later) values new old ≡ outcome (call_tests jobs low high ++ later) values new old
mats-limits jobs low high later values new old =
    let l = limited mats_limits jobs low high later values new old in
    elim (accepts-or-not (call_tests jobs low high)) [
      | inl ok ↦ l.within (mats-within jobs low high ok)
      | inr bad ↦ l.before bad
    ]

-- What is said of outcomes holds of what they are told as.
pub limited-as : (limits : Limits) (jobs : List ℕ) (low high : ℕ) {O P : Type 0} (told : O → P) (got mats turned : O) → Limited limits jobs low high got mats turned
    → Limited limits jobs low high (told got) (told mats) (told turned)
limited-as limits jobs low high told got mats turned l =
    record { within = λ w. ap told (l.within w); before = λ bad. ap told (l.before bad); beyond = λ ok bad. ap told (l.beyond ok bad) }
