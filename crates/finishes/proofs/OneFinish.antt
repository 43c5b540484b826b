-- One finish: the iteration, started where utilisation lets it start, finds the least time that equals its demand. Assumes nothing.
use mathlib.Core.Path.{◌≡◌, sym, ◌∙◌, ap}
use mathlib.Core.List.{List}
use Prim.Native.Nat.{ℕ, suc, ◌+◌, ◌*◌, ◌/◌, ◌≤◌, ◌<◌, max}
use native.Mathlib.Nat.{le_trans, mul-le-mul_left, mul-le-mul_right, div-lt_iff_lt-mul, le-div_iff_mul-le, add-mul}
use native.Mathlib.Decide.{dec_le, ℕ_discrete}
use native.Mathlib.Omega.{arith}
use lib.Dec.{leb}
use Rattle.sets.specs.Sets.{Set}
use Rattle.records.specs.Jobs.{job_at}
use Rattle.records.specs.declared.job.Job.{Job}
use Rattle.response.specs.Demand.{interference, least}
use Rattle.response.proofs.Least.{Rising, least-found, least-none, covered}
use Rattle.response.proofs.Easier.{interference-mono, interference-split}
use Rattle.finishes.specs.Finishes.{whole, utilisations_of, table_of, spare_of, carried, steps, short_of, long_of, estimate, short_part, plain_steps, far_time, time_from, time_for}
use Rattle.finishes.specs.declared.capacity.Table.{Table}
use Rattle.finishes.proofs.Climbing.{Below, below-later, steps-past, steps-end, steps-below, loop-least, loop-falls, loop-past, time-idle, time-full, time-start}
use Rattle.finishes.proofs.Utilisation.{interference-one, leaves}

-- A quotient is at most x if x times the divisor covers what is divided.
within : (p m x : ℕ) → 0 < m → p ≤ x * m → p / m ≤ x
within p m x h l = let d : p / m < x + 1 = (div-lt_iff_lt-mul h).1 (omega (arith, add-mul x 1 m)) in omega arith

module _ (jobs : List Job) (a : Set) (own d : ℕ) where
  abbrev f : ℕ → ℕ
  f t = own + interference jobs a t

  abbrev w : Table
  w = table_of jobs

  abbrev spare : ℕ
  spare = spare_of (utilisations_of jobs) a

  mono : (x y : ℕ) → x ≤ y → f x ≤ f y
  mono x y h = omega (arith, interference-mono jobs a a x y (λ i l e. e) h)

  rising : 0 < f 1 → Rising f
  rising p = record { pos = λ t h. omega (arith, p, mono 1 t h); mono = mono }

  abbrev carry : ℕ
  carry = carried (table_of jobs) a

  -- Nothing is spare: no time equals its demand, if there is own demand.
  full-none : 0 < own → spare ≡ 0 → least f d 1 ≡ 0
  full-none p h = least-none f d 1 (λ x g l e. omega (arith, leaves jobs a own x (sym e), ap (λ (y : ℕ). x * y) h))

  -- Else none is below what own demand and delays come to by what is spare.
  starts : 0 < own → 0 < spare → (1 ≤ (own * whole + carry) / spare) × Below f d ((own * whole + carry) / spare)
  unfolding spare_of
  starts p h = (omega (arith, low), record { least = λ x g l q. within (own * whole + carry) spare x h (leaves jobs a own x (sym q)) })
    where
      low : own ≤ (own * whole + carry) / spare
      low = let m : own * spare ≤ own * whole = mul-le-mul_left own (omega arith) in (le-div_iff_mul-le h).1 (omega arith)

  -- No time from t on that equals its demand lies below the estimate.
  estimated : (longest t x : ℕ) → t ≤ x → f x ≡ x → estimate w a longest own t ≤ x
  unfolding estimate
  estimated longest t x h e =
      let short = short_of jobs a longest in
      let long = long_of jobs a longest in
      let at = own + interference jobs long t in
      let apart : interference jobs a x ≡ interference jobs long x + interference jobs short x = interference-split jobs a (λ i. leb (job_at jobs i).period longest) x in
      let later : at * whole ≤ (own + interference jobs long x) * whole = mul-le-mul_right whole (omega (arith, interference-mono jobs long long t x (λ i l q. q) h)) in
      let m : at * whole + carried w short ≤ x * spare_of (utilisations_of jobs) short =
      omega (arith, later, leaves jobs short (own + interference jobs long x) x (omega (arith, apart, e))) in
      within (at * whole + carried w short) (max 1 (spare_of (utilisations_of jobs) short)) x (omega arith) (le_trans m (mul-le-mul_left x (omega arith)))

  -- The search from a time that no such time is below.
  far : 0 < f 1 → {t : ℕ} → 1 ≤ t → Below f d t → time_from w a own d t ≡ least f d 1
  unfolding time_from far_time
  far p {t} h b =
      let R = rising p in
      let s = steps-below f d R plain_steps h b in
      loop-least f d R (estimate w a (steps f d plain_steps t / short_part) own) (estimated (steps f d plain_steps t / short_part)) s.0 s.1

  -- Without any demand there is none.
  idle : ((x : ℕ) → f x ≡ 0) → (t : ℕ) → 1 ≤ t → time_from w a own d t ≡ 0
  unfolding time_from far_time
  idle none t h =
      let e : steps f d plain_steps t ≡ t = steps-end f d plain_steps (omega (arith, none t)) in
      rw e (elim (dec_le t d) [
        | yes g ↦ loop-falls f _ d g (omega (arith, none t)) (λ q. omega (arith, none t))
        | no g ↦ loop-past f _ d (omega arith)
      ])

  pub time-least : (before : ℕ) → Below f d before → time_for w a spare carry own d before ≡ least f d 1
  time-least before b = elim (ℕ_discrete own 0) [
    | yes e ↦ time-idle w a spare carry own d before e ∙ elim (dec_le 1 (interference jobs a 1)) [
      | yes h ↦ far (omega arith) (omega arith) (below-later f d (record { least = λ x g l q. g }) b)
      | no h ↦
          let none : (x : ℕ) → f x ≡ 0 = λ x. omega (arith, interference-one jobs a x, mul-le-mul_left {m = interference jobs a 1} {n = 0} (suc x) (omega arith)) in
          idle none (max 1 before) (omega arith) ∙ sym (least-none f d 1 (λ x g l q. omega (arith, none x)))
    ]
    | no e ↦ elim (ℕ_discrete spare 0) [
      | yes h ↦ time-full w a spare carry own d before e h ∙ sym (full-none (omega arith) h)
      | no h ↦
          let v = starts (omega arith) (omega arith) in
          time-start w a spare carry own d before e h ∙ far (omega arith) (omega (arith, v.0)) (below-later f d v.1 b)
    ]
  ]

  -- ---- the search of a later instance starts at the finish of the one before

  -- A demand that some time equals is not 0 at time 1.
  demands : 0 < least f d 1 → 0 < f 1
  demands p =
      let x = least f d 1 in
      elim (dec_le 1 (interference jobs a 1)) [
        | yes h ↦ omega arith
        | no h ↦ omega (arith, (least-found f d 1 p).0, interference-one jobs a x, mul-le-mul_left {m = interference jobs a 1} {n = 0} (suc x) (omega arith))
      ]

  -- No time that equals a larger own demand is below it.
  pub starts-later : (own' d' : ℕ) → own ≤ own' → 0 < least f d 1 → Below (λ t. own' + interference jobs a t) d' (least f d 1)
  starts-later own' d' h p = record { least = below }
    where
      v : (f (least f d 1) ≡ least f d 1) × (1 ≤ least f d 1) × (least f d 1 < 1 + d)
      v = least-found f d 1 p

      below : (x : ℕ) → 1 ≤ x → x ≤ d' → own' + interference jobs a x ≡ x → least f d 1 ≤ x
      below x g l e = elim (dec_le x d) [
        | yes r ↦ (covered f (rising (demands p)) d x g r (omega arith)).1
        | no r ↦ omega (arith, v.2)
      ]

-- No time is sought past the limit.
pub past-none : (w : Table) (a : Set) (own : ℕ) {d t : ℕ} → d < t → time_from w a own d t ≡ 0
unfolding time_from far_time
past-none w a own {d} {t} h = rw (steps-past _ d plain_steps {t = t} h) (loop-past _ _ d h)
