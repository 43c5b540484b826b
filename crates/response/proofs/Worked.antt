-- Worked runs of a job's instances, each with the first instance that reaches the bound, worked pairs of bounds, and how long delays keep
-- a run open: a table and a computed statement for each. Assumes nothing.
use Prim.Native.Nat.{ℕ}
use mathlib.Core.Path.{◌≡◌, refl}
use mathlib.Core.List.{List, [], ◌∷◌, map}
use Rattle.sets.specs.Places.{sum, sum_over}
use Rattle.sets.specs.Sets.{has}
use Rattle.records.specs.declared.job.Job.{Job}
use Rattle.response.specs.Demand.{ceil_div, work, interference, other_quanta, layer_share, demand, least, finish, plus_delay, Reached, none, larger, run, largest_response, first_bound, second_bound, bound}

-- A job with its delay, C, T and D, and one without delay.
unfoldable pub late : ℕ → ℕ → ℕ → ℕ → Job
late delay cost period deadline = record { id = 1; delay = delay; cost = cost; period = period; deadline = deadline }

unfoldable pub job : ℕ → ℕ → ℕ → Job
job cost period deadline = late 0 cost period deadline

-- The jobs, their quanta, the numbers of the layer and of the set above, and what the job at place 1 is to have.
pub record Case : Type 0 where
  pub jobs : List Job
  pub quanta : List ℕ
  pub layer : ℕ
  pub above : ℕ
  pub answer : Reached

pub answered : Case → Reached
answered c = largest_response c.jobs c.quanta (has c.layer) (has c.above) 1

-- The second job alone with the first above, and both in one layer.
pub under : Job → Job → Reached → Case
under first second r = record { jobs = first ∷ second ∷ []; quanta = []; layer = 2; above = 1; answer = r }

pub beside : Job → Job → ℕ → ℕ → Reached → Case
beside first second p q r = record { jobs = first ∷ second ∷ []; quanta = p ∷ q ∷ []; layer = 3; above = 0; answer = r }

reaches : ℕ → ℕ → Reached
reaches response instance = record { response = response; instance = instance }

pub cases : List Case
cases =
    -- instance 0 closes: at its next release, and before it
    under (job 1 2 2) (job 1 2 9) (reaches 2 0)
    ∷ under (job 1 2 2) (job 1 3 9) (reaches 2 0)
    -- responses 114, 102, 116, 104, 118, 106, 94: the largest is not the last, and the deadline may be just that
    ∷ under (job 26 70 70) (job 62 100 118) (reaches 118 4)
    -- a response that exceeds the deadline in the middle
    ∷ under (job 26 70 70) (job 62 100 117) none
    -- responses 5, 6, 4: the run closes at 12, exactly the next release
    ∷ under (job 3 6 6) (job 2 4 6) (reaches 6 1)
    -- responses 65, 64, 63 and so on: instance 63 closes at 128; in the second case it finishes at 129
    ∷ under (job 64 128 128) (job 1 2 65) (reaches 65 0)
    ∷ under (job 65 130 130) (job 1 2 66) none
    -- the set above takes the whole processor: no finish
    ∷ under (job 1 1 1) (job 1 2 60) none
    -- the cycles are those of the whole own work: 2 of 3 ticks, 3 of 6 ticks; responses 7 and 6
    ∷ beside (job 1 9 9) (job 3 6 7) 2 2 (reaches 7 0)
    -- responses 7, 9, 9, 5: the first instance that reaches the bound
    ∷ record { jobs = job 4 7 7 ∷ job 1 5 9 ∷ job 2 10 10 ∷ []; quanta = []; layer = 2; above = 5; answer = reaches 9 1 }
    -- the delay of the job above makes it count once more within 4 ticks; where t + J is just its period it does not
    ∷ under (job 1 4 4) (job 3 12 12) (reaches 4 0)
    ∷ under (late 1 1 4 4) (job 3 12 12) (reaches 5 0)
    ∷ under (late 1 1 5 5) (job 3 12 12) (reaches 4 0)
    -- the job's own delay is in its bound, which may be just the deadline; the delay of the job below does not count for the one above
    ∷ under (job 1 5 5) (late 3 2 9 6) (reaches 6 0)
    ∷ under (job 1 5 5) (late 3 2 9 5) none
    ∷ record { jobs = late 7 5 9 9 ∷ job 3 4 4 ∷ []; quanta = []; layer = 2; above = 0; answer = reaches 3 0 }
    -- a delay keeps the run open that instance 0 closes at its next release (the first case), and no instance closes it
    ∷ under (job 1 2 2) (late 1 1 2 9) none
    -- a delay longer than the period: responses 13 and 4, and the finish of instance 1 lies before its release
    ∷ beside (job 1 9 9) (late 12 1 10 13) 0 0 (reaches 13 0)
    -- J of 255: the job above counts three times within 4 ticks; in the job's own bound; instance 63 closes the run at 320; it does not
    ∷ under (late 255 1 100 100) (job 1 60000 60000) (reaches 4 0)
    ∷ under (job 1 100 100) (late 255 1 60000 257) (reaches 257 0)
    ∷ under (job 1 100 100) (late 255 1 60000 256) none
    ∷ beside (job 1 9 9) (late 255 1 5 256) 0 0 (reaches 256 0)
    ∷ beside (job 1 9 9) (late 255 2 5 300) 0 0 none
    ∷ []

pub worked : map answered cases ≡ map (λ c. c.answer) cases
unfolding late job answered under beside reaches cases sum sum_over has ceil_div work interference other_quanta layer_share demand least finish larger run largest_response
worked = refl

-- ---- two bounds

-- The jobs, their quanta, the numbers of the layer and of the set above, a place, and the first bound, the second and the bound that the
-- job there is to have.
pub record Pair : Type 0 where
  pub jobs : List Job
  pub quanta : List ℕ
  pub layer : ℕ
  pub above : ℕ
  pub place : ℕ
  pub answer : ℕ × ℕ × ℕ

pub bounds : Pair → ℕ × ℕ × ℕ
bounds c =
    (first_bound c.jobs c.quanta (has c.layer) (has c.above) c.place, second_bound c.jobs c.quanta (has c.layer) (has c.above) c.place, bound c.jobs c.quanta (has c.layer) (has c.above) c.place)

-- The first or the second of two jobs that share a level.
pair : Job → Job → ℕ → ℕ → ℕ → ℕ × ℕ × ℕ → Pair
pair one other p q place r = record { jobs = one ∷ other ∷ []; quanta = p ∷ q ∷ []; layer = 3; above = 0; place = place; answer = r }

pub pairs : List Pair
pairs =
    -- the example of E2: the neighbour of the first has less work than quanta
    pair (job 4 20 20) (job 2 20 20) 1 4 0 (20, 6, 6)
    ∷ pair (job 4 20 20) (job 2 20 20) 1 4 1 (3, 6, 3)
    -- a first bound of 0 gives way
    ∷ pair (job 4 20 8) (job 2 20 20) 1 4 0 (0, 6, 6)
    -- K2: a second bound of 0 gives way; K5: both are 0
    ∷ pair (job 6 8 8) (job 5 22 22) 3 1 0 (8, 0, 8)
    ∷ pair (job 6 8 8) (job 5 22 22) 4 1 1 (0, 0, 0)
    -- equal bounds
    ∷ pair (job 2 10 10) (job 2 10 10) 2 2 0 (4, 4, 4)
    -- each bound is the largest response of a run of its own: responses 4, 3, 2 in the first, and 3, 4, 5 and so on in the second,
    -- which does not close; taken instance by instance, the lesser would be 3, 3, 2
    ∷ pair (job 2 3 6) (job 1 2 5) 3 4 1 (4, 0, 4)
    -- a run that goes on in the first and closes at once in the second
    ∷ pair (job 1 20 20) (job 2 5 9) 4 3 1 (7, 3, 3)
    -- a job alone on its level below another: the two bounds are one
    ∷ record { jobs = job 1 4 4 ∷ job 3 12 12 ∷ []; quanta = []; layer = 2; above = 1; place = 1; answer = (4, 4, 4) }
    -- a job above the layer counts in both
    ∷ record { jobs = job 1 4 4 ∷ job 4 20 20 ∷ job 1 20 20 ∷ []; quanta = 0 ∷ 1 ∷ 2 ∷ []; layer = 6; above = 1; place = 1; answer = (16, 7, 7) }
    -- the delay of a neighbour counts in the second bound alone, the job's own in both
    ∷ pair (job 4 20 20) (late 15 2 20 20) 1 4 0 (20, 8, 8)
    ∷ pair (late 3 4 23 23) (job 2 20 20) 1 4 0 (23, 9, 9)
    ∷ pair (late 3 4 20 20) (job 2 20 20) 1 4 0 (0, 9, 9)
    ∷ []

pub lesser-worked : map bounds pairs ≡ map (λ c. c.answer) pairs
unfolding late job bounds pair pairs sum sum_over has ceil_div work interference other_quanta layer_share demand least finish larger run largest_response bound
lesser-worked = refl

-- ---- how long a delay keeps a run open

-- What the run of a job with nothing above comes to over so many instances.
pub lasts : ℕ × Job → Reached
lasts c = run (λ j. plus_delay c.1.delay (finish (c.1 ∷ []) [] (has 1) (has 0) 0 j)) c.1.period c.0 0 none

pub runs : List ((ℕ × Job) × Reached)
runs =
    -- without delay instance 0 closes; so it does where the finish plus J is at the next release; one tick more, and instance 1 closes
    ((1, job 2 5 9), reaches 2 0)
    ∷ ((1, late 3 2 5 9), reaches 5 0)
    ∷ ((1, late 4 2 5 9), none)
    ∷ ((2, late 4 2 5 9), reaches 6 0)
    -- a delay longer than the period
    ∷ ((1, late 12 1 10 13), none)
    ∷ ((2, late 12 1 10 13), reaches 13 0)
    -- instance 63 and none before it
    ∷ ((63, late 255 1 5 256), none)
    ∷ ((64, late 255 1 5 256), reaches 256 0)
    ∷ []

pub open-worked : map (λ c. lasts c.0) runs ≡ map (λ c. c.1) runs
unfolding late job reaches lasts runs sum sum_over has ceil_div work interference other_quanta layer_share demand least finish larger run
open-worked = refl
