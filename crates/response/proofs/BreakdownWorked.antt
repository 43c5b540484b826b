-- Worked parts of bounds (02, E6): a table and a computed statement. Assumes nothing.
use Prim.Native.Nat.{ℕ}
use mathlib.Core.Path.{◌≡◌, refl}
use mathlib.Core.List.{List, [], ◌∷◌, map}
use Rattle.sets.specs.Places.{sum, sum_over}
use Rattle.sets.specs.Sets.{has}
use Rattle.records.specs.declared.job.Job.{Job}
use Rattle.response.specs.Demand.{ceil_div, work, interference, other_quanta, layer_share, demand, least, finish, larger, run, largest_response, bound}
use Rattle.response.specs.declared.parts.Parts.{Parts}
use Rattle.response.specs.Breakdown.{no_parts, first_parts, second_parts, parts}
use Rattle.response.proofs.Worked.{late, job}

-- The jobs, their quanta, the numbers of the layer and of the set above, a place, and the parts that the job there is to have.
pub record Case : Type 0 where
  pub jobs : List Job
  pub quanta : List ℕ
  pub layer : ℕ
  pub above : ℕ
  pub place : ℕ
  pub answer : Parts

pub answered : Case → Parts
answered c = parts c.jobs c.quanta (has c.layer) (has c.above) c.place

-- In the order of E6.
pub makes : ℕ → ℕ → ℕ → ℕ → ℕ → ℕ → ℕ → Parts
makes instance which own share above delay taken =
    record { instance = instance; which = which; own = own; share = share; above = above; delay = delay; taken = taken }

-- The first or the second of two jobs that share a level, and the second alone with the first above.
pub beside : Job → Job → ℕ → ℕ → ℕ → Parts → Case
beside first second p q place r = record { jobs = first ∷ second ∷ []; quanta = p ∷ q ∷ []; layer = 3; above = 0; place = place; answer = r }

pub under : Job → Job → Parts → Case
under first second r = record { jobs = first ∷ second ∷ []; quanta = []; layer = 2; above = 1; place = 1; answer = r }

pub cases : List Case
cases =
    -- K2's key: both first bounds
    beside (job 6 8 8) (job 5 22 22) 3 1 0 (makes 0 1 6 2 0 0 0)
    ∷ beside (job 6 8 8) (job 5 22 22) 3 1 1 (makes 0 1 5 15 0 0 0)
    -- K5: a bound of 0
    ∷ beside (job 6 8 8) (job 5 22 22) 4 1 1 no_parts
    -- E2's example: the second bound decides, and the first
    ∷ beside (job 4 20 20) (job 2 20 20) 1 4 0 (makes 0 2 4 2 0 0 0)
    ∷ beside (job 4 20 20) (job 2 20 20) 1 4 1 (makes 0 1 2 1 0 0 0)
    -- equal bounds, with delays
    ∷ beside (late 1 1 3 7) (late 2 3 6 13) 4 4 0 (makes 0 1 1 4 0 1 0)
    -- the second bound at instance 1: within 6 ticks the neighbour counts twice, its delay with it
    ∷ beside (job 1 2 6) (late 2 2 5 13) 4 4 0 (makes 1 2 2 4 0 0 2)
    -- the first bound at instance 1: the cycles are those of 4 ticks of own work, two of quantum 3
    ∷ beside (job 2 4 8) (job 2 3 6) 3 3 0 (makes 1 1 4 6 0 0 4)
    -- the first bound at instance 4; responses 7, 9, 9, 5, and the first of those that reach it
    ∷ under (job 26 70 70) (job 62 100 118) (makes 4 1 310 0 208 0 400)
    ∷ record { jobs = job 4 7 7 ∷ job 1 5 9 ∷ job 2 10 10 ∷ []; quanta = []; layer = 2; above = 5; place = 1; answer = makes 1 1 2 0 12 0 5 }
    -- the second bound with a job above the layer, and its own delay
    ∷ record { jobs = job 1 4 4 ∷ late 2 4 20 20 ∷ job 1 20 20 ∷ []; quanta = 0 ∷ 1 ∷ 2 ∷ []; layer = 6; above = 1; place = 1; answer = makes 0 2 4 1 2 2 0 }
    -- a delay longer than the period, and the longest delay
    ∷ beside (job 1 9 9) (late 12 1 10 13) 0 0 1 (makes 0 1 1 0 0 12 0)
    ∷ under (job 1 9 9) (late 255 1 300 300) (makes 0 1 1 0 1 255 0)
    ∷ []

pub worked : map answered cases ≡ map (λ c. c.answer) cases
unfolding late job answered makes beside under cases sum sum_over has ceil_div work interference other_quanta layer_share demand least finish larger run largest_response bound first_parts second_parts parts
worked = refl
