-- Calls at the edges of limits, the start gate's, the mats' and others, and the place of refusal 15 in the order: a table for each entry, and
-- one computed statement for each. Assumes nothing.
use Prim.Native.Nat.{ℕ}
use mathlib.Core.Path.{◌≡◌, refl}
use mathlib.Core.Bool.{Bool, true, false}
use mathlib.Core.List.{List, [], ◌∷◌, ◌++◌, map}
use lib.Count.{ones, ones_in}
use Rattle.sets.specs.Places.{every, sum, sum_over, count, list_of}
use Rattle.sets.specs.Sets.{has, rest, within, size, first_jobs}
use Rattle.sets.specs.Order.{range, keep, of_size, subsets, first_taken, considered, considered_count}
use Rattle.records.specs.Records.{word_bytes, flat, chunks}
use Rattle.records.specs.Refusals.{Answer, refused, given}
use Rattle.records.specs.Jobs.{job_of, times_ok}
use Rattle.records.proofs.Cases.{row}
use Rattle.periods.specs.ByPeriods.{total, put_in, falling, sizes_by, in_order_by, by_periods}
use Rattle.configuration.specs.Settings.{setting_bytes}
use Rattle.configuration.specs.Configuration.{placed_level, scheduled, shaped, may_share}
use Rattle.response.specs.Demand.{ceil_div, work, interference, other_quanta, layer_share, demand, least, finish, larger, run, largest_response, bound}
use Rattle.limits.specs.declared.Limits.{Limits}
use Rattle.limits.specs.Boxes.{mats_limits, gate_limits}
use Rattle.marker.specs.Bounds.{bound_in}
use Rattle.assignment.specs.Plan.{first_from, smallest, serves_by, quanta_by, setting_in, place_by, plan_from_by, start, plan}
use Rattle.planner.specs.Plans.{Outcome}
use Rattle.gate.specs.Outcomes.{plan_within, mark_within}

-- Limits, a job block, a range, the two outputs, and the outcome.
pub record PlanCase : Type 0 where
  pub limits : Limits
  pub jobs : List ℕ
  pub low : ℕ
  pub high : ℕ
  pub configuration : List ℕ
  pub bounds : List ℕ
  pub answer : Outcome

pub plan-answered : PlanCase → Outcome
plan-answered c = plan_within c.limits c.jobs c.low c.high c.configuration c.bounds

-- Limits, a job block, the highest quantum of a range from 1 on, a configuration block, an output, and the outcome.
pub record MarkCase : Type 0 where
  pub limits : Limits
  pub jobs : List ℕ
  pub high : ℕ
  pub block : List ℕ
  pub output : List ℕ
  pub answer : Answer Bool × List ℕ

pub mark-answered : MarkCase → Answer Bool × List ℕ
mark-answered c = mark_within c.limits c.jobs 1 c.high c.block c.output

-- ---- what is given

-- Jobs of one tick in a hundred; two, four, five, eight and nine of them, and five of which the last has no cost.
light : ℕ → List ℕ
light id = row id 0 1 100 100

two : List ℕ
two = light 1 ++ light 2

four : List ℕ
four = two ++ (light 3 ++ light 4)

five : List ℕ
five = four ++ light 5

eight : List ℕ
eight = five ++ (light 6 ++ (light 7 ++ light 8))

nine : List ℕ
nine = eight ++ light 9

no-cost : List ℕ
no-cost = four ++ row 5 0 0 100 100

-- The list K2.
k2 : List ℕ
k2 = row 1 0 6 8 8 ++ row 2 0 5 22 22

-- A level for each of four jobs, and one level for two jobs with these quanta.
ladder : List ℕ
ladder = 1 ∷ 1 ∷ 1 ∷ 0 ∷ 2 ∷ 2 ∷ 1 ∷ 0 ∷ 3 ∷ 3 ∷ 1 ∷ 0 ∷ 4 ∷ 4 ∷ 1 ∷ 0 ∷ []

shared : ℕ → ℕ → List ℕ
shared first second = 1 ∷ 1 ∷ 2 ∷ first ∷ 2 ∷ 1 ∷ 2 ∷ second ∷ []

-- Outputs with a byte more than the settings of four jobs need, and than their bounds.
settings-room : List ℕ
settings-room = 9 ∷ 9 ∷ 9 ∷ 9 ∷ 9 ∷ 9 ∷ 9 ∷ 9 ∷ 9 ∷ 9 ∷ 9 ∷ 9 ∷ 9 ∷ 9 ∷ 9 ∷ 9 ∷ 7 ∷ []

bounds-room : List ℕ
bounds-room = 9 ∷ 9 ∷ 9 ∷ 9 ∷ 9 ∷ 9 ∷ 9 ∷ 9 ∷ 7 ∷ []

-- Limits of two jobs and quanta up to 3.
small : Limits
small = record { jobs = 2; quantum = 3 }

-- ---- the planner

plans : Limits → List ℕ → ℕ → ℕ × ℕ → List ℕ → List ℕ → PlanCase
plans limits jobs high told settings bounds =
    record { limits = limits; jobs = jobs; low = 1; high = high; configuration = settings-room; bounds = bounds-room; answer = (given told, (settings, bounds)) }

plan-refuses : Limits → List ℕ → ℕ → ℕ → ℕ → PlanCase
plan-refuses limits jobs low high number =
    record { limits = limits; jobs = jobs; low = low; high = high; configuration = settings-room; bounds = bounds-room; answer = (refused number, (settings-room, bounds-room)) }

-- No room in either output.
cramped : List ℕ → ℕ → ℕ → PlanCase
cramped jobs high number = record { limits = gate_limits; jobs = jobs; low = 1; high = high; configuration = []; bounds = []; answer = (refused number, ([], [])) }

-- Four light jobs, each on a level of its own.
four-settings : List ℕ
four-settings = 1 ∷ 4 ∷ 1 ∷ 0 ∷ 2 ∷ 3 ∷ 1 ∷ 0 ∷ 3 ∷ 2 ∷ 1 ∷ 0 ∷ 4 ∷ 1 ∷ 1 ∷ 0 ∷ 7 ∷ []

four-bounds : List ℕ
four-bounds = 0 ∷ 4 ∷ 0 ∷ 3 ∷ 0 ∷ 2 ∷ 0 ∷ 1 ∷ 7 ∷ []

pub plan-cases : List PlanCase
plan-cases =
    -- four and five jobs, 16 and 17, both at once
    plans gate_limits four 4 (15, 4) four-settings four-bounds
    ∷ plans gate_limits four 16 (15, 4) four-settings four-bounds
    ∷ plan-refuses gate_limits four 1 17 15
    ∷ plan-refuses gate_limits five 1 16 15
    ∷ plan-refuses gate_limits five 1 17 15
    -- K2's key, which shares a level
    ∷ plans gate_limits k2 4 (3, 3) (1 ∷ 2 ∷ 2 ∷ 3 ∷ 2 ∷ 2 ∷ 2 ∷ 1 ∷ 9 ∷ 9 ∷ 9 ∷ 9 ∷ 9 ∷ 9 ∷ 9 ∷ 9 ∷ 7 ∷ []) (0 ∷ 8 ∷ 0 ∷ 20 ∷ 9 ∷ 9 ∷ 9 ∷ 9 ∷ 7 ∷ [])
    -- 1, 5 and 6 before 15: nine jobs, five of which one has C 0, highest 65, lowest 0 and lowest above the highest
    ∷ plan-refuses gate_limits nine 1 17 1
    ∷ plan-refuses gate_limits no-cost 1 17 5
    ∷ plan-refuses gate_limits five 1 65 6
    ∷ plan-refuses gate_limits four 1 65 6
    ∷ plan-refuses gate_limits five 0 17 6
    ∷ plan-refuses gate_limits four 18 17 6
    -- 15 before 12, and 12
    ∷ cramped five 4 15
    ∷ cramped four 17 15
    ∷ cramped four 16 12
    -- other limits, and the mats': eight jobs and 64 are let by up to 12
    ∷ plans small two 3 (3, 2) (1 ∷ 2 ∷ 1 ∷ 0 ∷ 2 ∷ 1 ∷ 1 ∷ 0 ∷ 9 ∷ 9 ∷ 9 ∷ 9 ∷ 9 ∷ 9 ∷ 9 ∷ 9 ∷ 7 ∷ []) (0 ∷ 2 ∷ 0 ∷ 1 ∷ 9 ∷ 9 ∷ 9 ∷ 9 ∷ 7 ∷ [])
    ∷ plan-refuses small two 1 4 15
    ∷ plan-refuses small four 1 3 15
    ∷ plan-refuses mats_limits eight 1 64 12
    ∷ plan-refuses mats_limits nine 1 64 1
    ∷ plan-refuses mats_limits eight 1 65 6
    ∷ []

-- ---- the marker

marks : List ℕ → ℕ → List ℕ → Bool → List ℕ → MarkCase
marks jobs high block passes bounds = record { limits = gate_limits; jobs = jobs; high = high; block = block; output = bounds-room; answer = (given passes, bounds) }

mark-refuses : Limits → List ℕ → ℕ → List ℕ → List ℕ → ℕ → MarkCase
mark-refuses limits jobs high block output number = record { limits = limits; jobs = jobs; high = high; block = block; output = output; answer = (refused number, output) }

pub mark-cases : List MarkCase
mark-cases =
    -- four jobs, 16 as the highest and as a record's quantum; K5, which fails
    marks four 16 ladder true (0 ∷ 1 ∷ 0 ∷ 2 ∷ 0 ∷ 3 ∷ 0 ∷ 4 ∷ 7 ∷ [])
    ∷ marks two 16 (shared 16 16) true (0 ∷ 2 ∷ 0 ∷ 2 ∷ 9 ∷ 9 ∷ 9 ∷ 9 ∷ 7 ∷ [])
    ∷ marks k2 4 (shared 4 1) false (0 ∷ 8 ∷ 0 ∷ 0 ∷ 9 ∷ 9 ∷ 9 ∷ 9 ∷ 7 ∷ [])
    -- 15 looks at the jobs and at the range: 17 in a record within 1 to 16 is 9, and 16 in each record within 1 to 17 is 15
    ∷ mark-refuses gate_limits two 16 (shared 17 1) bounds-room 9
    ∷ mark-refuses gate_limits two 17 (shared 16 16) bounds-room 15
    ∷ mark-refuses gate_limits two 17 (shared 17 1) bounds-room 15
    ∷ mark-refuses gate_limits five 16 ladder bounds-room 15
    -- 1, 5 and 6 before 15
    ∷ mark-refuses gate_limits nine 17 ladder bounds-room 1
    ∷ mark-refuses gate_limits no-cost 17 ladder bounds-room 5
    ∷ mark-refuses gate_limits five 65 ladder bounds-room 6
    -- 15 before 7 and 12, then 7, 8, 10, 11 and 12 as for the mats
    ∷ mark-refuses gate_limits five 16 [] [] 15
    ∷ mark-refuses gate_limits four 17 [] [] 15
    ∷ mark-refuses gate_limits four 16 [] [] 7
    ∷ mark-refuses gate_limits two 16 (2 ∷ 1 ∷ 1 ∷ 0 ∷ 1 ∷ 2 ∷ 1 ∷ 0 ∷ []) bounds-room 8
    ∷ mark-refuses gate_limits two 16 (1 ∷ 1 ∷ 1 ∷ 0 ∷ 2 ∷ 1 ∷ 1 ∷ 0 ∷ []) bounds-room 10
    ∷ mark-refuses gate_limits two 16 (1 ∷ 0 ∷ 0 ∷ 0 ∷ 2 ∷ 1 ∷ 1 ∷ 0 ∷ []) bounds-room 11
    ∷ mark-refuses gate_limits four 16 ladder (9 ∷ []) 12
    -- other limits, and the mats'
    ∷ mark-refuses small two 4 (shared 1 1) bounds-room 15
    ∷ mark-refuses small four 3 ladder bounds-room 15
    ∷ mark-refuses mats_limits eight 64 ladder bounds-room 7
    ∷ mark-refuses mats_limits nine 64 ladder bounds-room 1
    ∷ []

-- ---- computed

pub worked-plan : map plan-answered plan-cases ≡ map (λ c. c.answer) plan-cases
unfolding plan-answered light two four five eight nine no-cost k2 settings-room bounds-room small plans plan-refuses cramped four-settings four-bounds plan-cases row plan_within ones ones_in every sum sum_over count list_of has rest within size first_jobs range keep of_size total put_in falling sizes_by in_order_by by_periods subsets first_taken considered considered_count word_bytes flat chunks job_of times_ok setting_bytes ceil_div work interference other_quanta layer_share demand least finish larger run largest_response bound bound_in first_from smallest serves_by quanta_by setting_in place_by plan_from_by start plan
worked-plan = refl

pub worked-mark : map mark-answered mark-cases ≡ map (λ c. c.answer) mark-cases
unfolding mark-answered light two four five eight nine no-cost k2 ladder shared bounds-room small marks mark-refuses mark-cases row mark_within every sum sum_over count list_of word_bytes flat chunks job_of times_ok placed_level scheduled shaped may_share ceil_div work interference other_quanta layer_share demand least finish larger run largest_response bound bound_in
worked-mark = refl
