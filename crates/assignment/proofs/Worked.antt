-- The worked exam lists K1 to K9: one computed statement about the test and the planner's rule. Assumes nothing.
use mathlib.Core.Path.{◌≡◌, refl}
use mathlib.Core.List.{map}
use lib.Count.{ones, ones_in}
use Rattle.sets.specs.Places.{every, sum, sum_over, count, list_of}
use Rattle.sets.specs.Sets.{has, rest, within, size, first_jobs}
use Rattle.sets.specs.Order.{range, keep, of_size, subsets, first_taken, considered, considered_count}
use Rattle.periods.specs.ByPeriods.{total, put_in, falling, sizes_by, in_order_by, by_periods}
use Rattle.response.specs.Demand.{ceil_div, work, interference, other_quanta, layer_share, demand, least, finish, larger, run, largest_response, bound}
use Rattle.marker.specs.Bounds.{bound_in}
use Rattle.assignment.specs.Plan.{first_from, smallest, serves_by, quanta_by, setting_in, place_by, plan_from_by, start, plan}
use Rattle.assignment.specs.WorkedLists.{answered, cases}

pub worked : map (λ c. answered c.0) cases ≡ map (λ c. c.1) cases
unfolding answered cases ones ones_in every sum sum_over count list_of has rest within size first_jobs range keep of_size total put_in falling sizes_by in_order_by by_periods subsets first_taken considered considered_count ceil_div work interference other_quanta layer_share demand least finish larger run largest_response bound bound_in first_from smallest serves_by quanta_by setting_in place_by plan_from_by start plan
worked = refl
