-- The bounds of a configuration, full or not, and whether it passes (01, "The response-time test"). The bounds are those of any list of
-- settings. Assumes nothing.
use Rattle.std.specs.Prelude.{ℕ, Bool, true, false, ◌&&◌, List, eqb, ltb, length}
use Rattle.sets.specs.Places.{every, list_of}
use Rattle.sets.specs.Sets.{Set}
use Rattle.records.specs.declared.job.Job.{Job}
use Rattle.configuration.specs.declared.setting.Setting.{Setting}
use Rattle.configuration.specs.Settings.{setting_at, level_at}
use Rattle.configuration.specs.Configuration.{full}
use Rattle.response.specs.Demand.{ResponseTest, bound}

-- The quanta of a configuration, in job order.
abbrev pub quanta_of : List Setting → List ℕ
quanta_of settings = list_of (λ i. (setting_at settings i).quantum) (length settings)

-- "Jobs of one level form a layer", and "the smaller level runs first".
abbrev pub layer_of : List Setting → ℕ → Set
layer_of settings level i = eqb (level_at settings i) level

abbrev pub above_of : List Setting → ℕ → Set
above_of settings level i = ltb (level_at settings i) level

-- The bound of the job at place k by a test. A job not placed has level 0: its bound is 0, and it "counts as above every placed one".
unfoldable pub bound_in : ResponseTest → List Setting → ℕ → ℕ
bound_in test settings k =
    let level = level_at settings k in
    elim (eqb level 0) [ true ↦ 0 | false ↦ test (quanta_of settings) (layer_of settings level) (above_of settings level) k ]

abbrev pub bound_at : List Job → List Setting → ℕ → ℕ
bound_at jobs = bound_in (bound jobs)

-- The bounds, in job order.
abbrev pub bounds_of : List Job → List Setting → List ℕ
bounds_of jobs settings = list_of (bound_at jobs settings) (length jobs)

-- "It passes if it is full and no bound is 0."
abbrev pub is_served : List Job → List Setting → ℕ → Bool
is_served jobs settings k = ltb 0 (bound_at jobs settings k)

abbrev pub all_served : List Job → List Setting → Bool
all_served jobs settings = every (is_served jobs settings) (length jobs)

abbrev pub passes : List Job → List Setting → Bool
passes jobs settings = full jobs settings && all_served jobs settings
