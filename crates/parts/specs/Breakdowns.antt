-- The breakdown of a configuration's bounds (02, E6): the parts of each job's bound. Assumes nothing.
use Rattle.std.specs.Prelude.{ℕ, cond, List, eqb, length}
use Rattle.sets.specs.Places.{list_of}
use Rattle.records.specs.declared.job.Job.{Job}
use Rattle.configuration.specs.declared.setting.Setting.{Setting}
use Rattle.configuration.specs.Settings.{level_at}
use Rattle.response.specs.declared.parts.Parts.{Parts}
use Rattle.response.specs.Breakdown.{no_parts, parts}
use Rattle.marker.specs.Bounds.{quanta_of, layer_of, above_of}

-- The parts of the bound of the job at place k, by who shares its level and who is above. A job not placed has bound 0, and zeros.
unfoldable pub parts_in : List Job → List Setting → ℕ → Parts
parts_in jobs settings k =
    let level = level_at settings k in
    cond (eqb level 0) no_parts (parts jobs (quanta_of settings) (layer_of settings level) (above_of settings level) k)

-- "Each job, in job order".
abbrev pub breakdown_of : List Job → List Setting → List Parts
breakdown_of jobs settings = list_of (parts_in jobs settings) (length jobs)
