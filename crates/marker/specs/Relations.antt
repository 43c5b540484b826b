-- How a level stands to another: the two tests by which the code picks a layer and the set above it. Assumes nothing.
use Rattle.std.specs.Prelude.{ℕ, Bool, List, eqb, ltb}
use Rattle.configuration.specs.declared.setting.Setting.{Setting}
use Rattle.configuration.specs.Settings.{level_at}
use Rattle.marker.specs.declared.levels.Relation.{Relation}
use Rattle.marker.specs.declared.levels.Relation.TheVariants.{Same, Above}

abbrev pub standing : Relation → ℕ → ℕ → Bool
standing Same level to = eqb level to
standing Above level to = ltb level to

-- The job at place i stands so to a level.
abbrev pub stands : Relation → List Setting → ℕ → ℕ → Bool
stands relation settings level i = standing relation (level_at settings i) level
