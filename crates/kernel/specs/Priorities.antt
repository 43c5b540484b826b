-- Levels and kernel priorities: "A level and a kernel priority run in opposite senses, so neither is taken for the other" (02, E5); and
-- refusal 13 of the lowest and the highest priority. Assumes nothing.
use Rattle.std.specs.Prelude.{ℕ, ◌+◌, ◌-◌, min, [], ◌∷◌, leb}
use Rattle.records.specs.Refusals.{Tests}
use Rattle.kernel.specs.declared.priority.Level.{Level}
use Rattle.kernel.specs.declared.priority.KernelPriority.{KernelPriority}

-- "Level v becomes highest − v + 1": v - 1 priorities below the highest. It is total: level 0 is taken as level 1, and a difference
-- below 0 as 0.
abbrev pub priority_of : KernelPriority → Level → KernelPriority
priority_of highest level = record { 0 = highest.0 - (level.0 - 1) }

-- "And back". It is total: a priority above the highest is taken as the highest, and a level is at most 255.
abbrev pub level_of : KernelPriority → KernelPriority → Level
level_of highest priority = record { 0 = min (highest.0 - priority.0 + 1) 255 }

-- How many values the lowest and the highest priority span.
abbrev pub spanned : KernelPriority → KernelPriority → ℕ
spanned lowest highest = highest.0 + 1 - lowest.0

-- Refusal 13: "the lowest priority is above the highest or the two span fewer than n values".
abbrev pub priority_tests : ℕ → KernelPriority → KernelPriority → Tests
priority_tests n lowest highest = (leb lowest.0 highest.0, 13) ∷ (leb n (spanned lowest highest), 13) ∷ []
