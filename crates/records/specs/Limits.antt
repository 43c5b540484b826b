-- The limits of 01: "60,000 ticks is the longest period, 64 the longest quantum and 8 the most jobs". Assumes nothing.
use Rattle.std.specs.Prelude.{ℕ}
use Rattle.sets.specs.Sets.{places}

abbrev pub longest_period : ℕ
longest_period = 60000

-- The longest deadline: "D may now exceed T, up to 60,000" (02, E1).
abbrev pub longest_deadline : ℕ
longest_deadline = 60000

abbrev pub longest_quantum : ℕ
longest_quantum = 64

abbrev pub most_jobs : ℕ
most_jobs = places
