-- A refusal in words: its number, the record at fault, and the sentence. Assumes nothing.
use Rattle.std.specs.Prelude.{ℕ, ◌+◌, cond, List, [], ◌∷◌, ◌++◌, ltb, get_or}
use Rattle.records.specs.Limits.{most_jobs}
use Rattle.lists.specs.Decimals.{line_feed}
use Rattle.reasons.specs.declared.reason.Sentence.{Sentence}
use Rattle.reasons.specs.declared.reason.Sentence.TheVariants.{NoJobs, JobBytes, ManyJobs, ZeroId, IdNotAbove, ZeroCost, CostOverDeadline, CostOverPeriod, LongPeriod, LongDeadline, ZeroQuantum, EmptyRange, LongQuantum, SettingBytes, SettingCount, OtherId, NumbersOfNone, NoPolicy, LevelOutside, FifoQuantum, QuantumOutside, FifoShares, Alone, NotPlaced, EmptyPriorities, FewPriorities, KernelBytes, PriorityOutside, KernelPolicy, FifoSharesPriority, AlonePriority, GateJobs, GateQuantum, Unknown}
use Rattle.reasons.specs.declared.reason.Reason.{Reason}
use Rattle.messages.specs.declared.refusal.Naming.{Naming}
use Rattle.messages.specs.declared.refusal.Naming.TheVariants.{Line, Record}
use Rattle.writing.specs.Templates.{filled}

-- In the order of the cases, a number of the reason for each `%`:
-- `the list has no job, and has to have 1 to 8`
-- `the block has % bytes, which is not 8 for each job`
-- `the block has % jobs, and 8 are the most`
-- `the id is 0`
-- `the id % is not above the id % before it`
-- `the cost is 0`
-- `the cost % is above the deadline %`
-- `the cost % is above the period %`
-- `the period % is above %`
-- `the deadline % is above %`
-- `the lowest quantum is 0`
-- `the lowest quantum % is above the highest %`
-- `the highest quantum % is above %`
-- `the configuration has % bytes, which is not 4 for each job`
-- `the number of records is %, that of the jobs %`
-- `the id % stands where the list has job %`
-- `policy none with level % and quantum %, which have to be 0`
-- `the policy % is none of 0, 1 and 2`
-- `the level % is not from 1 to %`
-- `policy fifo with quantum %, which has to be 0`
-- `the quantum % is not from % to %`
-- `policy fifo, and another job has level % too`
-- `policy rr, and no other job has level %`
-- `job % is not placed`
-- `the lowest priority % is above the highest %`
-- `the priorities from % to % are fewer than the % jobs`
-- `the kernel block has % bytes, which is not 4 for each job`
-- `the priority % is not from % to %`
-- `the policy % is neither 1 nor 2`
-- `policy fifo, and another job has priority % too`
-- `policy rr, and no other job has priority %`
-- `the list has % jobs, and the start gate takes at most %`
-- `the highest quantum is %, and the start gate takes at most %`
-- `the table of refusals says why`
abbrev pub template : Sentence → List ℕ
template NoJobs = 116 ∷ 104 ∷ 101 ∷ 32 ∷ 108 ∷ 105 ∷ 115 ∷ 116 ∷ 32 ∷ 104 ∷ 97 ∷ 115 ∷ 32 ∷ 110 ∷ 111 ∷ 32 ∷ 106 ∷ 111 ∷ 98 ∷ 44 ∷ 32 ∷ 97 ∷ 110 ∷ 100 ∷ 32 ∷ 104 ∷ 97 ∷ 115 ∷ 32 ∷ 116 ∷ 111 ∷ 32 ∷ 104 ∷ 97 ∷ 118 ∷ 101 ∷ 32 ∷ 49 ∷ 32 ∷ 116 ∷ 111 ∷ 32 ∷ 56 ∷ []
template JobBytes = 116 ∷ 104 ∷ 101 ∷ 32 ∷ 98 ∷ 108 ∷ 111 ∷ 99 ∷ 107 ∷ 32 ∷ 104 ∷ 97 ∷ 115 ∷ 32 ∷ 37 ∷ 32 ∷ 98 ∷ 121 ∷ 116 ∷ 101 ∷ 115 ∷ 44 ∷ 32 ∷ 119 ∷ 104 ∷ 105 ∷ 99 ∷ 104 ∷ 32 ∷ 105 ∷ 115 ∷ 32 ∷ 110 ∷ 111 ∷ 116 ∷ 32 ∷ 56 ∷ 32 ∷ 102 ∷ 111 ∷ 114 ∷ 32 ∷ 101 ∷ 97 ∷ 99 ∷ 104 ∷ 32 ∷ 106 ∷ 111 ∷ 98 ∷ []
template ManyJobs = 116 ∷ 104 ∷ 101 ∷ 32 ∷ 98 ∷ 108 ∷ 111 ∷ 99 ∷ 107 ∷ 32 ∷ 104 ∷ 97 ∷ 115 ∷ 32 ∷ 37 ∷ 32 ∷ 106 ∷ 111 ∷ 98 ∷ 115 ∷ 44 ∷ 32 ∷ 97 ∷ 110 ∷ 100 ∷ 32 ∷ 56 ∷ 32 ∷ 97 ∷ 114 ∷ 101 ∷ 32 ∷ 116 ∷ 104 ∷ 101 ∷ 32 ∷ 109 ∷ 111 ∷ 115 ∷ 116 ∷ []
template ZeroId = 116 ∷ 104 ∷ 101 ∷ 32 ∷ 105 ∷ 100 ∷ 32 ∷ 105 ∷ 115 ∷ 32 ∷ 48 ∷ []
template IdNotAbove = 116 ∷ 104 ∷ 101 ∷ 32 ∷ 105 ∷ 100 ∷ 32 ∷ 37 ∷ 32 ∷ 105 ∷ 115 ∷ 32 ∷ 110 ∷ 111 ∷ 116 ∷ 32 ∷ 97 ∷ 98 ∷ 111 ∷ 118 ∷ 101 ∷ 32 ∷ 116 ∷ 104 ∷ 101 ∷ 32 ∷ 105 ∷ 100 ∷ 32 ∷ 37 ∷ 32 ∷ 98 ∷ 101 ∷ 102 ∷ 111 ∷ 114 ∷ 101 ∷ 32 ∷ 105 ∷ 116 ∷ []
template ZeroCost = 116 ∷ 104 ∷ 101 ∷ 32 ∷ 99 ∷ 111 ∷ 115 ∷ 116 ∷ 32 ∷ 105 ∷ 115 ∷ 32 ∷ 48 ∷ []
template CostOverDeadline = 116 ∷ 104 ∷ 101 ∷ 32 ∷ 99 ∷ 111 ∷ 115 ∷ 116 ∷ 32 ∷ 37 ∷ 32 ∷ 105 ∷ 115 ∷ 32 ∷ 97 ∷ 98 ∷ 111 ∷ 118 ∷ 101 ∷ 32 ∷ 116 ∷ 104 ∷ 101 ∷ 32 ∷ 100 ∷ 101 ∷ 97 ∷ 100 ∷ 108 ∷ 105 ∷ 110 ∷ 101 ∷ 32 ∷ 37 ∷ []
template CostOverPeriod = 116 ∷ 104 ∷ 101 ∷ 32 ∷ 99 ∷ 111 ∷ 115 ∷ 116 ∷ 32 ∷ 37 ∷ 32 ∷ 105 ∷ 115 ∷ 32 ∷ 97 ∷ 98 ∷ 111 ∷ 118 ∷ 101 ∷ 32 ∷ 116 ∷ 104 ∷ 101 ∷ 32 ∷ 112 ∷ 101 ∷ 114 ∷ 105 ∷ 111 ∷ 100 ∷ 32 ∷ 37 ∷ []
template LongPeriod = 116 ∷ 104 ∷ 101 ∷ 32 ∷ 112 ∷ 101 ∷ 114 ∷ 105 ∷ 111 ∷ 100 ∷ 32 ∷ 37 ∷ 32 ∷ 105 ∷ 115 ∷ 32 ∷ 97 ∷ 98 ∷ 111 ∷ 118 ∷ 101 ∷ 32 ∷ 37 ∷ []
template LongDeadline = 116 ∷ 104 ∷ 101 ∷ 32 ∷ 100 ∷ 101 ∷ 97 ∷ 100 ∷ 108 ∷ 105 ∷ 110 ∷ 101 ∷ 32 ∷ 37 ∷ 32 ∷ 105 ∷ 115 ∷ 32 ∷ 97 ∷ 98 ∷ 111 ∷ 118 ∷ 101 ∷ 32 ∷ 37 ∷ []
template ZeroQuantum = 116 ∷ 104 ∷ 101 ∷ 32 ∷ 108 ∷ 111 ∷ 119 ∷ 101 ∷ 115 ∷ 116 ∷ 32 ∷ 113 ∷ 117 ∷ 97 ∷ 110 ∷ 116 ∷ 117 ∷ 109 ∷ 32 ∷ 105 ∷ 115 ∷ 32 ∷ 48 ∷ []
template EmptyRange = 116 ∷ 104 ∷ 101 ∷ 32 ∷ 108 ∷ 111 ∷ 119 ∷ 101 ∷ 115 ∷ 116 ∷ 32 ∷ 113 ∷ 117 ∷ 97 ∷ 110 ∷ 116 ∷ 117 ∷ 109 ∷ 32 ∷ 37 ∷ 32 ∷ 105 ∷ 115 ∷ 32 ∷ 97 ∷ 98 ∷ 111 ∷ 118 ∷ 101 ∷ 32 ∷ 116 ∷ 104 ∷ 101 ∷ 32 ∷ 104 ∷ 105 ∷ 103 ∷ 104 ∷ 101 ∷ 115 ∷ 116 ∷ 32 ∷ 37 ∷ []
template LongQuantum = 116 ∷ 104 ∷ 101 ∷ 32 ∷ 104 ∷ 105 ∷ 103 ∷ 104 ∷ 101 ∷ 115 ∷ 116 ∷ 32 ∷ 113 ∷ 117 ∷ 97 ∷ 110 ∷ 116 ∷ 117 ∷ 109 ∷ 32 ∷ 37 ∷ 32 ∷ 105 ∷ 115 ∷ 32 ∷ 97 ∷ 98 ∷ 111 ∷ 118 ∷ 101 ∷ 32 ∷ 37 ∷ []
template SettingBytes = 116 ∷ 104 ∷ 101 ∷ 32 ∷ 99 ∷ 111 ∷ 110 ∷ 102 ∷ 105 ∷ 103 ∷ 117 ∷ 114 ∷ 97 ∷ 116 ∷ 105 ∷ 111 ∷ 110 ∷ 32 ∷ 104 ∷ 97 ∷ 115 ∷ 32 ∷ 37 ∷ 32 ∷ 98 ∷ 121 ∷ 116 ∷ 101 ∷ 115 ∷ 44 ∷ 32 ∷ 119 ∷ 104 ∷ 105 ∷ 99 ∷ 104 ∷ 32 ∷ 105 ∷ 115 ∷ 32 ∷ 110 ∷ 111 ∷ 116 ∷ 32 ∷ 52 ∷ 32 ∷ 102 ∷ 111 ∷ 114 ∷ 32 ∷ 101 ∷ 97 ∷ 99 ∷ 104 ∷ 32 ∷ 106 ∷ 111 ∷ 98 ∷ []
template SettingCount = 116 ∷ 104 ∷ 101 ∷ 32 ∷ 110 ∷ 117 ∷ 109 ∷ 98 ∷ 101 ∷ 114 ∷ 32 ∷ 111 ∷ 102 ∷ 32 ∷ 114 ∷ 101 ∷ 99 ∷ 111 ∷ 114 ∷ 100 ∷ 115 ∷ 32 ∷ 105 ∷ 115 ∷ 32 ∷ 37 ∷ 44 ∷ 32 ∷ 116 ∷ 104 ∷ 97 ∷ 116 ∷ 32 ∷ 111 ∷ 102 ∷ 32 ∷ 116 ∷ 104 ∷ 101 ∷ 32 ∷ 106 ∷ 111 ∷ 98 ∷ 115 ∷ 32 ∷ 37 ∷ []
template OtherId = 116 ∷ 104 ∷ 101 ∷ 32 ∷ 105 ∷ 100 ∷ 32 ∷ 37 ∷ 32 ∷ 115 ∷ 116 ∷ 97 ∷ 110 ∷ 100 ∷ 115 ∷ 32 ∷ 119 ∷ 104 ∷ 101 ∷ 114 ∷ 101 ∷ 32 ∷ 116 ∷ 104 ∷ 101 ∷ 32 ∷ 108 ∷ 105 ∷ 115 ∷ 116 ∷ 32 ∷ 104 ∷ 97 ∷ 115 ∷ 32 ∷ 106 ∷ 111 ∷ 98 ∷ 32 ∷ 37 ∷ []
template NumbersOfNone = 112 ∷ 111 ∷ 108 ∷ 105 ∷ 99 ∷ 121 ∷ 32 ∷ 110 ∷ 111 ∷ 110 ∷ 101 ∷ 32 ∷ 119 ∷ 105 ∷ 116 ∷ 104 ∷ 32 ∷ 108 ∷ 101 ∷ 118 ∷ 101 ∷ 108 ∷ 32 ∷ 37 ∷ 32 ∷ 97 ∷ 110 ∷ 100 ∷ 32 ∷ 113 ∷ 117 ∷ 97 ∷ 110 ∷ 116 ∷ 117 ∷ 109 ∷ 32 ∷ 37 ∷ 44 ∷ 32 ∷ 119 ∷ 104 ∷ 105 ∷ 99 ∷ 104 ∷ 32 ∷ 104 ∷ 97 ∷ 118 ∷ 101 ∷ 32 ∷ 116 ∷ 111 ∷ 32 ∷ 98 ∷ 101 ∷ 32 ∷ 48 ∷ []
template NoPolicy = 116 ∷ 104 ∷ 101 ∷ 32 ∷ 112 ∷ 111 ∷ 108 ∷ 105 ∷ 99 ∷ 121 ∷ 32 ∷ 37 ∷ 32 ∷ 105 ∷ 115 ∷ 32 ∷ 110 ∷ 111 ∷ 110 ∷ 101 ∷ 32 ∷ 111 ∷ 102 ∷ 32 ∷ 48 ∷ 44 ∷ 32 ∷ 49 ∷ 32 ∷ 97 ∷ 110 ∷ 100 ∷ 32 ∷ 50 ∷ []
template LevelOutside = 116 ∷ 104 ∷ 101 ∷ 32 ∷ 108 ∷ 101 ∷ 118 ∷ 101 ∷ 108 ∷ 32 ∷ 37 ∷ 32 ∷ 105 ∷ 115 ∷ 32 ∷ 110 ∷ 111 ∷ 116 ∷ 32 ∷ 102 ∷ 114 ∷ 111 ∷ 109 ∷ 32 ∷ 49 ∷ 32 ∷ 116 ∷ 111 ∷ 32 ∷ 37 ∷ []
template FifoQuantum = 112 ∷ 111 ∷ 108 ∷ 105 ∷ 99 ∷ 121 ∷ 32 ∷ 102 ∷ 105 ∷ 102 ∷ 111 ∷ 32 ∷ 119 ∷ 105 ∷ 116 ∷ 104 ∷ 32 ∷ 113 ∷ 117 ∷ 97 ∷ 110 ∷ 116 ∷ 117 ∷ 109 ∷ 32 ∷ 37 ∷ 44 ∷ 32 ∷ 119 ∷ 104 ∷ 105 ∷ 99 ∷ 104 ∷ 32 ∷ 104 ∷ 97 ∷ 115 ∷ 32 ∷ 116 ∷ 111 ∷ 32 ∷ 98 ∷ 101 ∷ 32 ∷ 48 ∷ []
template QuantumOutside = 116 ∷ 104 ∷ 101 ∷ 32 ∷ 113 ∷ 117 ∷ 97 ∷ 110 ∷ 116 ∷ 117 ∷ 109 ∷ 32 ∷ 37 ∷ 32 ∷ 105 ∷ 115 ∷ 32 ∷ 110 ∷ 111 ∷ 116 ∷ 32 ∷ 102 ∷ 114 ∷ 111 ∷ 109 ∷ 32 ∷ 37 ∷ 32 ∷ 116 ∷ 111 ∷ 32 ∷ 37 ∷ []
template FifoShares = 112 ∷ 111 ∷ 108 ∷ 105 ∷ 99 ∷ 121 ∷ 32 ∷ 102 ∷ 105 ∷ 102 ∷ 111 ∷ 44 ∷ 32 ∷ 97 ∷ 110 ∷ 100 ∷ 32 ∷ 97 ∷ 110 ∷ 111 ∷ 116 ∷ 104 ∷ 101 ∷ 114 ∷ 32 ∷ 106 ∷ 111 ∷ 98 ∷ 32 ∷ 104 ∷ 97 ∷ 115 ∷ 32 ∷ 108 ∷ 101 ∷ 118 ∷ 101 ∷ 108 ∷ 32 ∷ 37 ∷ 32 ∷ 116 ∷ 111 ∷ 111 ∷ []
template Alone = 112 ∷ 111 ∷ 108 ∷ 105 ∷ 99 ∷ 121 ∷ 32 ∷ 114 ∷ 114 ∷ 44 ∷ 32 ∷ 97 ∷ 110 ∷ 100 ∷ 32 ∷ 110 ∷ 111 ∷ 32 ∷ 111 ∷ 116 ∷ 104 ∷ 101 ∷ 114 ∷ 32 ∷ 106 ∷ 111 ∷ 98 ∷ 32 ∷ 104 ∷ 97 ∷ 115 ∷ 32 ∷ 108 ∷ 101 ∷ 118 ∷ 101 ∷ 108 ∷ 32 ∷ 37 ∷ []
template NotPlaced = 106 ∷ 111 ∷ 98 ∷ 32 ∷ 37 ∷ 32 ∷ 105 ∷ 115 ∷ 32 ∷ 110 ∷ 111 ∷ 116 ∷ 32 ∷ 112 ∷ 108 ∷ 97 ∷ 99 ∷ 101 ∷ 100 ∷ []
template EmptyPriorities = 116 ∷ 104 ∷ 101 ∷ 32 ∷ 108 ∷ 111 ∷ 119 ∷ 101 ∷ 115 ∷ 116 ∷ 32 ∷ 112 ∷ 114 ∷ 105 ∷ 111 ∷ 114 ∷ 105 ∷ 116 ∷ 121 ∷ 32 ∷ 37 ∷ 32 ∷ 105 ∷ 115 ∷ 32 ∷ 97 ∷ 98 ∷ 111 ∷ 118 ∷ 101 ∷ 32 ∷ 116 ∷ 104 ∷ 101 ∷ 32 ∷ 104 ∷ 105 ∷ 103 ∷ 104 ∷ 101 ∷ 115 ∷ 116 ∷ 32 ∷ 37 ∷ []
template FewPriorities = 116 ∷ 104 ∷ 101 ∷ 32 ∷ 112 ∷ 114 ∷ 105 ∷ 111 ∷ 114 ∷ 105 ∷ 116 ∷ 105 ∷ 101 ∷ 115 ∷ 32 ∷ 102 ∷ 114 ∷ 111 ∷ 109 ∷ 32 ∷ 37 ∷ 32 ∷ 116 ∷ 111 ∷ 32 ∷ 37 ∷ 32 ∷ 97 ∷ 114 ∷ 101 ∷ 32 ∷ 102 ∷ 101 ∷ 119 ∷ 101 ∷ 114 ∷ 32 ∷ 116 ∷ 104 ∷ 97 ∷ 110 ∷ 32 ∷ 116 ∷ 104 ∷ 101 ∷ 32 ∷ 37 ∷ 32 ∷ 106 ∷ 111 ∷ 98 ∷ 115 ∷ []
template KernelBytes = 116 ∷ 104 ∷ 101 ∷ 32 ∷ 107 ∷ 101 ∷ 114 ∷ 110 ∷ 101 ∷ 108 ∷ 32 ∷ 98 ∷ 108 ∷ 111 ∷ 99 ∷ 107 ∷ 32 ∷ 104 ∷ 97 ∷ 115 ∷ 32 ∷ 37 ∷ 32 ∷ 98 ∷ 121 ∷ 116 ∷ 101 ∷ 115 ∷ 44 ∷ 32 ∷ 119 ∷ 104 ∷ 105 ∷ 99 ∷ 104 ∷ 32 ∷ 105 ∷ 115 ∷ 32 ∷ 110 ∷ 111 ∷ 116 ∷ 32 ∷ 52 ∷ 32 ∷ 102 ∷ 111 ∷ 114 ∷ 32 ∷ 101 ∷ 97 ∷ 99 ∷ 104 ∷ 32 ∷ 106 ∷ 111 ∷ 98 ∷ []
template PriorityOutside = 116 ∷ 104 ∷ 101 ∷ 32 ∷ 112 ∷ 114 ∷ 105 ∷ 111 ∷ 114 ∷ 105 ∷ 116 ∷ 121 ∷ 32 ∷ 37 ∷ 32 ∷ 105 ∷ 115 ∷ 32 ∷ 110 ∷ 111 ∷ 116 ∷ 32 ∷ 102 ∷ 114 ∷ 111 ∷ 109 ∷ 32 ∷ 37 ∷ 32 ∷ 116 ∷ 111 ∷ 32 ∷ 37 ∷ []
template KernelPolicy = 116 ∷ 104 ∷ 101 ∷ 32 ∷ 112 ∷ 111 ∷ 108 ∷ 105 ∷ 99 ∷ 121 ∷ 32 ∷ 37 ∷ 32 ∷ 105 ∷ 115 ∷ 32 ∷ 110 ∷ 101 ∷ 105 ∷ 116 ∷ 104 ∷ 101 ∷ 114 ∷ 32 ∷ 49 ∷ 32 ∷ 110 ∷ 111 ∷ 114 ∷ 32 ∷ 50 ∷ []
template FifoSharesPriority = 112 ∷ 111 ∷ 108 ∷ 105 ∷ 99 ∷ 121 ∷ 32 ∷ 102 ∷ 105 ∷ 102 ∷ 111 ∷ 44 ∷ 32 ∷ 97 ∷ 110 ∷ 100 ∷ 32 ∷ 97 ∷ 110 ∷ 111 ∷ 116 ∷ 104 ∷ 101 ∷ 114 ∷ 32 ∷ 106 ∷ 111 ∷ 98 ∷ 32 ∷ 104 ∷ 97 ∷ 115 ∷ 32 ∷ 112 ∷ 114 ∷ 105 ∷ 111 ∷ 114 ∷ 105 ∷ 116 ∷ 121 ∷ 32 ∷ 37 ∷ 32 ∷ 116 ∷ 111 ∷ 111 ∷ []
template AlonePriority = 112 ∷ 111 ∷ 108 ∷ 105 ∷ 99 ∷ 121 ∷ 32 ∷ 114 ∷ 114 ∷ 44 ∷ 32 ∷ 97 ∷ 110 ∷ 100 ∷ 32 ∷ 110 ∷ 111 ∷ 32 ∷ 111 ∷ 116 ∷ 104 ∷ 101 ∷ 114 ∷ 32 ∷ 106 ∷ 111 ∷ 98 ∷ 32 ∷ 104 ∷ 97 ∷ 115 ∷ 32 ∷ 112 ∷ 114 ∷ 105 ∷ 111 ∷ 114 ∷ 105 ∷ 116 ∷ 121 ∷ 32 ∷ 37 ∷ []
template GateJobs = 116 ∷ 104 ∷ 101 ∷ 32 ∷ 108 ∷ 105 ∷ 115 ∷ 116 ∷ 32 ∷ 104 ∷ 97 ∷ 115 ∷ 32 ∷ 37 ∷ 32 ∷ 106 ∷ 111 ∷ 98 ∷ 115 ∷ 44 ∷ 32 ∷ 97 ∷ 110 ∷ 100 ∷ 32 ∷ 116 ∷ 104 ∷ 101 ∷ 32 ∷ 115 ∷ 116 ∷ 97 ∷ 114 ∷ 116 ∷ 32 ∷ 103 ∷ 97 ∷ 116 ∷ 101 ∷ 32 ∷ 116 ∷ 97 ∷ 107 ∷ 101 ∷ 115 ∷ 32 ∷ 97 ∷ 116 ∷ 32 ∷ 109 ∷ 111 ∷ 115 ∷ 116 ∷ 32 ∷ 37 ∷ []
template GateQuantum = 116 ∷ 104 ∷ 101 ∷ 32 ∷ 104 ∷ 105 ∷ 103 ∷ 104 ∷ 101 ∷ 115 ∷ 116 ∷ 32 ∷ 113 ∷ 117 ∷ 97 ∷ 110 ∷ 116 ∷ 117 ∷ 109 ∷ 32 ∷ 105 ∷ 115 ∷ 32 ∷ 37 ∷ 44 ∷ 32 ∷ 97 ∷ 110 ∷ 100 ∷ 32 ∷ 116 ∷ 104 ∷ 101 ∷ 32 ∷ 115 ∷ 116 ∷ 97 ∷ 114 ∷ 116 ∷ 32 ∷ 103 ∷ 97 ∷ 116 ∷ 101 ∷ 32 ∷ 116 ∷ 97 ∷ 107 ∷ 101 ∷ 115 ∷ 32 ∷ 97 ∷ 116 ∷ 32 ∷ 109 ∷ 111 ∷ 115 ∷ 116 ∷ 32 ∷ 37 ∷ []
template Unknown = 116 ∷ 104 ∷ 101 ∷ 32 ∷ 116 ∷ 97 ∷ 98 ∷ 108 ∷ 101 ∷ 32 ∷ 111 ∷ 102 ∷ 32 ∷ 114 ∷ 101 ∷ 102 ∷ 117 ∷ 115 ∷ 97 ∷ 108 ∷ 115 ∷ 32 ∷ 115 ∷ 97 ∷ 121 ∷ 115 ∷ 32 ∷ 119 ∷ 104 ∷ 121 ∷ []

-- The line of a sentence in the text of all, counted from 0.
abbrev pub sentence_line : Sentence → ℕ
sentence_line NoJobs = 0
sentence_line JobBytes = 1
sentence_line ManyJobs = 2
sentence_line ZeroId = 3
sentence_line IdNotAbove = 4
sentence_line ZeroCost = 5
sentence_line CostOverDeadline = 6
sentence_line CostOverPeriod = 7
sentence_line LongPeriod = 8
sentence_line LongDeadline = 9
sentence_line ZeroQuantum = 10
sentence_line EmptyRange = 11
sentence_line LongQuantum = 12
sentence_line SettingBytes = 13
sentence_line SettingCount = 14
sentence_line OtherId = 15
sentence_line NumbersOfNone = 16
sentence_line NoPolicy = 17
sentence_line LevelOutside = 18
sentence_line FifoQuantum = 19
sentence_line QuantumOutside = 20
sentence_line FifoShares = 21
sentence_line Alone = 22
sentence_line NotPlaced = 23
sentence_line EmptyPriorities = 24
sentence_line FewPriorities = 25
sentence_line KernelBytes = 26
sentence_line PriorityOutside = 27
sentence_line KernelPolicy = 28
sentence_line FifoSharesPriority = 29
sentence_line AlonePriority = 30
sentence_line Unknown = 31
sentence_line GateJobs = 32
sentence_line GateQuantum = 33

-- `line %: ` or `record %: `: a record by its line in a text, or by its place in a block, counted from 1.
abbrev pub place_text : Naming → List ℕ → ℕ → List ℕ
place_text Line lines at = filled (108 ∷ 105 ∷ 110 ∷ 101 ∷ 32 ∷ 37 ∷ 58 ∷ 32 ∷ []) (get_or lines at 0 ∷ [])
place_text Record lines at = filled (114 ∷ 101 ∷ 99 ∷ 111 ∷ 114 ∷ 100 ∷ 32 ∷ 37 ∷ 58 ∷ 32 ∷ []) ((at + 1) ∷ [])

-- The record, where the sentence is about one.
abbrev pub record_text : Naming → List ℕ → ℕ → List ℕ
record_text naming lines at = cond (ltb at most_jobs) (place_text naming lines at) []

-- `refused %: `, the record and the sentence.
unfoldable pub refusal_text : ℕ → Naming → List ℕ → Reason → List ℕ
refusal_text number naming lines reason =
    filled (114 ∷ 101 ∷ 102 ∷ 117 ∷ 115 ∷ 101 ∷ 100 ∷ 32 ∷ 37 ∷ 58 ∷ 32 ∷ []) (number ∷ []) ++ (record_text naming lines reason.at ++ (filled (template reason.sentence) reason.numbers ++ (line_feed ∷ [])))
