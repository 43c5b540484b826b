-- What is printed of where the ticks of a configuration's bounds go (02, E6): for each job the sum in words and a bar drawn to scale.
-- Assumes nothing.
use Rattle.std.specs.Prelude.{ℕ, ◌+◌, ◌*◌, ◌/◌, Bool, cond, List, [], ◌∷◌, ◌++◌, eqb, ltb, length, get_or}
use Rattle.std.proofs.lemmas.List.Edits.{sets}
use Rattle.records.specs.Refusals.{Answer, outcome}
use Rattle.records.specs.Jobs.{job_at, job_list}
use Rattle.records.specs.Calls.{call_tests}
use Rattle.records.specs.declared.job.Job.{Job}
use Rattle.configuration.specs.declared.setting.Setting.{Setting}
use Rattle.configuration.specs.Settings.{level_at}
use Rattle.configuration.specs.Blocks.{settings_of, record_tests}
use Rattle.response.specs.declared.parts.Parts.{Parts}
use Rattle.response.specs.Breakdown.{no_parts}
use Rattle.marker.specs.Bounds.{bounds_of, all_served}
use Rattle.parts.specs.Breakdowns.{breakdown_of}
use Rattle.writing.specs.Templates.{rows_to, filled}

-- ---- the bar

-- The columns of a bar, which stand for the time from the start of the run to the deadline of the instance that decides, j·T + D.
abbrev pub columns : ℕ
columns = 50

-- The column up to which a time of such a whole reaches, rounded down: only the whole time reaches the last column.
abbrev pub column_of : ℕ → ℕ → ℕ
column_of time whole = time * columns / whole

-- The byte of a column: `#` for own work, `=` for the layer's share, `-` for work from above, `~` for the delay, `.` for what is spare.
unfoldable pub cell_of : Parts → ℕ → ℕ → ℕ
cell_of p deadline column =
    let whole = p.taken + deadline in
    cond (ltb column (column_of p.own whole)) 35
    (cond (ltb column (column_of (p.own + p.share) whole)) 61
    (cond (ltb column (column_of (p.own + p.share + p.above) whole)) 45
    (cond (ltb column (column_of (p.own + p.share + p.above + p.delay) whole)) 126 46)))

abbrev pub bar_text : Parts → ℕ → List ℕ
bar_text p deadline = rows_to (λ column. cell_of p deadline column ∷ []) columns

-- ---- the lines of a job

-- `job 2: 5 own + 15 layer + 0 above + 0 late - 0 = 20 of 22`, and under it the bar, the mark of the deadline, and what decided:
-- `  ###========.....|  bound 1, instance 0`.
abbrev pub sum_text : Job → Parts → ℕ → List ℕ
sum_text job p bound =
    filled (106 ∷ 111 ∷ 98 ∷ 32 ∷ 37 ∷ 58 ∷ 32 ∷ 37 ∷ 32 ∷ 111 ∷ 119 ∷ 110 ∷ 32 ∷ 43 ∷ 32 ∷ 37 ∷ 32 ∷ 108 ∷ 97 ∷ 121 ∷ 101 ∷ 114 ∷ 32 ∷ 43 ∷ 32 ∷ 37 ∷ 32 ∷ 97 ∷ 98 ∷ 111 ∷ 118 ∷ 101 ∷ 32 ∷ 43 ∷ 32 ∷ 37 ∷ 32 ∷ 108 ∷ 97 ∷ 116 ∷ 101 ∷ 32 ∷ 45 ∷ 32 ∷ 37 ∷ 32 ∷ 61 ∷ 32 ∷ 37 ∷ 32 ∷ 111 ∷ 102 ∷ 32 ∷ 37 ∷ 10 ∷ 32 ∷ 32 ∷ [])
    (job.id ∷ p.own ∷ p.share ∷ p.above ∷ p.delay ∷ p.taken ∷ bound ∷ job.deadline ∷ [])

abbrev pub decided_text : Parts → List ℕ
decided_text p = filled (124 ∷ 32 ∷ 32 ∷ 98 ∷ 111 ∷ 117 ∷ 110 ∷ 100 ∷ 32 ∷ 37 ∷ 44 ∷ 32 ∷ 105 ∷ 110 ∷ 115 ∷ 116 ∷ 97 ∷ 110 ∷ 99 ∷ 101 ∷ 32 ∷ 37 ∷ 10 ∷ []) (p.which ∷ p.instance ∷ [])

unfoldable pub served_text : Job → Parts → ℕ → List ℕ
served_text job p bound = sum_text job p bound ++ (bar_text p job.deadline ++ decided_text p)

-- `job 2: not placed`, and `job 2: no bound up to its deadline 22`.
abbrev pub unplaced_text : Job → List ℕ
unplaced_text job = filled (106 ∷ 111 ∷ 98 ∷ 32 ∷ 37 ∷ 58 ∷ 32 ∷ 110 ∷ 111 ∷ 116 ∷ 32 ∷ 112 ∷ 108 ∷ 97 ∷ 99 ∷ 101 ∷ 100 ∷ 10 ∷ []) (job.id ∷ [])

abbrev pub unserved_text : Job → List ℕ
unserved_text job = filled (106 ∷ 111 ∷ 98 ∷ 32 ∷ 37 ∷ 58 ∷ 32 ∷ 110 ∷ 111 ∷ 32 ∷ 98 ∷ 111 ∷ 117 ∷ 110 ∷ 100 ∷ 32 ∷ 117 ∷ 112 ∷ 32 ∷ 116 ∷ 111 ∷ 32 ∷ 105 ∷ 116 ∷ 115 ∷ 32 ∷ 100 ∷ 101 ∷ 97 ∷ 100 ∷ 108 ∷ 105 ∷ 110 ∷ 101 ∷ 32 ∷ 37 ∷ 10 ∷ []) (job.id ∷ job.deadline ∷ [])

-- The lines of the job at place k.
abbrev pub explain_row : List Job → List Setting → List Parts → List ℕ → ℕ → List ℕ
explain_row jobs settings parts bounds k =
    cond (eqb (get_or bounds k 0) 0)
    (cond (eqb (level_at settings k) 0) (unplaced_text (job_at jobs k)) (unserved_text (job_at jobs k)))
    (served_text (job_at jobs k) (get_or parts k no_parts) (get_or bounds k 0))

-- The last line, `# own  = layer  - above  ~ late  . spare  | deadline`.
abbrev pub legend : List ℕ
legend = (35 ∷ 32 ∷ 111 ∷ 119 ∷ 110 ∷ 32 ∷ 32 ∷ 61 ∷ 32 ∷ 108 ∷ 97 ∷ 121 ∷ 101 ∷ 114 ∷ 32 ∷ 32 ∷ 45 ∷ 32 ∷ 97 ∷ 98 ∷ 111 ∷ 118 ∷ 101 ∷ 32 ∷ 32 ∷ 126 ∷ 32 ∷ 108 ∷ 97 ∷ 116 ∷ 101 ∷ 32 ∷ 32 ∷ 46 ∷ 32 ∷ 115 ∷ 112 ∷ 97 ∷ 114 ∷ 101 ∷ 32 ∷ 32 ∷ 124 ∷ 32 ∷ 100 ∷ 101 ∷ 97 ∷ 100 ∷ 108 ∷ 105 ∷ 110 ∷ 101 ∷ 10 ∷ [])

-- All that is printed of n jobs.
unfoldable pub explain_text : ℕ → List Job → List Setting → List Parts → List ℕ → List ℕ
explain_text n jobs settings parts bounds = rows_to (explain_row jobs settings parts bounds) n ++ legend

-- ---- the outcome of explain

abbrev pub explain_rows : List Job → List Setting → List ℕ
explain_rows jobs settings = rows_to (explain_row jobs settings (breakdown_of jobs settings) (bounds_of jobs settings)) (length jobs)

abbrev pub explanation : List Job → List Setting → List ℕ
explanation jobs settings = explain_text (length jobs) jobs settings (breakdown_of jobs settings) (bounds_of jobs settings)

-- Refusals 1 to 10, whether each job is served, where the last line begins, and the output with the text.
unfoldable pub explain_outcome : List ℕ → ℕ → ℕ → List ℕ → List ℕ → Answer (Bool × (ℕ × ℕ)) × List ℕ
explain_outcome jobs low high configuration output =
    let list = job_list jobs in
    let settings = settings_of jobs configuration in
    let text = explanation list settings in
    outcome (call_tests jobs low high ++ (record_tests list low high configuration ++ []))
    (all_served list settings, (length (explain_rows list settings), length text)) (sets output 0 text) output
