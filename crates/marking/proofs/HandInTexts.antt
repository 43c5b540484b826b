-- The texts of tables that begin with the jobs and settings of a hand-in are those of its lists. Assumes nothing.
use Prim.Native.Nat.{ℕ, ◌-◌, ◌<◌}
use mathlib.Core.Path.{◌≡◌, sym, ap, ap₂, ◌∙◌}
use mathlib.Core.Bool.{Bool, cond}
use mathlib.Core.List.{List, [], ◌∷◌, ◌++◌}
use lib.Dec.{ltb}
use lib.ListN.{length, get_or, take}
use lib.Seq.{get_or-take}
use Rattle.sets.proofs.Places.{every-same, list_at}
use Rattle.records.specs.Limits.{most_jobs}
use Rattle.records.specs.Records.{table}
use Rattle.records.specs.Jobs.{blank_job, job_at}
use Rattle.records.specs.declared.job.Job.{Job}
use Rattle.records.proofs.FixedWidth.{table_at}
use Rattle.configuration.specs.Settings.{blank_setting, setting_at}
use Rattle.configuration.specs.declared.setting.Setting.{Setting}
use Rattle.marker.specs.Bounds.{bound_at, bounds_of, is_served, all_served}
use Rattle.lists.specs.Decimals.{line_feed}
use Rattle.writing.specs.Templates.{rows_to}
use Rattle.text.specs.Keys.{job_line}
use Rattle.marking.specs.Marks.{mark_line, over_text, none_over, marks_text}
use Rattle.writing.proofs.Writing.{rows_same}

module _ (job-table : List Job) (setting-table : List Setting) (jobs : List Job) (settings : List Setting) (n m : ℕ)
    (cut : m ≡ n) (size : n ≡ length jobs) (list : take n job-table ≡ jobs) (set : take n setting-table ≡ settings)
    (found : List ℕ) (is : found ≡ table most_jobs 0 (bounds_of (take n job-table) (take n setting-table)))
  where
    abbrev bounds : List ℕ
    bounds = bounds_of jobs settings

    pub job-same : (k : ℕ) → k < n → job_at job-table k ≡ job_at jobs k
    job-same k l = sym (get_or-take n job-table k blank_job l) ∙ ap (λ (x : List Job). job_at x k) list

    pub setting_same : (k : ℕ) → k < n → setting_at setting-table k ≡ setting_at settings k
    setting_same k l = sym (get_or-take n setting-table k blank_setting l) ∙ ap (λ (x : List Setting). setting_at x k) set

    pub bound-same : (k : ℕ) → get_or found k 0 ≡ get_or bounds k 0
    bound-same k =
        let own = bounds_of (take n job-table) (take n setting-table) in
        ap (λ (l : List ℕ). get_or l k 0) is ∙ table_at 0 own (most_jobs - length own) k ∙ ap₂ (λ (x : List Job) (y : List Setting). get_or (bounds_of x y) k 0) list set

    -- The rows of a text, where each row is made of a job and its bound, or of a setting and its bound.
    job-rows : (row : List Job → List ℕ → ℕ → List ℕ) → ((k : ℕ) → k < n → row job-table found k ≡ row jobs bounds k) → rows_to (row job-table found) m ≡ rows_to (row jobs bounds) (length jobs)
    job-rows row same = ap (rows_to (row job-table found)) cut ∙ rows_same (row job-table found) (row jobs bounds) n same ∙ ap (rows_to (row jobs bounds)) size

    pub mark-rows : rows_to (mark_line job-table found) m ≡ rows_to (mark_line jobs bounds) (length jobs)
    mark-rows = job-rows mark_line (λ k l. ap₂ (λ (job : Job) (b : ℕ). mark_line (job ∷ []) (b ∷ []) 0) (job-same k l) (bound-same k))

    over-rows : rows_to (over_text job-table found) m ≡ rows_to (over_text jobs bounds) (length jobs)
    over-rows = job-rows over_text (λ k l. ap₂ (λ (job : Job) (b : ℕ). over_text (job ∷ []) (b ∷ []) 0) (job-same k l) (bound-same k))

    pub bound-rows : rows_to (job_line setting-table found) m ≡ rows_to (job_line settings bounds) (length jobs)
    bound-rows =
        ap (rows_to (job_line setting-table found)) cut
        ∙ rows_same (job_line setting-table found) (job_line settings bounds) n (λ k l. ap₂ (λ (s : Setting) (b : ℕ). job_line (s ∷ []) (b ∷ []) 0) (setting_same k l) (bound-same k))
        ∙ ap (rows_to (job_line settings bounds)) size

    over-same : none_over m found ≡ none_over (length jobs) bounds
    over-same =
        ap (λ (k : ℕ). none_over k found) (cut ∙ size)
        ∙ every-same (λ i. ltb 0 (get_or found i 0)) (λ i. ltb 0 (get_or bounds i 0)) (length jobs) (λ i l. ap (ltb 0) (bound-same i))

    -- None of the bounds is 0 exactly if each job is served.
    pub none_over_lem : none_over m found ≡ all_served jobs settings
    none_over_lem =
        over-same
        ∙ every-same (λ i. ltb 0 (get_or bounds i 0)) (is_served jobs settings) (length jobs) (λ i l. ap (ltb 0) (list_at (bound_at jobs settings) (length jobs) i 0 l))

    pub marks-same : marks_text m job-table found ≡ marks_text (length jobs) jobs bounds
    unfolding marks_text
    marks-same =
        ap₂ ◌++◌ mark-rows
        (ap₂ (λ (b : Bool) (rows : List ℕ). cond b (112 ∷ 97 ∷ 115 ∷ 115 ∷ 101 ∷ 115 ∷ 10 ∷ []) ((102 ∷ 97 ∷ 105 ∷ 108 ∷ 115 ∷ 58 ∷ []) ++ (rows ++ (line_feed ∷ [])))) over-same over-rows)
