-- The bytes of a bar, the lines of a job by its bound, and the text of tables that begin with the jobs and settings of a configuration.
-- Assumes nothing.
use Prim.Native.Nat.{ℕ, ◌+◌, ◌-◌, ◌≤◌, ◌<◌}
use mathlib.Core.Path.{◌≡◌, refl, sym, ap, ap₂, ◌∙◌}
use mathlib.Core.Bool.{Bool, true, false, cond}
use mathlib.Core.List.{List, [], ◌∷◌, ◌++◌}
use native.Mathlib.Nat.{div-zero}
use lib.Dec.{eqb, ltb}
use lib.ListN.{length, get_or, take}
use borrow.Author.Tests.{eq-eqb, ne_eqb, lt-ltb, le-ltb}
use Rattle.records.specs.Limits.{most_jobs}
use Rattle.records.specs.Records.{table}
use Rattle.records.specs.Jobs.{job_at}
use Rattle.records.specs.declared.job.Job.{Job}
use Rattle.records.proofs.FixedWidth.{table_at}
use Rattle.configuration.specs.declared.setting.Setting.{Setting}
use Rattle.configuration.specs.Settings.{setting_at, level_at}
use Rattle.response.specs.declared.parts.Parts.{Parts}
use Rattle.response.specs.Breakdown.{no_parts}
use Rattle.marker.specs.Bounds.{bounds_of}
use Rattle.parts.specs.Breakdowns.{breakdown_of}
use Rattle.writing.specs.Templates.{rows_to, filled}
use Rattle.writing.proofs.Writing.{rows_same}
use Rattle.marking.proofs.HandInTexts.{job-same, setting_same, bound-same}
use Rattle.explaining.specs.Explanations.{column_of, cell_of, served_text, unplaced_text, unserved_text, explain_row, explain_text, explain_rows, explanation, legend}

-- ---- the bar

pub column-none : (time whole : ℕ) → whole ≡ 0 → column_of time whole ≡ 0
column-none time whole e = simp (e, div-zero)

module _ (p : Parts) (deadline column : ℕ) where
  abbrev reach : ℕ → ℕ
  reach time = column_of time (p.taken + deadline)

  pub own-cell : column < reach p.own → cell_of p deadline column ≡ 35
  unfolding cell_of
  own-cell h = rw (lt-ltb column _ h)

  pub layer-cell : reach p.own ≤ column → column < reach (p.own + p.share) → cell_of p deadline column ≡ 61
  unfolding cell_of
  layer-cell a h = rw (le-ltb column _ a, lt-ltb column _ h)

  pub above-cell : reach p.own ≤ column → reach (p.own + p.share) ≤ column → column < reach (p.own + p.share + p.above) → cell_of p deadline column ≡ 45
  unfolding cell_of
  above-cell a b h = rw (le-ltb column _ a, le-ltb column _ b, lt-ltb column _ h)

  module _ (a : reach p.own ≤ column) (b : reach (p.own + p.share) ≤ column) (c : reach (p.own + p.share + p.above) ≤ column) where
    pub late-cell : column < reach (p.own + p.share + p.above + p.delay) → cell_of p deadline column ≡ 126
    unfolding cell_of
    late-cell h = rw (le-ltb column _ a, le-ltb column _ b, le-ltb column _ c, lt-ltb column _ h)

    pub spare-cell : reach (p.own + p.share + p.above + p.delay) ≤ column → cell_of p deadline column ≡ 46
    unfolding cell_of
    spare-cell h = rw (le-ltb column _ a, le-ltb column _ b, le-ltb column _ c, le-ltb column _ h)

  -- No byte of a bar stands for a number.
  cell_other : eqb (cell_of p deadline column) 37 ≡ false
  unfolding cell_of
  cell_other =
      go (ltb column (reach p.own)) (ltb column (reach (p.own + p.share))) (ltb column (reach (p.own + p.share + p.above)))
      (ltb column (reach (p.own + p.share + p.above + p.delay)))
    where
      go : (a b c d : Bool) → eqb (cond a 35 (cond b 61 (cond c 45 (cond d 126 46)))) 37 ≡ false
      go true b c d = refl
      go false true c d = refl
      go false false true d = refl
      go false false false true = refl
      go false false false false = refl

  pub cell-filled : (byte : ℕ) (numbers : List ℕ) → byte ≡ cell_of p deadline column → filled (byte ∷ []) numbers ≡ cell_of p deadline column ∷ []
  unfolding filled
  cell-filled byte numbers e = rw (e, cell_other)

-- ---- the lines of a job

module _ (jobs : List Job) (settings : List Setting) (parts : List Parts) (bounds : List ℕ) (k : ℕ) where
  abbrev row : Bool → Bool → List ℕ
  row unserved unplaced =
      cond unserved (cond unplaced (unplaced_text (job_at jobs k)) (unserved_text (job_at jobs k))) (served_text (job_at jobs k) (get_or parts k no_parts) (get_or bounds k 0))

  pub served-row : (get_or bounds k 0 ≡ 0 → ⊥) → served_text (job_at jobs k) (get_or parts k no_parts) (get_or bounds k 0) ≡ explain_row jobs settings parts bounds k
  served-row e = sym (ap (λ (b : Bool). row b (eqb (level_at settings k) 0)) (ne_eqb (get_or bounds k 0) 0 e))

  pub unplaced-row : get_or bounds k 0 ≡ 0 → level_at settings k ≡ 0 → unplaced_text (job_at jobs k) ≡ explain_row jobs settings parts bounds k
  unplaced-row e z = sym (ap₂ row (eq-eqb (get_or bounds k 0) 0 e) (eq-eqb (level_at settings k) 0 z))

  pub unserved-row : get_or bounds k 0 ≡ 0 → (level_at settings k ≡ 0 → ⊥) → unserved_text (job_at jobs k) ≡ explain_row jobs settings parts bounds k
  unserved-row e z = sym (ap₂ row (eq-eqb (get_or bounds k 0) 0 e) (ne_eqb (level_at settings k) 0 z))

-- ---- tables

module _ (job-table : List Job) (setting-table : List Setting) (jobs : List Job) (settings : List Setting) (n m : ℕ)
    (cut : m ≡ n) (size : n ≡ length jobs) (list : take n job-table ≡ jobs) (set : take n setting-table ≡ settings)
    (found : List ℕ) (is : found ≡ table most_jobs 0 (bounds_of (take n job-table) (take n setting-table)))
    (parts : List Parts) (parts_are : parts ≡ table most_jobs no_parts (breakdown_of (take n job-table) (take n setting-table)))
  where
    part_same : (k : ℕ) → get_or parts k no_parts ≡ get_or (breakdown_of jobs settings) k no_parts
    part_same k =
        let own = breakdown_of (take n job-table) (take n setting-table) in
        ap (λ (l : List Parts). get_or l k no_parts) parts_are ∙ table_at no_parts own (most_jobs - length own) k
        ∙ ap₂ (λ (x : List Job) (y : List Setting). get_or (breakdown_of x y) k no_parts) list set

    -- A row is made of a job, its setting, its parts and its bound.
    row_same : (k : ℕ) → k < n → explain_row job-table setting-table parts found k ≡ explain_row jobs settings (breakdown_of jobs settings) (bounds_of jobs settings) k
    row_same k l =
        let of : Job → Setting → Parts → ℕ → List ℕ = λ j s p b. explain_row (j ∷ []) (s ∷ []) (p ∷ []) (b ∷ []) 0 in
        ap₂ (λ (j : Job) (s : Setting). of j s (get_or parts k no_parts) (get_or found k 0))
        (job-same job-table setting-table jobs settings n m cut size list set found is k l)
        (setting_same job-table setting-table jobs settings n m cut size list set found is k l)
        ∙ ap₂ (of (job_at jobs k) (setting_at settings k)) (part_same k) (bound-same job-table setting-table jobs settings n m cut size list set found is k)

    pub rows_are : rows_to (explain_row job-table setting-table parts found) m ≡ explain_rows jobs settings
    rows_are =
        let own = explain_row jobs settings (breakdown_of jobs settings) (bounds_of jobs settings) in
        ap (rows_to (explain_row job-table setting-table parts found)) cut
        ∙ rows_same (explain_row job-table setting-table parts found) own n row_same
        ∙ ap (rows_to own) size

    pub text-is : explain_text m job-table setting-table parts found ≡ explanation jobs settings
    unfolding explain_text
    text-is = ap (λ (rows : List ℕ). rows ++ legend) rows_are
