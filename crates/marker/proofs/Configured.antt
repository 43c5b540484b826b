-- Laws of the bounds of a configuration. Assumes nothing.
use Prim.Native.Nat.{ℕ, suc, ◌-◌, min, ◌≤◌, ◌<◌}
use mathlib.Core.Path.{◌≡◌, refl, sym, ap, ap₂, ◌∙◌}
use mathlib.Core.Bool.{Bool, true, false, ◌&&◌}
use mathlib.Core.List.{List}
use native.Mathlib.Decide.{dec_le}
use native.Mathlib.Omega.{arith}
use lib.Dec.{eqb, ltb}
use lib.ListN.{length, get_or, take, get_or-eq_default}
use lib.Seq.{length-take-le, get_or-take}
use borrow.Author.Tests.{eq-eqb, ne_eqb, lt-ltb, le-ltb}
use Rattle.sets.specs.Places.{every}
use Rattle.sets.specs.Sets.{Set, has, Collects}
use Rattle.sets.proofs.Places.{list_at, list_length, list_same, every-same}
use Rattle.records.specs.Limits.{most_jobs}
use Rattle.records.specs.Records.{word_bytes, table, written}
use Rattle.records.specs.declared.job.Job.{Job}
use Rattle.records.proofs.FixedWidth.{cut-take, cut-length, take-table, table_at}
use Rattle.configuration.specs.declared.setting.Setting.{Setting}
use Rattle.configuration.specs.Settings.{blank_setting, setting_at, level_at}
use Rattle.response.specs.Demand.{bound}
use Rattle.search.specs.Search.{plain_workload, bound_by}
use Rattle.response.proofs.Easier.{bound-same, bound-take}
use Rattle.search.proofs.BothBounds.{bound-plain}
use Rattle.search.specs.declared.workload.Workload.{Workload}
use Rattle.marker.specs.Bounds.{quanta_of, layer_of, above_of, bound_at, bound_in, bounds_of, is_served, all_served}
use Rattle.marker.specs.Marks.{bound_size, marked}

-- ---- a job's bound, by its level

module _ (jobs : List Job) (settings : List Setting) (k : ℕ) where
  pub bound-unplaced : level_at settings k ≡ 0 → bound_at jobs settings k ≡ 0
  unfolding bound_in
  bound-unplaced e = rw (eq-eqb (level_at settings k) 0 e, bound_in)

  pub bound-placed : (level_at settings k ≡ 0 → ⊥)
      → bound_at jobs settings k ≡ bound jobs (quanta_of settings) (layer_of settings (level_at settings k)) (above_of settings (level_at settings k)) k
  unfolding bound_in
  bound-placed e = rw (ne_eqb (level_at settings k) 0 e, bound_in)

pub quantum-at : (settings : List Setting) (i : ℕ) → get_or (quanta_of settings) i 0 ≡ (setting_at settings i).quantum
quantum-at settings i = elim (dec_le (suc i) (length settings)) [
  | yes l ↦ list_at (λ j. (setting_at settings j).quantum) (length settings) i 0 l
  | no l ↦
      let past : length settings ≤ i = omega arith in
      let short : length (quanta_of settings) ≤ i = omega (arith, list_length (λ j. (setting_at settings j).quantum) (length settings)) in
      get_or-eq_default (quanta_of settings) 0 short ∙ sym (ap (λ (s : Setting). s.quantum) (get_or-eq_default settings blank_setting past))
]

-- ---- the bounds see a table as they see the list that it begins with

module _ (jobs : List Job) (a b : List Setting) (same : (i : ℕ) → i < length jobs → setting_at a i ≡ setting_at b i) where
  pub level-same : (i : ℕ) → i < length jobs → level_at a i ≡ level_at b i
  level-same i l = ap (λ (s : Setting). s.level) (same i l)

  pub quantum-same : (i : ℕ) → i < length jobs → get_or (quanta_of a) i 0 ≡ get_or (quanta_of b) i 0
  quantum-same i l = quantum-at a i ∙ ap (λ (s : Setting). s.quantum) (same i l) ∙ sym (quantum-at b i)

  bound-settings : (k : ℕ) → k < length jobs → bound_at jobs a k ≡ bound_at jobs b k
  unfolding bound_in
  bound-settings k l =
      ap₂ (λ (v x : ℕ). elim (eqb v 0) [ true ↦ 0 | false ↦ x ]) (level-same k l)
      (bound-same jobs k (quanta_of a) (quanta_of b) (layer_of a (level_at a k)) (layer_of b (level_at b k)) (above_of a (level_at a k)) (above_of b (level_at b k))
      (quantum-same k l) (λ i il e. quantum-same i il) (λ i il. ap₂ eqb (level-same i il) (level-same k l)) (λ i il. ap₂ ltb (level-same i il) (level-same k l)))

  bounds-settings : bounds_of jobs a ≡ bounds_of jobs b
  bounds-settings = list_same (bound_at jobs a) (bound_at jobs b) (length jobs) bound-settings

-- Tables of k entries, and a count that is cut to k.
pub bounds-table : (jobs : List Job) (settings : List Setting) (k n count : ℕ) → length jobs ≡ k → count ≡ min n k → bounds_of (take count jobs) settings ≡ bounds_of (take n jobs) (take n settings)
bounds-table jobs settings k n count size cut =
    ap (λ (l : List Job). bounds_of l settings) (cut-take jobs k n count size cut)
    ∙ bounds-settings (take n jobs) settings (take n settings) (λ i l. sym (get_or-take n settings i blank_setting (omega (arith, cut-length jobs k n count size cut))))

-- ---- the table of the bounds

module _ (jobs : List Job) (settings : List Setting) (m : ℕ) (size : length jobs ≡ m) where
  abbrev bounds : List ℕ
  bounds = bounds_of jobs settings

  pub served-table : every (λ i. ltb 0 (get_or (table most_jobs 0 bounds) i 0)) m ≡ all_served jobs settings
  served-table =
      ap (every (λ i. ltb 0 (get_or (table most_jobs 0 bounds) i 0))) (sym size)
      ∙ every-same (λ i. ltb 0 (get_or (table most_jobs 0 bounds) i 0)) (is_served jobs settings) (length jobs)
      (λ i l. ap (ltb 0) (table_at 0 bounds (most_jobs - length bounds) i ∙ list_at (bound_at jobs settings) (length jobs) i 0 l))

  pub marked-table : (output : List ℕ) → written bound_size word_bytes (take m (table most_jobs 0 bounds)) output ≡ marked jobs settings output
  marked-table output =
      ap (λ (l : List ℕ). written bound_size word_bytes l output) (take-table most_jobs 0 m bounds (list_length (bound_at jobs settings) (length jobs) ∙ size))

-- ---- a set of the first n jobs: it has no place past them, and there it is what it collects

module _ (n : ℕ) (set : Set) (number : ℕ) (is : Collects n set number) where
  pub none-past : (i : ℕ) → n ≤ i → has number i ≡ false
  none-past i l = is i ∙ ap (λ (b : Bool). b && set i) (le-ltb i n l)

  pub as-collected : (i : ℕ) → i < n → has number i ≡ set i
  as-collected i l = is i ∙ ap (λ (b : Bool). b && set i) (lt-ltb i n l)

-- ---- the bound as the code finds it, from the numbers of the layer and of the set above

module _ (w : Workload) (whole : w ≡ plain_workload w.jobs) (settings : List Setting) (n k : ℕ) (size : n ≤ length w.jobs) (kn : k < n) (level : ℕ) (own : level ≡ level_at settings k)
    (layer above : ℕ) (layer-is : Collects n (layer_of settings level) layer) (above-is : Collects n (above_of settings level) above)
  where
    below : (i : ℕ) → i < length (take n w.jobs) → i < n
    below i l = omega (arith, length-take-le n w.jobs size)

    pub bound-code : (level ≡ 0 → ⊥) → bound_by w (quanta_of settings) (has layer) (has above) k ≡ bound_at (take n w.jobs) settings k
    bound-code e =
        let jobs = take n w.jobs in
        let v = level_at settings k in
        ap (λ (x : Workload). bound_by x (quanta_of settings) (has layer) (has above) k) whole
        ∙ bound-plain w.jobs (quanta_of settings) (has layer) (has above) k
        ∙ bound-take n w.jobs (quanta_of settings) (has layer) (has above) k size kn (none-past n _ layer layer-is) (none-past n _ above above-is)
        ∙ bound-same jobs k (quanta_of settings) (quanta_of settings) (has layer) (layer_of settings v) (has above) (above_of settings v) refl (λ i l x. refl)
        (λ i l. as-collected n _ layer layer-is i (below i l) ∙ ap (λ (x : ℕ). layer_of settings x i) own)
        (λ i l. as-collected n _ above above-is i (below i l) ∙ ap (λ (x : ℕ). above_of settings x i) own)
        ∙ sym (bound-placed jobs settings k (λ z. e (own ∙ z)))
