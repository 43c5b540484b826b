-- The parts of the bounds of a configuration: by a job's level, of a table as of the list that it begins with, and as the code finds them.
-- Assumes nothing.
use Prim.Native.Nat.{ℕ, ◌≤◌, ◌<◌, min}
use mathlib.Core.Path.{◌≡◌, refl, sym, ◌∙◌, ap, ap₂}
use mathlib.Core.Bool.{cond}
use mathlib.Core.List.{List}
use native.Mathlib.Omega.{arith}
use lib.Dec.{eqb, ltb}
use lib.ListN.{length, take}
use lib.Seq.{length-take-le, get_or-take}
use borrow.Author.Tests.{eq-eqb, ne_eqb}
use Rattle.sets.specs.Sets.{has, Collects}
use Rattle.sets.proofs.Places.{list_same}
use Rattle.records.specs.declared.job.Job.{Job}
use Rattle.records.proofs.FixedWidth.{cut-take, cut-length}
use Rattle.configuration.specs.declared.setting.Setting.{Setting}
use Rattle.configuration.specs.Settings.{blank_setting, setting_at, level_at}
use Rattle.response.specs.declared.parts.Parts.{Parts}
use Rattle.response.specs.Breakdown.{no_parts, parts}
use Rattle.response.proofs.Breakdown.{parts_same, parts-take}
use Rattle.marker.specs.Bounds.{quanta_of, layer_of, above_of}
use Rattle.marker.proofs.Configured.{level-same, quantum-same, none-past, as-collected}
use Rattle.parts.specs.Breakdowns.{parts_in, breakdown_of}

module _ (jobs : List Job) (settings : List Setting) (k : ℕ) where
  pub parts-unplaced : level_at settings k ≡ 0 → parts_in jobs settings k ≡ no_parts
  unfolding parts_in
  parts-unplaced e = rw (eq-eqb (level_at settings k) 0 e)

  pub parts-placed : (level_at settings k ≡ 0 → ⊥)
      → parts_in jobs settings k ≡ parts jobs (quanta_of settings) (layer_of settings (level_at settings k)) (above_of settings (level_at settings k)) k
  unfolding parts_in
  parts-placed e = rw (ne_eqb (level_at settings k) 0 e)

-- ---- a table, and the list that it begins with

module _ (jobs : List Job) (a b : List Setting) (same : (i : ℕ) → i < length jobs → setting_at a i ≡ setting_at b i) where
  parts-settings : (k : ℕ) → k < length jobs → parts_in jobs a k ≡ parts_in jobs b k
  unfolding parts_in
  parts-settings k l =
      ap₂ (λ (v : ℕ) (p : Parts). cond (eqb v 0) no_parts p) (level-same jobs a b same k l)
      (parts_same jobs k (quanta_of a) (quanta_of b) (layer_of a (level_at a k)) (layer_of b (level_at b k)) (above_of a (level_at a k)) (above_of b (level_at b k))
      (quantum-same jobs a b same k l) (λ i il e. quantum-same jobs a b same i il)
      (λ i il. ap₂ eqb (level-same jobs a b same i il) (level-same jobs a b same k l)) (λ i il. ap₂ ltb (level-same jobs a b same i il) (level-same jobs a b same k l)))

-- Tables of k entries, and a count that is cut to k.
pub breakdown-table : (jobs : List Job) (settings : List Setting) (k n count : ℕ) → length jobs ≡ k → count ≡ min n k
    → breakdown_of (take count jobs) settings ≡ breakdown_of (take n jobs) (take n settings)
breakdown-table jobs settings k n count size cut =
    let list = take n jobs in
    ap (λ (l : List Job). breakdown_of l settings) (cut-take jobs k n count size cut)
    ∙ list_same (parts_in list settings) (parts_in list (take n settings)) (length list)
    (parts-settings list settings (take n settings) (λ i l. sym (get_or-take n settings i blank_setting (omega (arith, cut-length jobs k n count size cut)))))

-- ---- from the numbers of the layer and of the set above

module _ (jobs : List Job) (settings : List Setting) (n k : ℕ) (size : n ≤ length jobs) (kn : k < n) (layer above : ℕ)
    (layer-is : Collects n (layer_of settings (level_at settings k)) layer) (above-is : Collects n (above_of settings (level_at settings k)) above)
  where
    below : (i : ℕ) → i < length (take n jobs) → i < n
    below i l = omega (arith, length-take-le n jobs size)

    pub parts-code : (level_at settings k ≡ 0 → ⊥) → parts jobs (quanta_of settings) (has layer) (has above) k ≡ parts_in (take n jobs) settings k
    parts-code e =
        let list = take n jobs in
        let v = level_at settings k in
        parts-take n jobs (quanta_of settings) (has layer) (has above) k size kn (none-past n _ layer layer-is) (none-past n _ above above-is)
        ∙ parts_same list k (quanta_of settings) (quanta_of settings) (has layer) (layer_of settings v) (has above) (above_of settings v) refl (λ i l x. refl)
        (λ i l. as-collected n _ layer layer-is i (below i l)) (λ i l. as-collected n _ above above-is i (below i l))
        ∙ sym (parts-placed list settings k e)
