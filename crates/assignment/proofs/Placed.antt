-- Each layer that the planner places keeps what holds of the layers below it, and its bounds are the marker's. Assumes nothing.
use Prim.Native.Nat.{ℕ, suc, ◌^◌, ◌≤◌, ◌<◌}
use mathlib.Core.Path.{◌≡◌, refl, sym, ap, ap₂, ◌∙◌}
use mathlib.Core.Bool.{Bool, true, false, cond, not, ◌&&◌, and-eq-true_iff, false≢true, and-false}
use mathlib.Core.Logic.{◌⊎◌, inl, inr, ◌≢◌, ⊎_elim}
use mathlib.Core.List.{List}
use native.Mathlib.Decide.{ℕ_discrete}
use native.Mathlib.Omega.{arith}
use lib.Dec.{eqb, ltb}
use lib.ListN.{length, get_or}
use borrow.Author.Tests.{eq-eqb, ne_eqb, eqb-true, lt-ltb, le-ltb, not-true}
use Rattle.sets.specs.Sets.{has, rest, size, Sub, Alone}
use Rattle.sets.proofs.Places.{list_at, list_length}
use Rattle.sets.proofs.Members.{has_rest}
use Rattle.sets.proofs.Parts.{rest_lt, size-one, size-more}
use Rattle.records.specs.Jobs.{job_at}
use Rattle.records.specs.declared.job.Job.{Job}
use Rattle.configuration.specs.declared.setting.Setting.{Setting}
use Rattle.configuration.specs.Settings.{fifo, round_robin, blank_setting, setting_at, level_at}
use Rattle.configuration.specs.Shape.{Shape, unplaced, alone, shared}
use Rattle.response.specs.Demand.{bound}
use Rattle.response.proofs.Easier.{bound-same, bound-alone}
use Rattle.marker.specs.Bounds.{quanta_of, layer_of, above_of}
use Rattle.marker.proofs.Configured.{quantum-at}
use Rattle.assignment.specs.Plan.{Stage, setting_in, setting_left, put, place, place_by}

-- The marker's bound of a job that is placed.
abbrev placed_bound : List Job → List Setting → ℕ → ℕ
placed_bound jobs settings k = bound jobs (quanta_of settings) (layer_of settings (level_at settings k)) (above_of settings (level_at settings k)) k

-- What holds when the levels past v are settled.
pub record Good (jobs : List Job) (low high v : ℕ) (stage : Stage) : Type 0 where
  pub less : stage.left < 2 ^ length jobs
  pub settings : length stage.settings ≡ length jobs
  pub bounds : length stage.bounds ≡ length jobs
  pub ids : (k : ℕ) → k < length jobs → (setting_at stage.settings k).id ≡ (job_at jobs k).id
  -- A job left is not placed and has no bound.
  pub left : (k : ℕ) → k < length jobs → has stage.left k ≡ true
      → (setting_at stage.settings k ≡ setting_left (job_at jobs k).id) × (get_or stage.bounds k 0 ≡ 0)
  -- A job placed stands on a level past v, has one of the shapes, and is served.
  pub level : (k : ℕ) → k < length jobs → has stage.left k ≡ false → v < level_at stage.settings k
  pub shape : (k : ℕ) → k < length jobs → has stage.left k ≡ false → Shape (length jobs) low high stage.settings k
  pub served : (k : ℕ) → k < length jobs → has stage.left k ≡ false
      → (get_or stage.bounds k 0 ≡ placed_bound jobs stage.settings k) × (0 < get_or stage.bounds k 0)

-- ---- the setting of a job in a layer of m jobs

module _ (id level m quantum : ℕ) where
  abbrev Fifo : Setting
  Fifo = record { id = id; level = level; policy = fifo; quantum = 0 }

  abbrev RoundRobin : Setting
  RoundRobin = record { id = id; level = level; policy = round_robin; quantum = quantum }

  setting-one : m ≡ 1 → setting_in id level m quantum ≡ Fifo
  unfolding setting_in
  setting-one e = ap (λ (b : Bool). cond b Fifo RoundRobin) (eq-eqb m 1 e)

  setting-more : m ≢ 1 → setting_in id level m quantum ≡ RoundRobin
  unfolding setting_in
  setting-more e = ap (λ (b : Bool). cond b Fifo RoundRobin) (ne_eqb m 1 e)

  setting-level : (setting_in id level m quantum).level ≡ level
  setting-level = elim (ℕ_discrete m 1) [ yes e ↦ ap (λ (x : Setting). x.level) (setting-one e) | no e ↦ ap (λ (x : Setting). x.level) (setting-more e) ]

  setting-id : (setting_in id level m quantum).id ≡ id
  setting-id = elim (ℕ_discrete m 1) [ yes e ↦ ap (λ (x : Setting). x.id) (setting-one e) | no e ↦ ap (λ (x : Setting). x.id) (setting-more e) ]

module _
    (jobs : List Job) (low high v : ℕ) (vn : suc v ≤ length jobs) (stage : Stage) (G : Good jobs low high (suc v) stage)
    (s : ℕ) (q : List ℕ) (sl : s < 2 ^ length jobs) (sub : Sub (length jobs) (has s) (has stage.left))
    (serve : (k : ℕ) → k < length jobs → has s k ≡ true → 0 < bound jobs q (has s) (has (rest stage.left s)) k)
    (ranged : (k : ℕ) → k < length jobs → has s k ≡ true → (low ≤ get_or q k 0) × (get_or q k 0 ≤ high))
  where
    abbrev n : ℕ
    n = length jobs

    abbrev old : List Setting
    old = stage.settings

    abbrev given : ℕ → Setting
    given k = setting_in (job_at jobs k).id (suc v) (size s) (get_or q k 0)

    abbrev new : List Setting
    new = put n (has s) given (setting_at old)

    abbrev above : ℕ
    above = rest stage.left s

    abbrev bounds : List ℕ
    bounds = put n (has s) (bound jobs q (has s) (has above)) (λ k. get_or stage.bounds k 0)

    setting-at : (k : ℕ) → k < n → setting_at new k ≡ cond (has s k) (given k) (setting_at old k)
    setting-at k l = list_at (λ i. cond (has s i) (given i) (setting_at old i)) n k blank_setting l

    at_new : (k : ℕ) → k < n → has s k ≡ true → setting_at new k ≡ given k
    at_new k l e = setting-at k l ∙ rw e

    at_old : (k : ℕ) → k < n → has s k ≡ false → setting_at new k ≡ setting_at old k
    at_old k l e = setting-at k l ∙ rw e

    new-level : (k : ℕ) → k < n → has s k ≡ true → level_at new k ≡ suc v
    new-level k l e = ap (λ (x : Setting). x.level) (at_new k l e) ∙ setting-level (job_at jobs k).id (suc v) (size s) (get_or q k 0)

    old-level : (k : ℕ) → k < n → has s k ≡ false → level_at new k ≡ level_at old k
    old-level k l e = ap (λ (x : Setting). x.level) (at_old k l e)

    -- A job that was placed is not of the layer.
    apart : (k : ℕ) → k < n → has stage.left k ≡ false → has s k ≡ false
    apart k l e = go (has s k) refl
      where
        go : (b : Bool) → has s k ≡ b → has s k ≡ false
        go false x = x
        go true x = absurd (false≢true (sym e ∙ sub k l x))

    left-level : (k : ℕ) → k < n → has stage.left k ≡ true → level_at old k ≡ 0
    left-level k l e = ap (λ (x : Setting). x.level) (G.left k l e).0

    rest_at : (k : ℕ) → has above k ≡ (has stage.left k && not (has s k))
    rest_at k = has_rest k stage.left s

    -- ---- the new layer, and who is above it

    layer : (i : ℕ) → i < n → layer_of new (suc v) i ≡ has s i
    layer i l = go (has s i) refl (has stage.left i) refl
      where
        go : (b : Bool) → has s i ≡ b → (c : Bool) → has stage.left i ≡ c → layer_of new (suc v) i ≡ has s i
        go true e c f = eq-eqb (level_at new i) (suc v) (new-level i l e) ∙ sym e
        go false e true f = ne_eqb (level_at new i) (suc v) (λ x. omega (arith, old-level i l e, left-level i l f)) ∙ sym e
        go false e false f = ne_eqb (level_at new i) (suc v) (λ x. omega (arith, old-level i l e, G.level i l f)) ∙ sym e

    over : (i : ℕ) → i < n → above_of new (suc v) i ≡ has above i
    over i l = go (has s i) refl (has stage.left i) refl
      where
        go : (b : Bool) → has s i ≡ b → (c : Bool) → has stage.left i ≡ c → above_of new (suc v) i ≡ has above i
        go true e c f =
            le-ltb (level_at new i) (suc v) (omega (arith, new-level i l e))
            ∙ sym (rest_at i ∙ ap (λ (x : Bool). has stage.left i && not x) e ∙ and-false (has stage.left i))
        go false e true f = lt-ltb (level_at new i) (suc v) (omega (arith, old-level i l e, left-level i l f)) ∙ sym (rest_at i ∙ ap₂ (λ (x y : Bool). x && not y) f e)
        go false e false f = le-ltb (level_at new i) (suc v) (omega (arith, old-level i l e, G.level i l f)) ∙ sym (rest_at i ∙ ap₂ (λ (x y : Bool). x && not y) f e)

    -- ---- the older layers, and who is above them

    module _ (k : ℕ) (l : k < n) (placed : has stage.left k ≡ false) where
      kept : level_at new k ≡ level_at old k
      kept = old-level k l (apart k l placed)

      lower : suc v < level_at old k
      lower = G.level k l placed

      -- A job of the new layer was above this one, and still is.
      other-layer : (i : ℕ) → i < n → has s i ≡ true → layer_of old (level_at old k) i ≡ false
      other-layer i il e = ne_eqb (level_at old i) (level_at old k) (λ x. omega (arith, left-level i il (sub i il e), lower))

      layer-kept : (i : ℕ) → i < n → layer_of new (level_at new k) i ≡ layer_of old (level_at old k) i
      layer-kept i il = go (has s i) refl
        where
          go : (b : Bool) → has s i ≡ b → layer_of new (level_at new k) i ≡ layer_of old (level_at old k) i
          go true e = ne_eqb (level_at new i) (level_at new k) (λ x. omega (arith, new-level i il e, kept, lower)) ∙ sym (other-layer i il e)
          go false e = ap₂ eqb (old-level i il e) kept

      over-kept : (i : ℕ) → i < n → above_of new (level_at new k) i ≡ above_of old (level_at old k) i
      over-kept i il = go (has s i) refl
        where
          go : (b : Bool) → has s i ≡ b → above_of new (level_at new k) i ≡ above_of old (level_at old k) i
          go true e =
              lt-ltb (level_at new i) (level_at new k) (omega (arith, new-level i il e, kept, lower))
              ∙ sym (lt-ltb (level_at old i) (level_at old k) (omega (arith, left-level i il (sub i il e), lower)))
          go false e = ap₂ ltb (old-level i il e) kept

      quantum-kept : (i : ℕ) → i < n → layer_of old (level_at old k) i ≡ true → get_or (quanta_of new) i 0 ≡ get_or (quanta_of old) i 0
      quantum-kept i il x = go (has s i) refl
        where
          go : (b : Bool) → has s i ≡ b → get_or (quanta_of new) i 0 ≡ get_or (quanta_of old) i 0
          go true e = absurd (false≢true (sym (other-layer i il e) ∙ x))
          go false e = quantum-at new i ∙ ap (λ (y : Setting). y.quantum) (at_old i il e) ∙ sym (quantum-at old i)

      bound-kept : placed_bound jobs new k ≡ placed_bound jobs old k
      bound-kept =
          bound-same jobs k (quanta_of new) (quanta_of old) (layer_of new (level_at new k)) (layer_of old (level_at old k)) (above_of new (level_at new k)) (above_of old (level_at old k))
          (quantum-kept k l (eq-eqb (level_at old k) (level_at old k) refl)) quantum-kept layer-kept over-kept

      shape-kept : Shape n low high old k → Shape n low high new k
      shape-kept (unplaced a b c) = absurd (omega (arith, lower))
      shape-kept (alone a b c d e) =
          let w = at_old k l (apart k l placed) in
          alone (rw w a) (omega (arith, kept)) (omega (arith, kept)) (rw w d)
          (λ i il x. e i il (eqb-true (level_at old i) (level_at old k) (sym (layer-kept i il) ∙ eq-eqb (level_at new i) (level_at new k) x)))
      shape-kept (shared a b c d e i il x y) =
          let w = at_old k l (apart k l placed) in
          shared (rw w a) (omega (arith, kept)) (omega (arith, kept)) (rw w d) (rw w e)
          i il (eqb-true (level_at new i) (level_at new k) (layer-kept i il ∙ eq-eqb (level_at old i) (level_at old k) x)) y

    -- ---- a job of the new layer

    quantum-new : size s ≢ 1 → (i : ℕ) → i < n → has s i ≡ true → get_or (quanta_of new) i 0 ≡ get_or q i 0
    quantum-new o i il e =
        quantum-at new i ∙ ap (λ (x : Setting). x.quantum) (at_new i il e ∙ setting-more (job_at jobs i).id (suc v) (size s) (get_or q i 0) o)

    module _ (k : ℕ) (l : k < n) (sk : has s k ≡ true) where
      at_level : (i : ℕ) → i < n → layer_of new (level_at new k) i ≡ has s i
      at_level i il = ap (λ (x : ℕ). layer_of new x i) (new-level k l sk) ∙ layer i il

      over-level : (i : ℕ) → i < n → above_of new (level_at new k) i ≡ has above i
      over-level i il = ap (λ (x : ℕ). above_of new x i) (new-level k l sk) ∙ over i il

      only : size s ≡ 1 → Alone n (has s) k
      only o i il x = size-one n s sl o i k x sk

      bound-new : placed_bound jobs new k ≡ bound jobs q (has s) (has above) k
      bound-new = elim (ℕ_discrete (size s) 1) [
        | yes o ↦
            bound-alone jobs k (quanta_of new) q (layer_of new (level_at new k)) (has s) (above_of new (level_at new k)) (has above)
            (λ i il x. only o i il (sym (at_level i il) ∙ x)) (only o) over-level
        | no o ↦
            bound-same jobs k (quanta_of new) q (layer_of new (level_at new k)) (has s) (above_of new (level_at new k)) (has above)
            (quantum-new o k l sk) (quantum-new o) at_level over-level
      ]

      shape-new : Shape n low high new k
      shape-new = elim (ℕ_discrete (size s) 1) [
        | yes o ↦
            let w = at_new k l sk ∙ setting-one (job_at jobs k).id (suc v) (size s) (get_or q k 0) o in
            alone (ap (λ (x : Setting). x.policy) w) (omega (arith, new-level k l sk)) (omega (arith, new-level k l sk)) (ap (λ (x : Setting). x.quantum) w)
            (λ i il x. only o i il (sym (at_level i il) ∙ eq-eqb (level_at new i) (level_at new k) x))
        | no o ↦
            let w = at_new k l sk ∙ setting-more (job_at jobs k).id (suc v) (size s) (get_or q k 0) o in
            let e : (setting_at new k).quantum ≡ get_or q k 0 = ap (λ (x : Setting). x.quantum) w in
            let r = ranged k l sk in
            let j = size-more n s sl k sk o in
            shared (ap (λ (x : Setting). x.policy) w) (omega (arith, new-level k l sk)) (omega (arith, new-level k l sk)) (omega (arith, r.0)) (omega (arith, r.1))
            j.0 j.1 (eqb-true (level_at new j.0) (level_at new k) (at_level j.0 j.1 ∙ j.2)) j.3
      ]

    -- ---- all of it

    bound_at : (k : ℕ) → k < n → get_or bounds k 0 ≡ cond (has s k) (bound jobs q (has s) (has above) k) (get_or stage.bounds k 0)
    bound_at k l = list_at (λ i. cond (has s i) (bound jobs q (has s) (has above) i) (get_or stage.bounds i 0)) n k 0 l

    id-at : (k : ℕ) → k < n → (setting_at new k).id ≡ (job_at jobs k).id
    id-at k l = go (has s k) refl
      where
        go : (b : Bool) → has s k ≡ b → (setting_at new k).id ≡ (job_at jobs k).id
        go true e = ap (λ (x : Setting). x.id) (at_new k l e) ∙ setting-id (job_at jobs k).id (suc v) (size s) (get_or q k 0)
        go false e = ap (λ (x : Setting). x.id) (at_old k l e) ∙ G.ids k l

    -- A job that is not left is of the new layer, or was placed before.
    which : (k : ℕ) → has above k ≡ false → (has s k ≡ true) ⊎ (has stage.left k ≡ false)
    which k e = go (has s k) refl (has stage.left k) refl
      where
        go : (b : Bool) → has s k ≡ b → (c : Bool) → has stage.left k ≡ c → (has s k ≡ true) ⊎ (has stage.left k ≡ false)
        go true x c y = inl x
        go false x false y = inr y
        go false x true y = absurd (false≢true (sym e ∙ rest_at k ∙ ap₂ (λ (a b : Bool). a && not b) y x))

    pub placed-good : Good jobs low high v (place jobs (suc v) s q stage)
    unfolding place_by
    placed-good = record {
      less = rest_lt n stage.left s G.less;
      settings = list_length (λ i. cond (has s i) (given i) (setting_at old i)) n;
      bounds = list_length (λ i. cond (has s i) (bound jobs q (has s) (has above) i) (get_or stage.bounds i 0)) n;
      ids = id-at;
      left = λ k l e.
          let w = (and-eq-true_iff (has stage.left k) (not (has s k))).0 (sym (rest_at k) ∙ e) in
          let g = G.left k l w.0 in
          let f = not-true (has s k) w.1 in
          (at_old k l f ∙ g.0, bound_at k l ∙ rw f g.1);
      level = λ k l e. ⊎_elim (λ x. omega (arith, new-level k l x)) (λ y. omega (arith, kept k l y, G.level k l y)) (which k e);
      shape = λ k l e. ⊎_elim (λ x. shape-new k l x) (λ y. shape-kept k l y (G.shape k l y)) (which k e);
      served = λ k l e. ⊎_elim
          (λ x. let b : get_or bounds k 0 ≡ bound jobs q (has s) (has above) k = bound_at k l ∙ rw x in
          (b ∙ sym (bound-new k l x), rw b (serve k l x)))
          (λ y. let b : get_or bounds k 0 ≡ get_or stage.bounds k 0 = bound_at k l ∙ rw (apart k l y) in
          (b ∙ (G.served k l y).0 ∙ sym (bound-kept k l y), rw b (G.served k l y).1))
          (which k e);
    }
