-- A configuration, defined by the reader's tests, taken apart into shapes and put together from them. Assumes nothing.
use Prim.Native.Nat.{ℕ, ◌<◌}
use mathlib.Core.Path.{◌≡◌, refl, sym, ◌∙◌}
use mathlib.Core.Bool.{Bool, true, false, and-eq-true_iff, false≢true}
use mathlib.Core.List.{List}
use native.Mathlib.Decide.{ℕ_discrete}
use native.Mathlib.Omega.{arith}
use lib.Dec.{leb, eqb}
use lib.ListN.{length}
use borrow.Author.Tests.{eq-eqb, eqb-true, leb-true, le-leb}
use Rattle.sets.proofs.Places.{every-at, every_of, count-only, count-other, count-two, count-alone}
use Rattle.records.specs.declared.job.Job.{Job}
use Rattle.configuration.specs.declared.setting.Setting.{Setting}
use Rattle.configuration.specs.declared.judge.SettingRule.TheVariants.{Id, Shape, Sharing}
use Rattle.configuration.specs.Settings.{not_placed, fifo, round_robin, setting_at}
use Rattle.configuration.specs.Configuration.{placed_level, shaped, on_level, sharing, levelled, setting_ok, Configuration}
use Rattle.configuration.specs.Shape.{Shape as ShapeOf, unplaced, alone, shared, Shapes}
use Rattle.configuration.proofs.Policies.{level-of, of-level, scheduled-fifo, scheduled-robin, scheduled-other, shaped-unplaced, shaped-off, shaped_on, share-fifo, share-robin, share_other}

-- ---- one setting beside the others

module _ (n low high : ℕ) (settings : List Setting) (k : ℕ) (kn : k < n) where
  abbrev setting : Setting
  setting = setting_at settings k

  here : on_level settings setting.level k ≡ true
  here = eq-eqb setting.level setting.level refl

  -- A placed setting that refusal 9 lets by is on a level.
  on-level : (setting.policy ≡ not_placed → ⊥) → shaped n low high setting ≡ true → placed_level n setting.level ≡ true
  on-level p s = go (placed_level n setting.level) refl
    where
      go : (b : Bool) → placed_level n setting.level ≡ b → placed_level n setting.level ≡ true
      go true e = e
      go false e = absurd (false≢true (sym (shaped-off n low high setting p e) ∙ s))

  -- From tests 9 and 10 the shape.
  shape_of : shaped n low high setting ≡ true → levelled n settings setting ≡ true → ShapeOf n low high settings k
  shape_of s l = elim (ℕ_discrete setting.policy not_placed) [
    | yes p ↦
        let w = (and-eq-true_iff (eqb setting.level 0) (eqb setting.quantum 0)).0 (sym (shaped-unplaced n low high setting p) ∙ s) in
        unplaced p (eqb-true _ _ w.0) (eqb-true _ _ w.1)
    | no p ↦ placed p (on-level p s)
  ]
    where
      placed : (setting.policy ≡ not_placed → ⊥) → placed_level n setting.level ≡ true → ShapeOf n low high settings k
      placed p e = elim (ℕ_discrete setting.policy fifo) [
        | yes q ↦
            let v = level-of n setting.level e in
            let c : sharing n settings setting.level ≡ 1 = eqb-true _ _ (sym (share-fifo setting.policy _ q) ∙ l) in
            alone q v.0 v.1 (eqb-true _ _ (sym (shaped_on n low high setting p e ∙ scheduled-fifo low high _ _ q) ∙ s))
            (λ i il x. count-only n (on_level settings setting.level) i k c il kn (eq-eqb _ _ x) here)
        | no q ↦ elim (ℕ_discrete setting.policy round_robin) [
          | yes r ↦
              let v = level-of n setting.level e in
              let w = (and-eq-true_iff (leb low setting.quantum) (leb setting.quantum high)).0 (sym (shaped_on n low high setting p e ∙ scheduled-robin low high _ _ r) ∙ s) in
              let o = count-other n (on_level settings setting.level) k (leb-true 2 _ (sym (share-robin setting.policy _ r) ∙ l)) in
              shared r v.0 v.1 (leb-true _ _ w.0) (leb-true _ _ w.1) o.0 o.1 (eqb-true _ _ o.2) o.3
          | no r ↦ absurd (false≢true (sym (shaped_on n low high setting p e ∙ scheduled-other low high _ _ q r) ∙ s))
        ]
      ]

  -- From the shape tests 9 and 10.
  shape-9 : ShapeOf n low high settings k → shaped n low high setting ≡ true
  shape-9 (unplaced p v q) = shaped-unplaced n low high setting p ∙ simp (eq-eqb _ _ v, eq-eqb _ _ q)
  shape-9 (alone p a b q u) = shaped_on n low high setting (λ z. omega arith) (of-level n setting.level a b) ∙ scheduled-fifo low high _ _ p ∙ eq-eqb _ _ q
  shape-9 (shared p a b q r i il x y) = shaped_on n low high setting (λ z. omega arith) (of-level n setting.level a b) ∙ scheduled-robin low high _ _ p ∙ simp (le-leb _ _ q, le-leb _ _ r)

  shape-10 : ShapeOf n low high settings k → levelled n settings setting ≡ true
  shape-10 (unplaced p v q) = share_other setting.policy _ (λ z. omega arith) (λ z. omega arith)
  shape-10 (alone p a b q u) =
      share-fifo setting.policy _ p ∙ eq-eqb _ _ (count-alone n (on_level settings setting.level) k kn here (λ i il x. u i il (eqb-true _ _ x)))
  shape-10 (shared p a b q r i il x y) =
      share-robin setting.policy _ p ∙ le-leb _ _ (count-two n (on_level settings setting.level) i k y il kn (eq-eqb _ _ x) here)

-- ---- the configuration

-- Every configuration can be taken apart: each record has one of the three shapes, a policy 1 job is alone on its level, a policy 2 job is not.
pub shapes : (jobs : List Job) (low high : ℕ) (settings : List Setting) → Configuration jobs low high settings → Shapes jobs low high settings
shapes jobs low high settings c =
    let n = length jobs in
    record {
      size = eqb-true _ _ c.0;
      ids = λ k l. eqb-true _ _ (every-at (setting_ok Id n jobs low high settings) n c.1.0 k l);
      shape = λ k l. shape_of n low high settings k l
          (every-at (setting_ok Shape n jobs low high settings) n c.1.1.0 k l)
          (every-at (setting_ok Sharing n jobs low high settings) n c.1.1.1.0 k l);
    }

-- Settings of the three shapes are a configuration.
pub configuration : (jobs : List Job) (low high : ℕ) (settings : List Setting) → Shapes jobs low high settings → Configuration jobs low high settings
configuration jobs low high settings s =
    let n = length jobs in (
      eq-eqb _ _ s.size,
      (
        every_of (setting_ok Id n jobs low high settings) n (λ k l. eq-eqb _ _ (s.ids k l)),
        (
          every_of (setting_ok Shape n jobs low high settings) n (λ k l. shape-9 n low high settings k l (s.shape k l)),
          (every_of (setting_ok Sharing n jobs low high settings) n (λ k l. shape-10 n low high settings k l (s.shape k l)), tt),
        ),
      ),
    )
