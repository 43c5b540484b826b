-- One configuration record: its width, and its round trips. Assumes nothing.
use Prim.Native.Nat.{ℕ, suc, ◌*◌, ◌≤◌}
use mathlib.Core.Path.{◌≡◌, refl, ◌∙◌}
use mathlib.Core.List.{List, ◌++◌}
use native.Mathlib.Omega.{arith}
use lib.ListN.{length, take, drop, length-drop}
use lib.Seq.{take_all}
use Rattle.configuration.specs.RecordLaws.{setting-width}
use Rattle.records.specs.Records.{flat}
use Rattle.records.proofs.FixedWidth.{spell, chunks-flat, flat-chunks}
use Rattle.configuration.specs.declared.setting.Setting.{Setting}
use Rattle.configuration.specs.Settings.{setting_size, setting_of, setting_bytes, settings_in}

setting-back : (setting : Setting) (s : List ℕ) → setting_of (setting_bytes setting ++ s) ≡ setting
unfolding setting_bytes
setting-back setting s = refl

setting-again : (n : ℕ) (s : List ℕ) → setting_size * suc n ≤ length s
    → (setting_bytes (setting_of s) ≡ take setting_size s) × (setting_size * n ≤ length (drop setting_size s))
unfolding setting_bytes
setting-again n s h =
    let long : setting_size ≤ length s = omega arith in
    (rw (spell setting_size 0 s long), simp length-drop (omega arith))

-- What was written is read back.
pub settings-back : (settings : List Setting) → settings_in (length settings) (flat setting_bytes settings) ≡ settings
settings-back settings = chunks-flat setting_size setting_bytes setting_of setting-width setting-back settings

-- What was read is written again as it stood.
pub settings-again : (n : ℕ) (s : List ℕ) → length s ≡ setting_size * n → flat setting_bytes (settings_in n s) ≡ s
settings-again n s h =
    let l : setting_size * n ≤ length s = omega arith in
    flat-chunks setting_size setting_bytes setting_of (λ k t. setting_size * k ≤ length t) setting-again n s l ∙ take_all (setting_size * n) s (omega arith)
