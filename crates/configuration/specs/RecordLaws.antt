-- What the record traits ask of settings: how long their bytes are, and that nothing past them is looked at. Assumes nothing.
use Prim.Native.Nat.{ℕ, ◌≤◌, ◌<◌}
use mathlib.Core.Path.{◌≡◌, refl}
use mathlib.Core.List.{List}
use native.Mathlib.Omega.{arith}
use lib.ListN.{length, get_or, take}
use lib.Seq.{get_or-take}
use Rattle.configuration.specs.Settings.{setting_size, setting_of, setting_bytes}
use Rattle.configuration.specs.declared.setting.Setting.{Setting}

pub setting-width : (setting : Setting) → length (setting_bytes setting) ≡ setting_size
unfolding setting_bytes
setting-width setting = refl

pub setting-own : (block : List ℕ) → setting_size ≤ length block → setting_of (take setting_size block) ≡ setting_of block
unfolding setting_of
setting-own block h =
    let same : (i : ℕ) → i < setting_size → get_or (take setting_size block) i 0 ≡ get_or block i 0 = λ i l. get_or-take setting_size block i 0 l in
    rw (same 0 (omega arith), same 1 (omega arith), same 2 (omega arith), same 3 (omega arith)) refl
