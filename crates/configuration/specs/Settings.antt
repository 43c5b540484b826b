-- The configuration record: id, level, policy and quantum, one byte each (01, "Blocks"). Assumes nothing.
use Rattle.std.specs.Prelude.{ℕ, List, [], ◌∷◌, get_or}
use Rattle.records.specs.Limits.{most_jobs}
use Rattle.records.specs.Records.{chunks, table}
use Rattle.configuration.specs.declared.setting.Setting.{Setting}

-- The policies: not placed, sched_fifo, sched_rr.
abbrev pub not_placed : ℕ
not_placed = 0

abbrev pub fifo : ℕ
fifo = 1

abbrev pub round_robin : ℕ
round_robin = 2

-- The size of a configuration record in bytes.
abbrev pub setting_size : ℕ
setting_size = 4

-- The setting in the first bytes of a block, and the bytes of a setting.
abbrev pub setting_of : List ℕ → Setting
setting_of block = record { id = get_or block 0 0; level = get_or block 1 0; policy = get_or block 2 0; quantum = get_or block 3 0 }

unfoldable pub setting_bytes : Setting → List ℕ
setting_bytes setting = setting.id ∷ setting.level ∷ setting.policy ∷ setting.quantum ∷ []

-- The n settings of a block.
abbrev pub settings_in : ℕ → List ℕ → List Setting
settings_in n block = chunks setting_size setting_of n block

-- An entry of a table that holds no setting, and the setting at a place of a list.
abbrev pub blank_setting : Setting
blank_setting = record { id = 0; level = 0; policy = 0; quantum = 0 }

abbrev pub setting_at : List Setting → ℕ → Setting
setting_at settings i = get_or settings i blank_setting

abbrev pub level_at : List Setting → ℕ → ℕ
level_at settings i = (setting_at settings i).level

-- A table of settings, blank past the list.
abbrev pub setting_table : List Setting → List Setting
setting_table settings = table most_jobs blank_setting settings
