-- The slots of stage-2 tables: each level looks nine more bits of an address up, 38 to 30 at level 1,
-- 29 to 21 at level 2 and 20 to 12 at level 3 (VMSAv8-64, 4 KB granule).
use Rattle.std.specs.Prelude.{ℕ, ◌/◌, ◌%◌}
use Rattle.jh_num.specs.Levels.{slot_size}

-- the number of the address's slot in its table of 512
abbrev pub index_of : ℕ → ℕ → ℕ
index_of level at = at / slot_size level % 512
