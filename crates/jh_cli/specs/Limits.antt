-- How many bytes are asked of a file.
use Rattle.std.specs.Prelude.{ℕ, ◌+◌}
use Rattle.jh_image.specs.Files.{max_file_size}

-- how many bytes are asked of a file: one more than the 1 MiB that it may have
abbrev pub asked_of_a_file : ℕ
asked_of_a_file = max_file_size + 1

-- how many bytes are asked of a journal's file: one more than the 32 MiB that it may have
abbrev pub asked_of_a_journal : ℕ
asked_of_a_journal = 33554433
