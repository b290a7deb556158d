-- What a journal comes to, in numbers.
use Rattle.std.specs.Prelude.{ℕ, Bool, true, false, List, length, count_by, sum_by, Some}
use Rattle.jh_history.specs.declared.entry.Entry.{Entry}
use Rattle.jh_history.specs.declared.entry.Act.{Act}
use Rattle.jh_history.specs.declared.entry.Act.TheVariants.{Read, Write}
use Rattle.jh_laws.specs.States.{is_stop_act}
use Rattle.jh_run.specs.declared.summary.Summary.{Summary}

-- the act is a read, be it a violation or not
abbrev pub is_read_act : Act → Bool
is_read_act (Read width at got) = true
is_read_act _ = false

-- the act is a write, be it a violation or not
abbrev pub is_write_act : Act → Bool
is_write_act (Write width at value ok) = true
is_write_act _ = false

-- the entry is a read, be it a violation or not
abbrev pub is_read : Entry → Bool
is_read entry = is_read_act entry.act

-- the entry is a write, be it a violation or not
abbrev pub is_write : Entry → Bool
is_write entry = is_write_act entry.act

-- the entry is a stop
abbrev pub is_stop : Entry → Bool
is_stop entry = is_stop_act entry.act

-- the value that a read got; 0 of a violation, and of every other act, fetches and awaits too
abbrev pub value_of_act : Act → ℕ
value_of_act (Read width at (Some value)) = value
value_of_act _ = 0

-- the value that the entry, a read, got; 0 of a violation, and of every other entry, fetches and awaits too
abbrev pub value_read : Entry → ℕ
value_read entry = value_of_act entry.act

-- the summary of these entries: how many there are, how many are reads, writes and stops, and the sum of the values
-- that the reads got
unfoldable pub summary_of : List Entry → Summary
summary_of entries = record {
  entries = length entries;
  reads = count_by is_read entries;
  writes = count_by is_write entries;
  stops = count_by is_stop entries;
  sum = sum_by value_read entries;
}
