-- What a schedule makes.
use Rattle.std.specs.Prelude.{ℕ, zero, suc, ◌+◌, Bool, true, false, nat_lt, if◌then◌else◌, List, [], ◌∷◌, ◌++◌, length, filter, fold, Option, Some, None}
use Rattle.jh_script.specs.declared.image.Image.{Image}
use Rattle.jh_history.specs.declared.form.Form.{Form}
use Rattle.jh_history.specs.declared.entry.Entry.{Entry}
use Rattle.jh_history.specs.Lives.{is_on_board}
use Rattle.jh_history.specs.Due.{due}

-- where items end: the journal, and whether it stopped at its limit
pub record Reached : Type 0 where
  pub entries : List Entry
  pub full : Bool

-- the journal with the entry that is due, if any
abbrev pub with_due : ℕ → List Entry → Option Entry → Reached
with_due limit entries None = record { entries = entries; full = false }
with_due limit entries (Some entry) = if nat_lt (length entries) limit then record { entries = entries ++ entry ∷ []; full = false } else record { entries = entries; full = true }

-- the journal with one item of a CPU; after a stop there is no other
abbrev pub with_item : Image → Form → ℕ → Reached → ℕ → Reached
with_item image form limit reached cpu = if reached.full then reached else with_due limit reached.entries (due image form reached.entries cpu)

-- the items of the CPUs, one after another
unfoldable pub items : Image → Form → ℕ → List ℕ → List Entry → Reached
items image form limit cpus entries = fold (with_item image form limit) (record { entries = entries; full = false }) cpus

-- the numbers below n, in rising order
abbrev pub below : ℕ → List ℕ
below zero = []
below (suc n) = below n ++ n ∷ []

-- the board's CPUs in rising order
unfoldable pub cpus_of : Image → List ℕ
cpus_of image = filter (is_on_board image) (below 16)

-- the items of so many rounds of the CPUs
abbrev pub rounds : ℕ → List ℕ → List ℕ
rounds zero cpus = []
rounds (suc n) cpus = rounds n cpus ++ cpus

-- the items of the schedule, and then rounds of all CPUs: these are enough, since a round adds an entry, or nothing is
-- due, or the limit has stopped the items; and at a quiet journal no item changes anything
unfoldable pub played : Image → Form → ℕ → List ℕ → Reached
played image form limit schedule = items image form limit (schedule ++ rounds (limit + 1) (cpus_of image)) []
