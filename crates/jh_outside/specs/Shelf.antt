-- What files in memory hold.
use Rattle.std.specs.Prelude.{◌≡◌, ℕ, List, if◌then◌else◌, Option, None, Some, refl}
use Rattle.std.specs.Coded.{Coded, code_by, coded×, coded_ℕ, coded_list}
use Rattle.std.specs.Ordering.{nat_cmp}
use Rattle.std.specs.Cmp.Lexicographic.{slice_cmp}
use Rattle.std.specs.FinMap as map
use Rattle.std.specs.FinSet as set
use Rattle.jh_num.specs.Numbers.{counted_up}
use Rattle.jh_outside.specs.Reads.{KnownFile}
use Rattle.jh_outside.specs.Ask.{Ask, ReadAnswer, Handed, Faulted, LackedMemory}

-- the bytes under each name, the numbers of the reads that fail and of the next one, the count of faults, and the name
-- of the last read that answered `Fault`
pub record Shelf : Type 0 where
  -- the bytes under each name
  pub files : map.FinMap (slice_cmp nat_cmp) (List ℕ)
  -- the numbers of the reads that fail
  pub failing : set.FinSet nat_cmp
  -- the number of the next read
  pub reads : ℕ
  pub faults : ℕ
  -- the name of the last read that answered `Fault`
  pub failed : List ℕ

-- a shelf is stored as the tuple of its fields
abbrev pub shelf_code : Coded Shelf
shelf_code =
    code_by (map.FinMap (slice_cmp nat_cmp) (List ℕ) × (set.FinSet nat_cmp × (ℕ × (ℕ × List ℕ))))
    (coded× (map.code (coded_list coded_ℕ) (coded_list coded_ℕ)) (coded× (set.code coded_ℕ) (coded× coded_ℕ (coded× coded_ℕ (coded_list coded_ℕ)))))
    (λ s. (s.files, (s.failing, (s.reads, (s.faults, s.failed)))))
    (λ p. record { files = p.0; failing = p.1.0; reads = p.1.1.0; faults = p.1.1.1.0; failed = p.1.1.1.1 })
    (λ _. refl)

-- what the files tell of the name: the bytes that it holds, or that it is missing
abbrev pub told_by : Shelf → List ℕ → KnownFile
told_by shelf name = Some (map.get shelf.files name)

-- what the next read finds, if it is of this name: nothing where it fails
abbrev pub next_read_finds : Shelf → List ℕ → Option (List ℕ)
next_read_finds shelf name = if set.contains shelf.failing shelf.reads then None else map.get shelf.files name

-- the files after a read of the name with this answer
abbrev pub shelf_after : Shelf → List ℕ → ReadAnswer → Shelf
shelf_after shelf name Handed = record shelf { reads = counted_up shelf.reads }
shelf_after shelf name Faulted = record shelf { reads = counted_up shelf.reads; faults = counted_up shelf.faults; failed = name }
shelf_after shelf name LackedMemory = record shelf { reads = counted_up shelf.reads }

-- what a read of files in memory does to them
abbrev pub AsksShelf : Shelf → Ask → Shelf → Type 0
AsksShelf old ask new = new ≡ shelf_after old ask.name ask.answer
