-- A board of which the files tell all that it names: what is said of it holds too where the files tell every name.
use Rattle.std.proofs.Common.{◌≡◌, ◌≢◌, ℕ, zero, suc, ◌+◌, List, [], ◌∷◌, ◌++◌, length, None, Some, refl, subst}
use Rattle.std.specs.Prelude.{map, slice_get}
use Rattle.std.specs.List.{AllByRecursion}
use Rattle.jh_outside.specs.Reads.{KnownFile, HandsOut}
use Rattle.jh_cellcfg.specs.declared.config.SystemConfig.{SystemConfig}
use Rattle.jh_script.specs.declared.image.Image.{Image}
use Rattle.jh_script.specs.declared.image.Preload.{Preload}
use Rattle.jh_script.specs.declared.image.Program.{Program}
use Rattle.jh_image.specs.declared.board.Listing.{Listing}
use Rattle.jh_image.specs.declared.board.PreloadFile.{PreloadFile}
use Rattle.jh_image.specs.declared.board.ProgramFile.{ProgramFile}
use Rattle.jh_image.specs.declared.fault.ImageCause.{ImageCause}
use Rattle.jh_image.specs.Files.{Contents, max_file_size, HasBytes, IsOversize, Lists, SpellsSystem, IsPreloadOf, IsProgramOf}
use Rattle.jh_image.specs.Images.{SoFar, Stage, nothing, with_listing, with_system, so_far_of, IsNextPreload, IsNextProgram, IsNextFile, the_board, the_system, a_preload, a_program, ReadsNext, reads_board, reads_system, reads_preload, reads_program, ReadsTo, nothing_read, one_more_read, IsImage}
use Rattle.jh_image.specs.Causes.{cannot_be_read, is_too_large, IsBoardFault, is_no_object, has_bad_member, IsSystemFault, is_no_system, has_findings, HasCause, by_file, by_board, by_system, by_pool, by_preload, by_program, IsCauseOf}
use Rattle.jh_image.specs.Order.{preload_name, program_name}
use Rattle.jh_image.specs.Laws.{AreKnown}
use Rattle.jh_cli.specs.Complete.{AreKnownNames, IsKnownBoard}

-- ---- lists

module _ {X : Type 0} (P : List ℕ → Type 0) (f : X → List ℕ) where
  all_get : (xs : List X) (n : ℕ) (x : X) → slice_get xs n ≡ Some x → AllByRecursion P (map f xs) → P (f x)
  all_get [] n x is h = absurd (cc)
  all_get (y ∷ ys) zero x is h = let same : y ≡ x = cc is in subst (λ z. P (f z)) same h.0
  all_get (y ∷ ys) (suc n) x is h = all_get ys n x is h.1

module _ (P : List ℕ → Type 0) where
  all_front : (xs ys : List (List ℕ)) → AllByRecursion P (xs ++ ys) → AllByRecursion P xs
  all_front [] ys h = tt
  all_front (x ∷ xs) ys h = (h.0, all_front xs ys h.1)

  all_back : (xs ys : List (List ℕ)) → AllByRecursion P (xs ++ ys) → AllByRecursion P ys
  all_back [] ys h = h
  all_back (x ∷ xs) ys h = all_back xs ys h.1

-- ---- one file

abbrev or_missing : KnownFile → KnownFile
or_missing None = Some None
or_missing (Some held) = Some held

-- the same files, in which what isn't told is missing
abbrev pub all_told : Contents → Contents
all_told contents name = or_missing (contents name)

is_told : (told : KnownFile) → or_missing told ≢ None
is_told None h = absurd (cc)
is_told (Some held) h = absurd (cc)

pub each_is_told : (contents : Contents) → AreKnown (all_told contents)
each_is_told contents name = is_told (contents name)

hands : (told : KnownFile) (most : ℕ) (bytes : List ℕ) → told ≢ None → HandsOut told most bytes → HandsOut (or_missing told) most bytes
hands None most bytes is h = absurd (is refl)
hands (Some None) most bytes is h = h
hands (Some (Some held)) most bytes is h = h

module _ (contents : Contents) where
  abbrev IsKnown : List ℕ → Type 0
  IsKnown name = contents name ≢ None

  has : (name bytes : List ℕ) → IsKnown name → HasBytes contents name bytes → HasBytes (all_told contents) name bytes
  has name bytes is h = record { handed = hands (contents name) (max_file_size + 1) bytes is h.handed; few = h.few }

  oversize : (name : List ℕ) → IsKnown name → IsOversize contents name → IsOversize (all_told contents) name
  oversize name is h = record { bytes = h.bytes; handed = hands (contents name) (max_file_size + 1) h.bytes is h.handed; many = h.many }

  lists : (board : List ℕ) (listing : Listing) → IsKnown board → Lists contents board listing → Lists (all_told contents) board listing
  lists board listing is h = record { bytes = h.bytes; has = has board h.bytes is h.has; told = h.told }

  spells : (name : List ℕ) (system : SystemConfig) → IsKnown name → SpellsSystem contents name system → SpellsSystem (all_told contents) name system
  spells name system is h = record { bytes = h.bytes; has = has name h.bytes is h.has; is = h.is }

  preload_of : (file : PreloadFile) (preload : Preload) → IsKnown file.file → IsPreloadOf contents file preload → IsPreloadOf (all_told contents) file preload
  preload_of file preload is h = record { has = has file.file preload.bytes is h.has; at = h.at }

  program_of : (file : ProgramFile) (program : Program) → IsKnown file.file → IsProgramOf contents file program → IsProgramOf (all_told contents) file program
  program_of file program is h = record { bytes = h.bytes; has = has file.file h.bytes is h.has; told = h.told; cell = h.cell; cpu = h.cpu }

  -- ---- the board

  module _ (board : List ℕ) (told : IsKnownBoard contents board) where
    at_board : IsKnown board
    at_board = told.of_board.0

    at_system : (listing : Listing) → Lists contents board listing → IsKnown listing.system
    at_system listing h = (told.of_files listing h).1.0

    at_preloads : (listing : Listing) → Lists contents board listing → AreKnownNames contents (map preload_name listing.preloads)
    at_preloads listing h = all_front IsKnown (map preload_name listing.preloads) (map program_name listing.programs) (told.of_files listing h).1.1

    at_programs : (listing : Listing) → Lists contents board listing → AreKnownNames contents (map program_name listing.programs)
    at_programs listing h = all_back IsKnown (map preload_name listing.preloads) (map program_name listing.programs) (told.of_files listing h).1.1

    -- what is listed at the stage
    abbrev IsListed : Stage → Type 0
    IsListed nothing = Unit {0}
    IsListed (with_listing listing) = Lists contents board listing
    IsListed (with_system so_far) = Lists contents board so_far.listing

    reads_listed : (s t : Stage) → ReadsNext contents board s t → IsListed s → IsListed t
    reads_listed s t (reads_board listing h) before = h
    reads_listed s t (reads_system listing system h sound) before = before
    reads_listed s t (reads_preload so_far file preload next is fit) before = before
    reads_listed s t (reads_program so_far file program next is) before = before

    is_listed : (s : Stage) → ReadsTo contents board s → IsListed s
    is_listed s nothing_read = tt
    is_listed s (one_more_read before now read last) = reads_listed before now last (is_listed before read)

    at_preload : (so_far : SoFar) (file : PreloadFile) → Lists contents board so_far.listing → IsNextPreload so_far file → IsKnown file.file
    at_preload so_far file listed_so next = all_get IsKnown preload_name so_far.listing.preloads (length so_far.preloads) file next (at_preloads so_far.listing listed_so)

    at_program : (so_far : SoFar) (file : ProgramFile) → Lists contents board so_far.listing → IsNextProgram so_far file → IsKnown file.file
    at_program so_far file listed_so next = all_get IsKnown program_name so_far.listing.programs (length so_far.programs) file next.next (at_programs so_far.listing listed_so)

    at_next : (stage : Stage) (file : List ℕ) → IsNextFile board stage file → IsListed stage → IsKnown file
    at_next stage file the_board before = at_board
    at_next stage file (the_system listing) before = at_system listing before
    at_next stage file (a_preload so_far entry next) before = at_preload so_far entry before next
    at_next stage file (a_program so_far entry next) before = at_program so_far entry before next

    one_read : (s t : Stage) → ReadsNext contents board s t → IsListed s → ReadsNext (all_told contents) board s t
    one_read s t (reads_board listing h) before = reads_board listing (lists board listing at_board h)
    one_read s t (reads_system listing system h sound) before = reads_system listing system (spells listing.system system (at_system listing before) h) sound
    one_read s t (reads_preload so_far file preload next is fit) before = reads_preload so_far file preload next (preload_of file preload (at_preload so_far file before next) is) fit
    one_read s t (reads_program so_far file program next is) before = reads_program so_far file program next (program_of file program (at_program so_far file before next) is)

    all_read : (s : Stage) → ReadsTo contents board s → ReadsTo (all_told contents) board s
    all_read s nothing_read = nothing_read
    all_read s (one_more_read before now read last) = one_more_read before now (all_read before read) (one_read before now last (is_listed before read))

    pub is_image : (image : Image) → IsImage contents board image → IsImage (all_told contents) board image
    is_image image h = record {
      listing = h.listing;
      read = all_read (with_system (so_far_of h.listing image.system image.preloads image.programs)) h.read;
      complete = h.complete;
    }

    board_fault : (cause : ImageCause) → IsBoardFault contents board cause → IsBoardFault (all_told contents) board cause
    board_fault cause (is_no_object bytes h bad) = is_no_object bytes (has board bytes at_board h) bad
    board_fault cause (has_bad_member bytes name h bad) = has_bad_member bytes name (has board bytes at_board h) bad

    system_fault : (file : List ℕ) (cause : ImageCause) → IsKnown file → IsSystemFault contents file cause → IsSystemFault (all_told contents) file cause
    system_fault file cause known (is_no_system bytes fault h first) = is_no_system bytes fault (has file bytes known h) first
    system_fault file cause known (has_findings system h some) = has_findings system (spells file system known h) some

    one_stop : (stage : Stage) (file : List ℕ) (cause : ImageCause) → HasCause contents board stage file cause → IsListed stage → HasCause (all_told contents) board stage file cause
    one_stop stage file cause (by_file at name _ next cannot_be_read) before = by_file at name _ next cannot_be_read
    one_stop stage file cause (by_file at name _ next (is_too_large over)) before = by_file at name _ next (is_too_large (oversize name (at_next at name next before) over))
    one_stop stage file cause (by_board _ h) before = by_board _ (board_fault _ h)
    one_stop stage file cause (by_system listing _ h) before = by_system listing _ (system_fault listing.system _ (at_system listing before) h)
    one_stop stage file cause (by_pool listing system h) before =
        by_pool listing system (record { spells = spells listing.system system (at_system listing before) h.spells; clean = h.clean; small = h.small })
    one_stop stage file cause (by_preload so_far h) before =
        by_preload so_far (record { file = h.file; next = h.next; preload = h.preload; read = preload_of h.file h.preload (at_preload so_far h.file before h.next) h.read; faulty = h.faulty })
    one_stop stage file cause (by_program so_far entry fault h) before =
        by_program so_far entry fault (record { next = h.next; bytes = h.bytes; has = has entry.file h.bytes (at_program so_far entry before h.next) h.has; told = h.told })

    pub stops : (file : List ℕ) (cause : ImageCause) → IsCauseOf contents board file cause → IsCauseOf (all_told contents) board file cause
    stops file cause h = record { stage = h.stage; read = all_read h.stage h.read; stops = one_stop h.stage file cause h.stops (is_listed h.stage h.read) }
