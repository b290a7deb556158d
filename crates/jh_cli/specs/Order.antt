-- The files that a call reads: in the order of its command, each once and no other, up to the one where the call ends.
use Rattle.std.specs.Prelude.{◌≡◌, ℕ, ◌⊎◌, List, [], ◌∷◌, ⊤, Option, Some, None}
use Rattle.jh_outside.specs.declared.files.Files.{Ghosts}
use Rattle.jh_outside.specs.Ask.{Ask, handed, faulted}
use Rattle.jh_outside.specs.Trail.{Asks, AsksAll, AsksUpTo}
use Rattle.jh_cellcfg.specs.declared.config.SystemConfig.{SystemConfig}
use Rattle.jh_script.specs.declared.image.Image.{Image}
use Rattle.jh_image.specs.declared.fault.ImageCause.{ImageCause}
use Rattle.jh_image.specs.Files.{Contents}
use Rattle.jh_image.specs.Images.{IsImage}
use Rattle.jh_image.specs.Order.{AsksBoard, AsksBoardUntil}
use Rattle.jh_cli.specs.Reading.{Reply, FileKind, Spells, EndsAt, EndsAtFile}
use Rattle.jh_cli.specs.Boards.{stopped}
use Rattle.jh_cli.specs.Check.{IsSystemFile, SystemRefusal, EndsAmong}
use Rattle.jh_cli.specs.Pack.{spec_file}
use Rattle.jh_cli.specs.Play.{schedule_file}
use Rattle.jh_cli.specs.Audit.{journal_file}
use Rattle.jh_cli.specs.Plan.{AdmittedRefusal, IsAdmittedSystemFile}
use Rattle.jh_cli.specs.Words.{Request, CheckOf, PackOf, PlayOf, RunOf, MapOf, AuditOf, SoakOf, PlanOf, PinsOf, TablesOf}
use Rattle.jh_cli.specs.declared.status.Status.{Status}
use Rattle.jh_cli.specs.declared.status.Status.TheVariants.{Refused, ReadFault}

-- a call with this status doesn't end at a file: each that it read was read, and none is refused
abbrev pub IsNoFileStatus : Status → Type 0
IsNoFileStatus Refused = ⊥
IsNoFileStatus ReadFault = ⊥
IsNoFileStatus _ = ⊤

-- the last read of a call with this status, of the file of this name: it failed where the status says so
abbrev pub last_ask : Status → List ℕ → Ask
last_ask ReadFault name = faulted name
last_ask _ name = handed name

-- `files` says what each read does, and which name the files keep. A call, or a part of one, takes them from `s` to `t`
module _ {S : Type 0} (files : Ghosts S) where
  -- no file is read
  abbrev pub AsksNone : S → S → Reply → Type 0
  AsksNone s t reply = Asks files s [] t

  -- these files are read, and the call doesn't end at one
  abbrev pub AsksWhole : S → S → List (List ℕ) → Reply → Type 0
  AsksWhole s t names reply = AsksAll files names s t × IsNoFileStatus reply.status

  -- these files are read, and then this one as the last of the call
  abbrev pub AsksTo : S → S → List (List ℕ) → List ℕ → Reply → Type 0
  AsksTo s t before name reply = AsksUpTo files before (last_ask reply.status name) s t

  -- a file of this kind is read as the last one: the call ends at it, or at none
  abbrev pub AsksFile : {A : Type 0} → S → S → Contents → List ℕ → FileKind A → Reply → Type 0
  AsksFile s t contents name kind reply = AsksTo s t [] name reply × (EndsAt kind.most contents name kind.Refusal reply ⊎ IsNoFileStatus reply.status)

  -- ---- a check

  -- the files of cells are read up to the one where the call ends
  pub record AsksToCell (s t : S) (contents : Contents) (names : List (List ℕ)) (reply : Reply) : Type 0 where
    pub ends : EndsAmong contents names reply
    pub asked : AsksTo s t ends.before ends.name reply

  -- the files of cells are read, up to the one where the call ends, or all of them
  abbrev pub AsksCells : S → S → Contents → List (List ℕ) → Reply → Type 0
  AsksCells s t contents names reply = AsksToCell s t contents names reply ⊎ AsksWhole s t names reply

  -- the system's file is read, and spells one; and then those of the cells are
  pub record AsksBehindSystem (s t : S) (contents : Contents) (system : List ℕ) (cells : List (List ℕ)) (reply : Reply) : Type 0 where
    pub of_system : SystemConfig
    pub spells : Spells contents system IsSystemFile of_system
    pub behind : S
    pub asked : AsksAll files (system ∷ []) s behind
    pub rest : AsksCells behind t contents cells reply

  -- the call ends at the system's file, or goes on to those of the cells
  abbrev pub AsksCheck : S → S → Contents → List ℕ → List (List ℕ) → Reply → Type 0
  AsksCheck s t contents system cells reply =
      (EndsAtFile contents system SystemRefusal reply × AsksTo s t [] system reply) ⊎ AsksBehindSystem s t contents system cells reply

  -- ---- a plan

  -- the system's file is read, and spells one that a board may have; and then that of the demands is, as the last
  pub record AsksBehindAdmitted (s t : S) (contents : Contents) (system demands : List ℕ) (reply : Reply) : Type 0 where
    pub of_system : SystemConfig
    pub spells : Spells contents system IsAdmittedSystemFile of_system
    pub behind : S
    pub asked : AsksAll files (system ∷ []) s behind
    pub rest : AsksTo behind t [] demands reply

  -- the call ends at the system's file, or goes on to that of the demands
  abbrev pub AsksPlan : S → S → Contents → List ℕ → List ℕ → Reply → Type 0
  AsksPlan s t contents system demands reply =
      (EndsAtFile contents system AdmittedRefusal reply × AsksTo s t [] system reply) ⊎ AsksBehindAdmitted s t contents system demands reply

  -- ---- a board

  -- the board's files are read up to the one that stops the reading, which the reply tells, and the call ends there
  pub record AsksToCause (s t : S) (contents : Contents) (board : List ℕ) (reply : Reply) : Type 0 where
    pub file : List ℕ
    pub cause : ImageCause
    pub until : AsksBoardUntil files contents board file cause s t
    pub told : reply ≡ stopped file cause

  -- the board's files are read, and make an image; `Rest` says what is read behind them for that image
  pub record AsksBehindBoard (s : S) (contents : Contents) (board : List ℕ) (Rest : Image → S → Reply → Type 0) (reply : Reply) : Type 0 where
    pub image : Image
    pub is : IsImage contents board image
    pub behind : S
    pub asked : AsksBoard files contents board s behind
    pub rest : Rest image behind reply

  -- the call ends at one of the board's files, or goes on behind all of them
  abbrev pub AsksBoardAnd : S → S → Contents → List ℕ → (Image → S → Reply → Type 0) → Reply → Type 0
  AsksBoardAnd s t contents board Rest reply = AsksToCause s t contents board reply ⊎ AsksBehindBoard s contents board Rest reply

  -- a board is read, and then a schedule for it
  abbrev pub AsksWithSchedule : S → S → Contents → List ℕ → List ℕ → Reply → Type 0
  AsksWithSchedule s t contents board schedule = AsksBoardAnd s t contents board (λ image behind. AsksFile behind t contents schedule (schedule_file image))

  -- a board is read, and then a journal
  abbrev pub AsksWithJournal : S → S → Contents → List ℕ → List ℕ → Reply → Type 0
  AsksWithJournal s t contents board journal = AsksBoardAnd s t contents board (λ image behind. AsksFile behind t contents journal journal_file)

  -- a board is read, and no file behind it
  abbrev pub AsksBoardAlone : S → S → Contents → List ℕ → Reply → Type 0
  AsksBoardAlone s t contents board = AsksBoardAnd s t contents board (λ image behind. AsksWhole behind t [])

  -- ---- a call

  -- what a call with this request reads; without a request nothing
  abbrev pub AsksFor : S → S → Contents → Option Request → Reply → Type 0
  AsksFor s t contents None = AsksNone s t
  AsksFor s t contents (Some (CheckOf system cells)) = AsksCheck s t contents system cells
  AsksFor s t contents (Some (PackOf spec)) = AsksFile s t contents spec spec_file
  AsksFor s t contents (Some (PlayOf board schedule)) = AsksWithSchedule s t contents board schedule
  AsksFor s t contents (Some (RunOf board)) = AsksBoardAlone s t contents board
  AsksFor s t contents (Some (MapOf board schedule)) = AsksWithSchedule s t contents board schedule
  AsksFor s t contents (Some (AuditOf board journal)) = AsksWithJournal s t contents board journal
  AsksFor s t contents (Some (SoakOf rounds)) = AsksNone s t
  AsksFor s t contents (Some (PlanOf system demands)) = AsksPlan s t contents system demands
  AsksFor s t contents (Some (PinsOf board schedule)) = AsksWithSchedule s t contents board schedule
  AsksFor s t contents (Some (TablesOf board schedule)) = AsksWithSchedule s t contents board schedule
