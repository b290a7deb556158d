-- What stops the reading of a board.
use Rattle.std.proofs.Common.{◌≡◌, ℕ, ◌<◌, ◌≤◌, List, [], length, Some, refl, subst, sym, Ok, Err}
use Rattle.std.specs.Prelude.{OnOk, IfErr, Result}
use Rattle.jh_syscfg.specs.SystemFaults.{system_fault}
use Rattle.jh_check.specs.Lists.{capped}
use Rattle.jh_check.specs.Findings.{findings}
use Rattle.jh_history.specs.Admitted.{IsAdmittedSystem, root_pages, pool_pages}
use Rattle.jh_cellcfg.specs.declared.config.SystemConfig.{SystemConfig}
use Rattle.jh_cellcfg.specs.declared.fault.ConfigFault.{ConfigFault}
use Rattle.jh_script.specs.declared.image.Preload.{Preload}
use Rattle.jh_image.specs.declared.board.Listing.{Listing}
use Rattle.jh_image.specs.declared.board.PreloadFile.{PreloadFile}
use Rattle.jh_image.specs.declared.board.ProgramFile.{ProgramFile}
use Rattle.jh_spec.specs.declared.fault.JsonFault.{JsonFault}
use Rattle.jh_spec.specs.declared.fault.JsonFault.TheVariants as boards
use Rattle.jh_image.specs.declared.fault.ImageCause.{ImageCause}
use Rattle.jh_image.specs.declared.fault.ImageCause.TheVariants.{ReadFault, Oversize, Json, Member, System, Findings, PoolSmall, Preload as BadPreload, Program as BadProgram}
use Rattle.jh_image.specs.declared.fault.ImageFault.{ImageFault}
use Rattle.jh_image.specs.declared.fault.ImageFault.TheVariants.{Refused, NoMemory}
use Rattle.jh_image.specs.Boards.{IsListingAnswer}
use Rattle.jh_image.specs.Preloads.{IsFaultless}
use Rattle.jh_image.specs.Files.{Contents, HasBytes, Lists, SpellsSystem, IsPreloadOf}
use Rattle.jh_image.specs.Images.{SoFar, Stage, nothing, with_listing, with_system, so_far_of, IsNextPreload, IsNextProgram, IsNextFile, a_preload, a_program, reads_board, reads_system, ReadsTo, nothing_read, one_more_read}
use Rattle.jh_image.specs.Causes.{cannot_be_read, is_too_large, is_no_object, has_bad_member, is_no_system, has_findings, by_file, by_board, by_system, by_pool, by_preload, by_program, HasCause, OnRefused}
use Rattle.jh_image.specs.Private.Causes.{IsFileRefusal, IsRefusal, IsBoardRefusal, IsUnadmitted, IsPoolSmall, IsPreloadCause, IsProgramCause}

-- what holds of the file and the cause that are refused
pub on_refusal : (P : List ℕ → ImageCause → Type 0) (name : List ℕ) (cause : ImageCause) (fault : ImageFault) → OnRefused (IsRefusal name cause) fault → P name cause → OnRefused P fault
on_refusal P name cause (Refused file found) h p = subst (λ f. P f found) (sym h.0) (subst (λ k. P name k) (sym h.1) p)
on_refusal P name cause NoMemory h p = tt

pub on_refused : (P Q : List ℕ → ImageCause → Type 0) (fault : ImageFault) → ((file : List ℕ) (cause : ImageCause) → P file cause → Q file cause) → OnRefused P fault → OnRefused Q fault
on_refused P Q (Refused file cause) f h = f file cause h
on_refused P Q NoMemory f h = tt

-- of two facts of the file and the cause that are refused a third
pub on_both : (P Q R : List ℕ → ImageCause → Type 0) (fault : ImageFault) → ((file : List ℕ) (cause : ImageCause) → P file cause → Q file cause → R file cause) → OnRefused P fault → OnRefused Q fault → OnRefused R fault
on_both P Q R (Refused file cause) f h k = f file cause h k
on_both P Q R NoMemory f h k = tt

-- what stops the reading, told by the file and the cause that are refused
refused_stops : (contents : Contents) (board name : List ℕ) (stage : Stage) (wanted : ImageCause) → HasCause contents board stage name wanted
    → (file : List ℕ) (cause : ImageCause) → IsRefusal name wanted file cause → HasCause contents board stage file cause
refused_stops contents board name stage wanted stops file cause h =
    subst (λ f. HasCause contents board stage f cause) (sym h.0) (subst (λ k. HasCause contents board stage name k) (sym h.1) stops)

-- the next file can't be read, or is too large
pub unread_stops : (contents : Contents) (board name : List ℕ) (stage : Stage) → IsNextFile board stage name
    → (file : List ℕ) (cause : ImageCause) → IsFileRefusal contents name file cause → HasCause contents board stage file cause
unread_stops contents board name stage next file ReadFault h =
    subst (λ f. HasCause contents board stage f ReadFault) (sym h) (by_file stage name ReadFault next cannot_be_read)
unread_stops contents board name stage next file Oversize h =
    subst (λ f. HasCause contents board stage f Oversize) (sym h.0) (by_file stage name Oversize next (is_too_large h.1))
unread_stops contents board name stage next file _ h = absurd h

-- the board has a fault
pub board_stops : (contents : Contents) (board bytes : List ℕ) (fault : JsonFault) → HasBytes contents board bytes → IsListingAnswer bytes (Err fault)
    → (file : List ℕ) (cause : ImageCause) → IsBoardRefusal board fault file cause → HasCause contents board nothing file cause
board_stops contents board bytes boards.Json has bad file cause h = refused_stops contents board board nothing Json (by_board Json (is_no_object bytes has bad)) file cause h
board_stops contents board bytes (boards.Member name) has bad file cause h =
    refused_stops contents board board nothing (Member name) (by_board (Member name) (has_bad_member bytes name has bad)) file cause h
board_stops contents board bytes boards.NoMemory has bad file cause h = absurd h

-- the board was read
pub board_read : (contents : Contents) (board : List ℕ) (listing : Listing) → Lists contents board listing → ReadsTo contents board (with_listing listing)
board_read contents board listing lists = one_more_read nothing (with_listing listing) nothing_read (reads_board listing lists)

-- the system's bytes have a fault
pub system_stops : (contents : Contents) (board bytes : List ℕ) (listing : Listing) (fault : ConfigFault) → HasBytes contents listing.system bytes → system_fault bytes ≡ Some fault
    → (file : List ℕ) (cause : ImageCause) → IsRefusal listing.system (System fault) file cause → HasCause contents board (with_listing listing) file cause
system_stops contents board bytes listing fault has first file cause h =
    refused_stops contents board listing.system (with_listing listing) (System fault) (by_system listing (System fault) (is_no_system bytes fault has first)) file cause h

-- the system was read, and is admitted
pub system_read : (contents : Contents) (board : List ℕ) (listing : Listing) (system : SystemConfig) → ReadsTo contents board (with_listing listing) → SpellsSystem contents listing.system system → IsAdmittedSystem system
    → ReadsTo contents board (with_system (so_far_of listing system [] []))
system_read contents board listing system read spells sound =
    one_more_read (with_listing listing) (with_system (so_far_of listing system [] [])) read (reads_system listing system spells sound)

-- or isn't
pub unsound_stops : (contents : Contents) (board : List ℕ) (listing : Listing) (system : SystemConfig) → SpellsSystem contents listing.system system
    → (file : List ℕ) (cause : ImageCause) → IsUnadmitted board listing.system system file cause → HasCause contents board (with_listing listing) file cause
unsound_stops contents board listing system spells file (Findings found) h =
    let At : List ℕ → ImageCause → Type 0 = HasCause contents board (with_listing listing) in
    let stops : At listing.system (Findings (capped (findings system []))) = by_system listing (Findings (capped (findings system []))) (has_findings system spells h.2) in
    subst (λ f. At f (Findings found)) (sym h.0) (subst (λ k. At listing.system (Findings k)) (sym h.1) stops)
unsound_stops contents board listing system spells file (PoolSmall need have) h =
    let At : List ℕ → ImageCause → Type 0 = HasCause contents board (with_listing listing) in
    let small : IsPoolSmall board system file (PoolSmall need have) = h.1 in
    let few : pool_pages system < root_pages system = subst (λ n. pool_pages system < n) small.1 (subst (λ n. n < need) small.2 small.3) in
    let stops : At board (PoolSmall (root_pages system) (pool_pages system)) = by_pool listing system (record { spells = spells; clean = h.0; small = few }) in
    subst (λ f. At f (PoolSmall need have)) (sym small.0)
    (subst (λ n. At board (PoolSmall n have)) (sym small.1) (subst (λ n. At board (PoolSmall (root_pages system) n)) (sym small.2) stops))
unsound_stops contents board listing system spells file _ h = absurd h

-- the preload that was read has a fault
pub faulty_preload : (contents : Contents) (board : List ℕ) (system : SystemConfig) (earlier : List Preload) (entry : PreloadFile) (preload : Preload) (number : ℕ) → IsPreloadOf contents entry preload
    → ¬ IsFaultless system.platform.hypervisor_memory earlier preload → number ≡ length earlier → IsPreloadCause contents board system earlier entry board (BadPreload number)
faulty_preload contents board system earlier entry preload number is faulty number_is = record { file_is = refl; number_is = number_is; preload = preload; read = is; faulty = faulty }

-- the file can't be read, or is too large
pub unread_preload : (contents : Contents) (board : List ℕ) (system : SystemConfig) (earlier : List Preload) (entry : PreloadFile) (file : List ℕ) (cause : ImageCause) → IsFileRefusal contents entry.file file cause
    → IsPreloadCause contents board system earlier entry file cause
unread_preload contents board system earlier entry file ReadFault h = h
unread_preload contents board system earlier entry file Oversize h = h
unread_preload contents board system earlier entry file _ h = absurd h

-- the next preload can't be read, or has a fault
pub preload_stops : (contents : Contents) (board : List ℕ) (so_far : SoFar) (entry : PreloadFile) → IsNextPreload so_far entry
    → (file : List ℕ) (cause : ImageCause) → IsPreloadCause contents board so_far.system so_far.preloads entry file cause → HasCause contents board (with_system so_far) file cause
preload_stops contents board so_far entry next file ReadFault h = unread_stops contents board entry.file (with_system so_far) (a_preload so_far entry next) file ReadFault h
preload_stops contents board so_far entry next file Oversize h = unread_stops contents board entry.file (with_system so_far) (a_preload so_far entry next) file Oversize h
preload_stops contents board so_far entry next file (BadPreload number) h =
    let At : List ℕ → ImageCause → Type 0 = HasCause contents board (with_system so_far) in
    let stops : At board (BadPreload (length so_far.preloads)) = by_preload so_far (record { file = entry; next = next; preload = h.preload; read = h.read; faulty = h.faulty }) in
    subst (λ f. At f (BadPreload number)) (sym h.file_is) (subst (λ n. At board (BadPreload n)) (sym h.number_is) stops)
preload_stops contents board so_far entry next file _ h = absurd h

-- the next program can't be read, or is none
pub program_stops : (contents : Contents) (board : List ℕ) (so_far : SoFar) (entry : ProgramFile) → IsNextProgram so_far entry
    → (file : List ℕ) (cause : ImageCause) → IsProgramCause contents entry.file file cause → HasCause contents board (with_system so_far) file cause
program_stops contents board so_far entry next file ReadFault h = unread_stops contents board entry.file (with_system so_far) (a_program so_far entry next) file ReadFault h
program_stops contents board so_far entry next file Oversize h = unread_stops contents board entry.file (with_system so_far) (a_program so_far entry next) file Oversize h
program_stops contents board so_far entry next file (BadProgram fault) h =
    subst (λ f. HasCause contents board (with_system so_far) f (BadProgram fault)) (sym h.file_is)
    (by_program so_far entry fault (record { next = next; bytes = h.bytes; has = h.has; told = h.told }))
program_stops contents board so_far entry next file _ h = absurd h

-- where nothing is found, a system with a small pool isn't admitted
small_unsound : (board name : List ℕ) (system : SystemConfig) → findings system [] ≡ [] → (file : List ℕ) (cause : ImageCause) → IsPoolSmall board system file cause → IsUnadmitted board name system file cause
small_unsound board name system clean file (PoolSmall need have) h = (clean, h)
small_unsound board name system clean file _ h = absurd h

pub checked_ok : {X : Type 0} (system : SystemConfig) → findings system [] ≡ [] → (r : Result X ImageFault) → OnOk r (root_pages system ≤ pool_pages system) → OnOk r (IsAdmittedSystem system)
checked_ok system clean (Ok x) h = record { clean = clean; room = h }
checked_ok system clean (Err e) h = tt

pub checked_err : {X : Type 0} (board name : List ℕ) (system : SystemConfig) → findings system [] ≡ [] → (r : Result X ImageFault) → IfErr r (OnRefused (IsPoolSmall board system)) → IfErr r (OnRefused (IsUnadmitted board name system))
checked_err board name system clean (Ok x) h = tt
checked_err board name system clean (Err e) h = on_refused (IsPoolSmall board system) (IsUnadmitted board name system) e (small_unsound board name system clean) h
