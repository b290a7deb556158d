-- The files of a board, read one after another.
use Rattle.std.proofs.Common.{◌≡◌, ℕ, ◌≤◌, List, [], ◌∷◌, ◌++◌, length, take, map, Result, Ok, Err, sym, ap, subst, ◌∙◌, arith}
use Rattle.std.specs.Prelude.{IsErrAnd}
use Rattle.std.proofs.lemmas.List.{append-nil, take_all}
use Rattle.jh_outside.specs.declared.files.Files.{Ghosts}
use Rattle.jh_outside.specs.Ask.{Ask, handed}
use Rattle.jh_outside.specs.Trail.{Asks, AsksAll, AsksUpTo}
use Rattle.jh_outside.proofs.Public.{all_both, up_to_last, up_to_behind}
use Rattle.jh_cellcfg.specs.declared.config.SystemConfig.{SystemConfig}
use Rattle.jh_script.specs.declared.image.Preload.{Preload}
use Rattle.jh_script.specs.declared.image.Program.{Program}
use Rattle.jh_script.specs.declared.image.Image.{Image}
use Rattle.jh_image.specs.declared.board.Listing.{Listing}
use Rattle.jh_spec.specs.declared.fault.JsonFault.{JsonFault}
use Rattle.jh_spec.specs.declared.fault.JsonFault.TheVariants as boards
use Rattle.jh_image.specs.declared.fault.ImageCause.{ImageCause}
use Rattle.jh_image.specs.declared.fault.ImageFault.{ImageFault}
use Rattle.jh_image.specs.Files.{Contents}
use Rattle.jh_image.specs.Images.{Stage, with_system, so_far_of, IsNextFile, ReadsTo}
use Rattle.jh_image.specs.Causes.{HasCause, IsCauseOf, OnRefused, IsImageAnswer}
use Rattle.jh_image.specs.Private.Causes.{IsBoardRefusal}
use Rattle.jh_image.specs.Order.{last_ask, preload_name, program_name, board_files, files_read, AsksBoardUntil}
use Rattle.jh_image.specs.Private.Order.{AsksOnUntil}
use Rattle.jh_image.proofs.StopLemmas.{on_refused}

-- a cause that is no failed read is found in what was handed out
pub board_asked : (A : Ask → Type 0) (name board : List ℕ) (fault : JsonFault) → A (handed name) → (file : List ℕ) (cause : ImageCause) → IsBoardRefusal board fault file cause → A (last_ask cause name)
board_asked A name board boards.Json a file cause h = subst (λ k. A (last_ask k name)) (sym h.1) a
board_asked A name board (boards.Member member) a file cause h = subst (λ k. A (last_ask k name)) (sym h.1) a
board_asked A name board boards.NoMemory a file cause h = absurd h

-- ---- the files that are read at a stage

-- where no program is read, they are the board, its system and the first preloads
pub read_with_preloads : (board : List ℕ) (listing : Listing) (system : SystemConfig) (preloads : List Preload) (i : ℕ) → length preloads ≡ i
    → files_read board (with_system (so_far_of listing system preloads [])) ≡ (board ∷ listing.system ∷ []) ++ map preload_name (take i listing.preloads)
read_with_preloads board listing system preloads i count =
    ap (λ names. board ∷ listing.system ∷ names) (append-nil (map preload_name (take (length preloads) listing.preloads)) ∙ ap (λ n. map preload_name (take n listing.preloads)) count)

-- where all preloads are read, they are the board, its system, the preloads and the first programs
pub read_with_programs : (board : List ℕ) (listing : Listing) (system : SystemConfig) (preloads : List Preload) (programs : List Program) (i : ℕ) → length preloads ≡ length listing.preloads → length programs ≡ i
    → files_read board (with_system (so_far_of listing system preloads programs)) ≡ (board ∷ listing.system ∷ map preload_name listing.preloads) ++ map program_name (take i listing.programs)
read_with_programs board listing system preloads programs i all count =
    let le : length listing.preloads ≤ length preloads = omega arith in
    let whole : map preload_name (take (length preloads) listing.preloads) ≡ map preload_name listing.preloads = ap (λ files. map preload_name files) (take_all (length preloads) listing.preloads le) in
    let first : map program_name (take (length programs) listing.programs) ≡ map program_name (take i listing.programs) = ap (λ n. map program_name (take n listing.programs)) count in
    λ j. board ∷ listing.system ∷ (whole j ++ first j)

-- ---- where the reading stops

module _ {S : Type 0} (files : Ghosts S) (contents : Contents) (board : List ℕ) where
  -- the next file stops the reading, behind those that are read
  pub stops_at : (s t u : S) (stage : Stage) (name file : List ℕ) (cause : ImageCause) → ReadsTo contents board stage → IsNextFile board stage name → AsksAll files (files_read board stage) s t
      → HasCause contents board stage file cause → Asks files t (last_ask cause name ∷ []) u → AsksBoardUntil files contents board file cause s u
  stops_at s t u stage name file cause read next before stops asked = record {
    stops = record { stage = stage; read = read; stops = stops };
    name = name;
    next = next;
    asked = up_to_last files s t u (files_read board stage) (last_ask cause name) before asked;
  }

  -- the same, of the files behind some that were read before
  pub stops_on_at : (before more : List (List ℕ)) (s t u : S) (stage : Stage) (name file : List ℕ) (cause : ImageCause) → ReadsTo contents board stage → IsNextFile board stage name → files_read board stage ≡ before ++ more
      → AsksAll files more s t → HasCause contents board stage file cause → Asks files t (last_ask cause name ∷ []) u → AsksOnUntil files contents board before file cause s u
  stops_on_at before more s t u stage name file cause read next split first stops asked = record {
    stops = record { stage = stage; read = read; stops = stops };
    name = name;
    next = next;
    more = more;
    split = split;
    asked = up_to_last files s t u more (last_ask cause name) first asked;
  }

  pub stops_behind : (before : List (List ℕ)) (s t u : S) → AsksAll files before s t → (file : List ℕ) (cause : ImageCause) → AsksOnUntil files contents board before file cause t u → AsksBoardUntil files contents board file cause s u
  stops_behind before s t u first file cause on = record {
    stops = on.stops;
    name = on.name;
    next = on.next;
    asked = subst (λ names. AsksUpTo files names (last_ask cause on.name) s u) (sym on.split) (up_to_behind files s t u before on.more (last_ask cause on.name) first on.asked);
  }

  -- so it is answered, where the fault is passed up
  pub until_answers : (s t : S) (r : Result Image ImageFault) (fault : ImageFault) → IsErrAnd r (λ passed. passed ≡ fault) → OnRefused (λ file cause. AsksBoardUntil files contents board file cause s t) fault → IsImageAnswer contents board r
  until_answers s t (Ok image) fault is h = absurd is
  until_answers s t (Err passed) fault is h =
      subst (λ (e : ImageFault). OnRefused (IsCauseOf contents board) e) (sym is)
      (on_refused (λ file cause. AsksBoardUntil files contents board file cause s t) (IsCauseOf contents board) fault (λ file cause until. until.stops) h)

  -- ---- all files

  module _ (listing : Listing) where
    -- the board and its system were read
    pub to_the_system : (s t u : S) → Asks files s (handed board ∷ []) t → Asks files t (handed listing.system ∷ []) u → AsksAll files (board ∷ listing.system ∷ []) s u
    to_the_system s t u first asked = all_both files s t u (board ∷ []) (listing.system ∷ []) first asked

    pub to_the_preloads : (s t u : S) → AsksAll files (board ∷ listing.system ∷ []) s t → AsksAll files (map preload_name listing.preloads) t u → AsksAll files (board ∷ listing.system ∷ map preload_name listing.preloads) s u
    to_the_preloads s t u first asked = all_both files s t u (board ∷ listing.system ∷ []) (map preload_name listing.preloads) first asked

    pub to_the_programs : (s t u : S) → AsksAll files (board ∷ listing.system ∷ map preload_name listing.preloads) s t → AsksAll files (map program_name listing.programs) t u → AsksAll files (board_files board listing) s u
    to_the_programs s t u first asked = all_both files s t u (board ∷ listing.system ∷ map preload_name listing.preloads) (map program_name listing.programs) first asked
