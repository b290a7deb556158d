-- Where files tell what they hold, what follows each stage of the reading of a board is one.
use Rattle.std.proofs.Common.{◌≡◌, ◌≢◌, ℕ, ◌<◌, Bool, true, false, nat_lt, List, [], ◌∷◌, length, slice_get, Some, None, Result, Ok, Err, ◌⊎◌, inl, inr, refl, sym, ap, subst, ◌∙◌, arith}
use Rattle.std.proofs.lemmas.Bool.{lt-ltb, le-ltb}
use Rattle.std.proofs.lemmas.Option.{same_Some, none-some, slice_get_within}
use Rattle.serde_json.specs.Data.{Data}
use Rattle.jh_cellcfg.specs.declared.config.SystemConfig.{SystemConfig}
use Rattle.jh_cellcfg.specs.declared.fault.ConfigFault.{ConfigFault}
use Rattle.jh_syscfg.specs.Layout.{IsSystem, IsSystemWithinLimits, system_spelling}
use Rattle.jh_syscfg.specs.SystemFaults.{system_fault}
use Rattle.jh_check.specs.declared.finding.Finding.{Finding}
use Rattle.jh_check.specs.Lists.{capped, is_any}
use Rattle.jh_check.specs.Findings.{findings}
use Rattle.jh_script.specs.declared.op.Op.{Op}
use Rattle.jh_script.specs.declared.image.Preload.{Preload}
use Rattle.jh_script.specs.declared.fault.ProgramFault.{ProgramFault}
use Rattle.jh_script.specs.Programs.{program_of}
use Rattle.jh_history.specs.Admitted.{root_pages, pool_pages, IsAdmittedSystem}
use Rattle.jh_spec.specs.declared.fault.JsonFault.{JsonFault}
use Rattle.jh_spec.specs.declared.fault.JsonFault.TheVariants as boards
use Rattle.jh_spec.specs.Json.{IsText}
use Rattle.jh_image.specs.declared.board.Listing.{Listing}
use Rattle.jh_image.specs.declared.board.PreloadFile.{PreloadFile}
use Rattle.jh_image.specs.declared.board.ProgramFile.{ProgramFile}
use Rattle.jh_image.specs.declared.fault.ImageCause.{ImageCause}
use Rattle.jh_image.specs.declared.fault.ImageCause.TheVariants.{ReadFault, Oversize, Json, Member, System, Findings, PoolSmall, Preload as BadPreload, Program as BadProgram}
use Rattle.jh_image.specs.Boards.{board_told, IsListingAnswer}
use Rattle.jh_image.specs.Preloads.{IsFaultless}
use Rattle.jh_image.specs.Files.{Contents, HasBytes, IsOversize, IsSystemSpelling}
use Rattle.jh_image.specs.Images.{SoFar, Stage, nothing, with_listing, with_system, so_far_of, with_preload, with_program, IsNextPreload, HasAllPreloads, IsNextProgram, IsNextFile, the_board, the_system, a_preload, a_program, ReadsNext, reads_board, reads_system, reads_preload, reads_program}
use Rattle.jh_image.specs.Laws.{AreKnown}
use Rattle.jh_image.proofs.OneLemmas.{OneSpelling, bytes_one, text_one}

-- a spelling has no fault
abbrev pub SpellingsAreFaultless : Type 0
SpellingsAreFaultless = (system : SystemConfig) → IsSystem system → IsSystemWithinLimits system → system_fault (system_spelling system) ≡ None

-- ---- stages, and the file that is next

pub one_so_far : (one other : SoFar) → with_system one ≡ with_system other → one ≡ other
one_so_far one other e = cc

pub one_listing : (one other : Listing) → with_listing one ≡ with_listing other → one ≡ other
one_listing one other e = cc

pub same_preload : (one other : SoFar) (file entry : PreloadFile) → IsNextPreload one file → IsNextPreload other entry → one ≡ other → file ≡ entry
same_preload one other file entry next more same =
    same_Some file entry (sym next ∙ ap (λ (s : SoFar). slice_get s.listing.preloads (length s.preloads)) same ∙ more)

pub same_program : (one other : SoFar) (file entry : ProgramFile) → IsNextProgram one file → IsNextProgram other entry → one ≡ other → file ≡ entry
same_program one other file entry next more same =
    same_Some file entry (sym next.next ∙ ap (λ (s : SoFar). slice_get s.listing.programs (length s.programs)) same ∙ more.next)

-- no preload is next where none is left
pub no_preload : (one other : SoFar) (file : PreloadFile) → IsNextPreload one file → HasAllPreloads other → one ≡ other → ⊥
no_preload one other file next all same =
    let moved : IsNextPreload other file = subst (λ (s : SoFar). IsNextPreload s file) same next in
    let within : length other.preloads < length other.listing.preloads = slice_get_within other.listing.preloads (length other.preloads) file moved in
    let left : length other.preloads ≡ length other.listing.preloads = all in
    omega arith

-- what follows a stage: the stage to which the next file takes the reading, or the cause for which that file stops it
pub data Next : Type 0 where
  goes_on : Stage → Next
  stops : ImageCause → Next

-- ---- the board's own file

-- what follows once the board's file is answered
abbrev pub after_board : Result Listing JsonFault → Next
after_board (Ok listing) = goes_on (with_listing listing)
after_board (Err boards.Json) = stops Json
after_board (Err (boards.Member name)) = stops (Member name)
after_board (Err boards.NoMemory) = stops ReadFault

-- the answer is of the text
abbrev pub IsOfText : Result Listing JsonFault → Type 0
IsOfText answer = answer ≢ Err boards.NoMemory

-- a text's answer is what its value tells
told_alike : (bytes : List ℕ) (answer : Result Listing JsonFault) → IsListingAnswer bytes answer → IsOfText answer → (d : Data) → IsText bytes d → board_told d ≡ answer
told_alike bytes (Ok listing) h is d text = ap board_told (text_one bytes d h.0 text h.1) ∙ h.2
told_alike bytes (Err boards.Json) h is d text = h d text
told_alike bytes (Err (boards.Member name)) h is d text = ap board_told (text_one bytes d h.0 text h.1) ∙ h.2
told_alike bytes (Err boards.NoMemory) h is d text = absurd (is refl)

-- the bytes are a text, or no text
is_text : (bytes : List ℕ) (answer : Result Listing JsonFault) → IsListingAnswer bytes answer → IsOfText answer → ((d : Data) × IsText bytes d) ⊎ (answer ≡ Err boards.Json)
is_text bytes (Ok listing) h is = inl (h.0, h.1)
is_text bytes (Err boards.Json) h is = inr refl
is_text bytes (Err (boards.Member name)) h is = inl (h.0, h.1)
is_text bytes (Err boards.NoMemory) h is = absurd (is refl)

answer_one : (bytes : List ℕ) (one other : Result Listing JsonFault) → IsListingAnswer bytes one → IsListingAnswer bytes other → IsOfText one → IsOfText other → one ≡ other
answer_one bytes one other h k is is_too = elim (is_text bytes one h is) [
  | inl text ↦ sym (told_alike bytes one h is text.0 text.1) ∙ told_alike bytes other k is_too text.0 text.1
  | inr no_text ↦ elim (is_text bytes other k is_too) [
    | inl text ↦ sym (told_alike bytes one h is text.0 text.1) ∙ told_alike bytes other k is_too text.0 text.1
    | inr no_text_too ↦ no_text ∙ sym no_text_too
  ]
]

-- ---- the system's file

-- what follows a system, by whether something is found in it and whether its pool is too small
abbrev pub judged : Bool → Bool → Listing → SystemConfig → Next
judged true small listing system = stops (Findings (capped (findings system [])))
judged false true listing system = stops (PoolSmall (root_pages system) (pool_pages system))
judged false false listing system = goes_on (with_system (so_far_of listing system [] []))

abbrev pub is_small : SystemConfig → Bool
is_small system = nat_lt (pool_pages system) (root_pages system)

abbrev pub after_system : Listing → SystemConfig → Next
after_system listing system = judged (is_any (findings system [])) (is_small system) listing system

any_found : (found : List Finding) → found ≢ [] → true ≡ is_any found
any_found [] some = absurd (some refl)
any_found (finding ∷ more) some = refl

pub unsound_next : (listing : Listing) (system : SystemConfig) → findings system [] ≢ [] → stops (Findings (capped (findings system []))) ≡ after_system listing system
unsound_next listing system some = ap (λ any. judged any (is_small system) listing system) (any_found (findings system []) some)

pub small_next : (listing : Listing) (system : SystemConfig) → findings system [] ≡ [] → pool_pages system < root_pages system → stops (PoolSmall (root_pages system) (pool_pages system)) ≡ after_system listing system
small_next listing system clean small =
    ap (λ b. judged false b listing system) (sym (lt-ltb (pool_pages system) (root_pages system) small))
    ∙ ap (λ found. judged (is_any found) (is_small system) listing system) (sym clean)

sound_next : (listing : Listing) (system : SystemConfig) → IsAdmittedSystem system → goes_on (with_system (so_far_of listing system [] [])) ≡ after_system listing system
sound_next listing system sound =
    ap (λ b. judged false b listing system) (sym (le-ltb (pool_pages system) (root_pages system) sound.room))
    ∙ ap (λ found. judged (is_any found) (is_small system) listing system) (sym sound.clean)

-- ---- a preload's file, and a program's

-- what follows a preload, by whether it has a fault
abbrev pub AfterPreload : SoFar → Preload → Next → Type 0
AfterPreload so_far preload next =
    (IsFaultless so_far.system.platform.hypervisor_memory so_far.preloads preload × (next ≡ goes_on (with_system (with_preload so_far preload))))
    ⊎ ((¬ IsFaultless so_far.system.platform.hypervisor_memory so_far.preloads preload) × (next ≡ stops (BadPreload (length so_far.preloads))))

preload_next : (so_far : SoFar) (preload : Preload) (one other : Next) → AfterPreload so_far preload one → AfterPreload so_far preload other → one ≡ other
preload_next so_far preload one other (inl h) (inl k) = h.1 ∙ sym k.1
preload_next so_far preload one other (inl h) (inr k) = absurd (k.0 h.0)
preload_next so_far preload one other (inr h) (inl k) = absurd (h.0 k.0)
preload_next so_far preload one other (inr h) (inr k) = h.1 ∙ sym k.1

-- what follows what a program's text tells
abbrev pub after_program : SoFar → ProgramFile → Result (List Op) ProgramFault → Next
after_program so_far file (Ok ops) = goes_on (with_system (with_program so_far (record { cell = file.cell; cpu = file.cpu; ops = ops })))
after_program so_far file (Err fault) = stops (BadProgram fault)

-- ---- what the next file's bytes tell

-- at the stage, the bytes of the next file tell what follows
pub data Tells (bytes : List ℕ) : Stage → Next → Type 0 where
  listing_tells : (answer : Result Listing JsonFault) (next : Next) → IsOfText answer → IsListingAnswer bytes answer → next ≡ after_board answer → Tells bytes nothing next
  fault_tells : (listing : Listing) (fault : ConfigFault) (next : Next) → system_fault bytes ≡ Some fault → next ≡ stops (System fault) → Tells bytes (with_listing listing) next
  system_tells : (listing : Listing) (system : SystemConfig) (next : Next) → IsSystemSpelling bytes system → next ≡ after_system listing system → Tells bytes (with_listing listing) next
  preload_tells : (so_far : SoFar) (file : PreloadFile) (preload : Preload) (next : Next) → IsNextPreload so_far file → preload.at ≡ file.at → preload.bytes ≡ bytes
      → AfterPreload so_far preload next → Tells bytes (with_system so_far) next
  program_tells : (so_far : SoFar) (file : ProgramFile) (next : Next) → IsNextProgram so_far file → next ≡ after_program so_far file (program_of bytes) → Tells bytes (with_system so_far) next

module _ (spelling : OneSpelling) (faultless : SpellingsAreFaultless) (bytes : List ℕ) where
  -- what spells a system has no fault
  fault_or_system : (system : SystemConfig) (fault : ConfigFault) → IsSystemSpelling bytes system → system_fault bytes ≡ Some fault → ⊥
  fault_or_system system fault is first = none-some fault (sym (faultless system is.typed is.limits) ∙ ap system_fault (sym is.spelled) ∙ first)

  tells_one : (s r : Stage) (one other : Next) → Tells bytes s one → Tells bytes r other → s ≡ r → one ≡ other
  tells_one s r one other (listing_tells a _ is told n) (listing_tells b _ is_too told_too m) e = n ∙ ap after_board (answer_one bytes a b told told_too is is_too) ∙ sym m
  tells_one s r one other (fault_tells _ a _ first n) (fault_tells _ b _ first_too m) e = n ∙ ap (λ (f : ConfigFault). stops (System f)) (same_Some a b (sym first ∙ first_too)) ∙ sym m
  tells_one s r one other (fault_tells _ a _ first n) (system_tells _ system _ is m) e = absurd (fault_or_system system a is first)
  tells_one s r one other (system_tells _ system _ is n) (fault_tells _ b _ first m) e = absurd (fault_or_system system b is first)
  tells_one s r one other (system_tells listing a _ is n) (system_tells more b _ is_too m) e =
      let same = one_listing listing more e in
      let alike : a ≡ b = spelling a b is.typed is_too.typed is.limits is_too.limits (sym is.spelled ∙ is_too.spelled) in
      let both : after_system listing a ≡ after_system more b = λ i. after_system (same i) (alike i) in
      n ∙ both ∙ sym m
  tells_one s r one other (preload_tells a file x _ next at held n) (preload_tells b entry y _ next_too at_too held_too m) e =
      let same = one_so_far a b e in
      let places : x.at ≡ y.at = at ∙ ap (λ (f : PreloadFile). f.at) (same_preload a b file entry next next_too same) ∙ sym at_too in
      let contents : x.bytes ≡ y.bytes = held ∙ sym held_too in
      let preloads : x ≡ y = λ i. record { at = places i; bytes = contents i } in
      preload_next b y one other (subst (λ (p : Preload). AfterPreload b p one) preloads (subst (λ (so_far : SoFar). AfterPreload so_far x one) same n)) m
  tells_one s r one other (program_tells a file _ next n) (program_tells b entry _ next_too m) e =
      let same = one_so_far a b e in
      let files : file ≡ entry = same_program a b file entry next next_too same in
      let both : after_program a file (program_of bytes) ≡ after_program b entry (program_of bytes) = λ i. after_program (same i) (files i) (program_of bytes) in
      n ∙ both ∙ sym m
  tells_one s r one other (preload_tells a file x _ next at held n) (program_tells b entry _ next_too m) e = absurd (no_preload a b file next next_too.preloads (one_so_far a b e))
  tells_one s r one other (program_tells a file _ next n) (preload_tells b entry y _ next_too at held m) e = absurd (no_preload b a entry next_too next.preloads (sym (one_so_far a b e)))
  tells_one s r one other h k e = absurd cc

-- ---- the next file

-- what follows the stage once the file of this name is read
pub data Follows (contents : Contents) (stage : Stage) (name : List ℕ) : Next → Type 0 where
  oversize : IsOversize contents name → Follows contents stage name (stops Oversize)
  of_bytes : (bytes : List ℕ) (next : Next) → HasBytes contents name bytes → Tells bytes stage next → Follows contents stage name next

-- the file that is next is one
pub file_one : (board : List ℕ) (s r : Stage) (name other : List ℕ) → IsNextFile board s name → IsNextFile board r other → s ≡ r → name ≡ other
file_one board s r name other the_board the_board e = refl
file_one board s r name other (the_system one) (the_system two) e = ap (λ (l : Listing). l.system) (one_listing one two e)
file_one board s r name other (a_preload a file next) (a_preload b entry next_too) e = ap (λ (f : PreloadFile). f.file) (same_preload a b file entry next next_too (one_so_far a b e))
file_one board s r name other (a_program a file next) (a_program b entry next_too) e = ap (λ (f : ProgramFile). f.file) (same_program a b file entry next next_too (one_so_far a b e))
file_one board s r name other (a_preload a file next) (a_program b entry next_too) e = absurd (no_preload a b file next next_too.preloads (one_so_far a b e))
file_one board s r name other (a_program a file next) (a_preload b entry next_too) e = absurd (no_preload b a entry next_too next.preloads (sym (one_so_far a b e)))
file_one board s r name other h k e = absurd cc

module _ (spelling : OneSpelling) (faultless : SpellingsAreFaultless) (contents : Contents) (told : AreKnown contents) where
  -- a file's bytes aren't too many
  not_large : (name bytes : List ℕ) → HasBytes contents name bytes → IsOversize contents name → ⊥
  not_large name bytes has over =
      let same : bytes ≡ over.bytes = bytes_one contents name bytes over.bytes told has.handed over.handed in
      omega (arith, ap length same)

  pub follows_one : (stage : Stage) (name : List ℕ) (one other : Next) → Follows contents stage name one → Follows contents stage name other → one ≡ other
  follows_one stage name one other (oversize over) (oversize over_too) = refl
  follows_one stage name one other (oversize over) (of_bytes bytes _ has tells) = absurd (not_large name bytes has over)
  follows_one stage name one other (of_bytes bytes _ has tells) (oversize over) = absurd (not_large name bytes has over)
  follows_one stage name one other (of_bytes bytes _ has tells) (of_bytes bytes_too _ has_too tells_too) =
      let same : bytes ≡ bytes_too = bytes_one contents name bytes bytes_too told has.handed has_too.handed in
      tells_one spelling faultless bytes_too stage stage one other (subst (λ b. Tells b stage one) same tells) tells_too refl

-- ---- what a read file and a cause say of what follows

-- the next file takes the reading to this stage
pub record GoesOn (contents : Contents) (board : List ℕ) (stage after : Stage) : Type 0 where
  pub name : List ℕ
  pub next : IsNextFile board stage name
  pub follows : Follows contents stage name (goes_on after)

pub goes_on_of : (contents : Contents) (board : List ℕ) (s t : Stage) → ReadsNext contents board s t → GoesOn contents board s t
goes_on_of contents board s t (reads_board listing lists) =
    record { name = board; next = the_board; follows = of_bytes lists.bytes _ lists.has (listing_tells (Ok listing) _ (λ no. cc) lists.told refl) }
goes_on_of contents board s t (reads_system listing system spells sound) =
    record { name = listing.system; next = the_system listing; follows = of_bytes spells.bytes _ spells.has (system_tells listing system _ spells.is (sound_next listing system sound)) }
goes_on_of contents board s t (reads_preload so_far file preload next is fit) =
    record { name = file.file; next = a_preload so_far file next; follows = of_bytes preload.bytes _ is.has (preload_tells so_far file preload _ next is.at refl (inl (fit, refl))) }
goes_on_of contents board s t (reads_program so_far file program next is) =
    let made : goes_on (with_system (with_program so_far program)) ≡ after_program so_far file (Ok program.ops)
    = λ i. goes_on (with_system (with_program so_far (record { cell = is.cell i; cpu = is.cpu i; ops = program.ops }))) in
    record { name = file.file; next = a_program so_far file next; follows = of_bytes is.bytes _ is.has (program_tells so_far file _ next (made ∙ ap (after_program so_far file) (sym is.told))) }
