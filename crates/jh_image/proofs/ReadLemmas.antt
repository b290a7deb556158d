-- Where files tell what they hold, the reading of a board goes one way.
use Rattle.std.proofs.Common.{◌≡◌, ℕ, ◌<◌, List, length, ◌⊎◌, inl, inr, refl, sym, ap, subst, arith}
use Rattle.std.proofs.lemmas.Option.{slice_get_within}
use Rattle.jh_script.specs.declared.image.Image.{Image}
use Rattle.jh_image.specs.declared.board.ProgramFile.{ProgramFile}
use Rattle.jh_image.specs.Files.{Contents}
use Rattle.jh_image.specs.Images.{SoFar, Stage, nothing, with_system, so_far_of, IsComplete, IsNextProgram, IsNextFile, a_preload, a_program, ReadsNext, ReadsTo, nothing_read, one_more_read, IsImage}
use Rattle.jh_image.specs.Laws.{AreKnown}
use Rattle.jh_image.proofs.OneLemmas.{OneSpelling}
use Rattle.jh_image.proofs.NextLemmas.{one_so_far, no_preload, SpellingsAreFaultless, goes_on, Follows, file_one, follows_one, goes_on_of}

-- ---- no file is next where none is left

no_program : (one other : SoFar) (file : ProgramFile) → IsNextProgram one file → IsComplete other → one ≡ other → ⊥
no_program one other file next all same =
    let moved : IsNextProgram other file = subst (λ (s : SoFar). IsNextProgram s file) same next in
    let within : length other.programs < length other.listing.programs = slice_get_within other.listing.programs (length other.programs) file moved.next in
    let left : length other.programs ≡ length other.listing.programs = all.programs in
    omega arith

pub none_next : (board : List ℕ) (stage : Stage) (name : List ℕ) → IsNextFile board stage name → (so_far : SoFar) → IsComplete so_far → stage ≡ with_system so_far → ⊥
none_next board stage name (a_preload one file next) so_far all e = no_preload one so_far file next all.preloads (one_so_far one so_far e)
none_next board stage name (a_program one file next) so_far all e = no_program one so_far file next all (one_so_far one so_far e)
none_next board stage name next so_far all e = cc

-- ---- one read after another

module _ (spelling : OneSpelling) (faultless : SpellingsAreFaultless) (contents : Contents) (told : AreKnown contents) (board : List ℕ) where
  reads_one : (s t u : Stage) → ReadsNext contents board s t → ReadsNext contents board s u → t ≡ u
  reads_one s t u one other =
      let on = goes_on_of contents board s t one in
      let more = goes_on_of contents board s u other in
      let same : on.name ≡ more.name = file_one board s s on.name more.name on.next more.next refl in
      let both : goes_on t ≡ goes_on u
      = follows_one spelling faultless contents told s more.name (goes_on t) (goes_on u) (subst (λ n. Follows contents s n (goes_on t)) same on.follows) more.follows in
      cc

data Leads (contents : Contents) (board : List ℕ) : Stage → Stage → Type 0 where
  here : (s : Stage) → Leads contents board s s
  step : (s t u : Stage) → ReadsNext contents board s t → Leads contents board t u → Leads contents board s u

leads_more : (contents : Contents) (board : List ℕ) (s t u : Stage) → Leads contents board s t → ReadsNext contents board t u → Leads contents board s u
leads_more contents board s t u (here x) last = step x u u last (here u)
leads_more contents board s t u (step x y z first rest) last = step x y u first (leads_more contents board y z u rest last)

from_nothing : (contents : Contents) (board : List ℕ) (s : Stage) → ReadsTo contents board s → Leads contents board nothing s
from_nothing contents board s nothing_read = here nothing
from_nothing contents board s (one_more_read before now read last) = leads_more contents board nothing before now (from_nothing contents board before read) last

-- no file is read after this stage
abbrev pub IsLast : Contents → List ℕ → Stage → Type 0
IsLast contents board s = (t : Stage) → ReadsNext contents board s t → ⊥

leads_last : (contents : Contents) (board : List ℕ) (s u : Stage) → Leads contents board s u → IsLast contents board s → s ≡ u
leads_last contents board s u (here x) last = refl
leads_last contents board s u (step x y z first rest) last = absurd (last y first)

module _ (spelling : OneSpelling) (faultless : SpellingsAreFaultless) (contents : Contents) (told : AreKnown contents) (board : List ℕ) where
  leads_both : (s t u : Stage) → Leads contents board s t → Leads contents board s u → Leads contents board t u ⊎ Leads contents board u t
  leads_both s t u (here x) other = inl other
  leads_both s t u (step x y z first rest) (here w) = inr (step x y z first rest)
  leads_both s t u (step x y z first rest) (step w v q next more) =
      let same : v ≡ y = reads_one spelling faultless contents told board x v y next first in
      leads_both y t u rest (subst (λ m. Leads contents board m u) same more)

  -- the reading has one last stage
  pub last_one : (s u : Stage) → ReadsTo contents board s → ReadsTo contents board u → IsLast contents board s → IsLast contents board u → s ≡ u
  last_one s u read more last last_too = elim (leads_both nothing s u (from_nothing contents board s read) (from_nothing contents board u more)) [
    | inl h ↦ leads_last contents board s u h last
    | inr h ↦ sym (leads_last contents board u s h last_too)
  ]

-- ---- the image

-- what is read where the board makes the image
abbrev pub read_for : (contents : Contents) (board : List ℕ) (image : Image) → IsImage contents board image → SoFar
read_for contents board image h = so_far_of h.listing image.system image.preloads image.programs

pub image_last : (contents : Contents) (board : List ℕ) (image : Image) → (h : IsImage contents board image) → IsLast contents board (with_system (read_for contents board image h))
image_last contents board image h t reads =
    let whole = read_for contents board image h in
    let on = goes_on_of contents board (with_system whole) t reads in
    none_next board (with_system whole) on.name on.next whole h.complete refl

abbrev image_of : SoFar → Image
image_of so_far = record { system = so_far.system; preloads = so_far.preloads; programs = so_far.programs }

pub image_one : OneSpelling → SpellingsAreFaultless → (contents : Contents) (board : List ℕ) (one other : Image) → AreKnown contents → IsImage contents board one → IsImage contents board other → one ≡ other
image_one spelling faultless contents board one other told h k =
    let a = read_for contents board one h in
    let b = read_for contents board other k in
    let same : with_system a ≡ with_system b = last_one spelling faultless contents told board (with_system a) (with_system b) h.read k.read (image_last contents board one h) (image_last contents board other k) in
    ap image_of (one_so_far a b same)
