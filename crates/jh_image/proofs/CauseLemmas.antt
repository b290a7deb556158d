-- Where files tell what they hold, no two causes but a failed read stop the reading of a board, and none stops it where
-- the board makes an image.
use Rattle.std.proofs.Common.{◌≡◌, ℕ, List, Err, ◌⊎◌, inl, inr, refl, sym, ap, subst, ◌∙◌}
use Rattle.jh_spec.specs.declared.fault.JsonFault.TheVariants as boards
use Rattle.jh_script.specs.declared.image.Image.{Image}
use Rattle.jh_image.specs.declared.fault.ImageCause.{ImageCause}
use Rattle.jh_image.specs.declared.fault.ImageCause.TheVariants.{ReadFault, PoolSmall, Preload as BadPreload}
use Rattle.jh_image.specs.Files.{Contents}
use Rattle.jh_image.specs.Images.{Stage, with_system, IsNextFile, the_board, the_system, a_preload, a_program, IsImage}
use Rattle.jh_image.specs.Causes.{cannot_be_read, is_too_large, is_no_object, has_bad_member, is_no_system, has_findings, HasCause, by_file, by_board, by_system, by_pool, by_preload, by_program, IsCauseOf}
use Rattle.jh_image.specs.Laws.{AreKnown, IsCertainCause}
use Rattle.jh_image.proofs.OneLemmas.{OneSpelling}
use Rattle.jh_image.proofs.NextLemmas.{SpellingsAreFaultless, goes_on, stops, after_program, listing_tells, fault_tells, system_tells, preload_tells, program_tells, unsound_next, small_next, Follows, oversize, of_bytes, file_one, follows_one, goes_on_of}
use Rattle.jh_image.proofs.ReadLemmas.{none_next, IsLast, last_one, read_for, image_last}

-- the file that a cause names, of the board's and the next
abbrev named : List ℕ → List ℕ → ImageCause → List ℕ
named board name (PoolSmall need have) = board
named board name (BadPreload number) = board
named board name cause = name

-- the next file stops the reading for this cause, which names this file
record Stops (contents : Contents) (board : List ℕ) (stage : Stage) (file : List ℕ) (cause : ImageCause) : Type 0 where
  name : List ℕ
  next : IsNextFile board stage name
  names : file ≡ named board name cause
  follows : Follows contents stage name (stops cause)

stops_of : (contents : Contents) (board : List ℕ) (stage : Stage) (file : List ℕ) (cause : ImageCause) → HasCause contents board stage file cause → (cause ≡ ReadFault) ⊎ Stops contents board stage file cause
stops_of contents board stage file cause (by_file at name _ next cannot_be_read) = inl refl
stops_of contents board stage file cause (by_file at name _ next (is_too_large over)) = inr (record { name = name; next = next; names = refl; follows = oversize over })
stops_of contents board stage file cause (by_board _ (is_no_object bytes has bad)) =
    inr (record { name = board; next = the_board; names = refl; follows = of_bytes bytes _ has (listing_tells (Err boards.Json) _ (λ no. cc) bad refl) })
stops_of contents board stage file cause (by_board _ (has_bad_member bytes name has bad)) =
    inr (record { name = board; next = the_board; names = refl; follows = of_bytes bytes _ has (listing_tells (Err (boards.Member name)) _ (λ no. cc) bad refl) })
stops_of contents board stage file cause (by_system listing _ (is_no_system bytes fault has first)) =
    inr (record { name = listing.system; next = the_system listing; names = refl; follows = of_bytes bytes _ has (fault_tells listing fault _ first refl) })
stops_of contents board stage file cause (by_system listing _ (has_findings system spells some)) =
    inr (record { name = listing.system; next = the_system listing; names = refl; follows = of_bytes spells.bytes _ spells.has (system_tells listing system _ spells.is (unsound_next listing system some)) })
stops_of contents board stage file cause (by_pool listing system h) =
    inr (record { name = listing.system; next = the_system listing; names = refl; follows = of_bytes h.spells.bytes _ h.spells.has (system_tells listing system _ h.spells.is (small_next listing system h.clean h.small)) })
stops_of contents board stage file cause (by_preload so_far h) =
    inr (record { name = h.file.file; next = a_preload so_far h.file h.next; names = refl; follows = of_bytes h.preload.bytes _ h.read.has (preload_tells so_far h.file h.preload _ h.next h.read.at refl (inr (h.faulty, refl))) })
stops_of contents board stage file cause (by_program so_far entry fault h) =
    inr (record { name = entry.file; next = a_program so_far entry h.next; names = refl; follows = of_bytes h.bytes _ h.has (program_tells so_far entry _ h.next (ap (after_program so_far entry) (sym h.told))) })

-- ---- two stops, and a stop beside an image

module _ (spelling : OneSpelling) (faultless : SpellingsAreFaultless) (contents : Contents) (told : AreKnown contents) (board : List ℕ) where
  -- a file that stops the reading doesn't take it on
  stops_last : (stage : Stage) (file : List ℕ) (cause : ImageCause) → Stops contents board stage file cause → IsLast contents board stage
  stops_last stage file cause stop t reads =
      let on = goes_on_of contents board stage t reads in
      let same : stop.name ≡ on.name = file_one board stage stage stop.name on.name stop.next on.next refl in
      let both : stops cause ≡ goes_on t = follows_one spelling faultless contents told stage on.name (stops cause) (goes_on t) (subst (λ n. Follows contents stage n (stops cause)) same stop.follows) on.follows in
      cc

  stops_one : (stage : Stage) (file other : List ℕ) (cause more : ImageCause) → Stops contents board stage file cause → Stops contents board stage other more → (cause ≡ more) × (file ≡ other)
  stops_one stage file other cause more h k =
      let same : h.name ≡ k.name = file_one board stage stage h.name k.name h.next k.next refl in
      let both : stops cause ≡ stops more = follows_one spelling faultless contents told stage k.name (stops cause) (stops more) (subst (λ n. Follows contents stage n (stops cause)) same h.follows) k.follows in
      let causes : cause ≡ more = cc in
      let files : named board h.name cause ≡ named board k.name more = λ i. named board (same i) (causes i) in
      (causes, h.names ∙ files ∙ sym k.names)

  stopped : (file : List ℕ) (cause : ImageCause) → (h : IsCertainCause contents board file cause) → Stops contents board h.stops.stage file cause
  stopped file cause h = elim (stops_of contents board h.stops.stage file cause h.stops.stops) [ inl e ↦ absurd (h.read e) | inr stop ↦ stop ]

pub causes_one : OneSpelling → SpellingsAreFaultless → (contents : Contents) (board file other : List ℕ) (cause more : ImageCause) → AreKnown contents
    → IsCertainCause contents board file cause → IsCertainCause contents board other more → (cause ≡ more) × (file ≡ other)
causes_one spelling faultless contents board file other cause more told h k =
    let one = stopped spelling faultless contents told board file cause h in
    let two = stopped spelling faultless contents told board other more k in
    let same : h.stops.stage ≡ k.stops.stage = last_one spelling faultless contents told board h.stops.stage k.stops.stage h.stops.read k.stops.read
    (stops_last spelling faultless contents told board h.stops.stage file cause one) (stops_last spelling faultless contents told board k.stops.stage other more two) in
    stops_one spelling faultless contents told board k.stops.stage file other cause more (subst (λ (s : Stage). Stops contents board s file cause) same one) two

pub unrefused : OneSpelling → SpellingsAreFaultless → (contents : Contents) (board file : List ℕ) (image : Image) (cause : ImageCause) → AreKnown contents → IsImage contents board image → IsCauseOf contents board file cause → cause ≡ ReadFault
unrefused spelling faultless contents board file image cause told is h =
    let whole = read_for contents board image is in
    elim (stops_of contents board h.stage file cause h.stops) [
      | inl e ↦ e
      | inr stop ↦
          let same : h.stage ≡ with_system whole = last_one spelling faultless contents told board h.stage (with_system whole) h.read is.read
          (stops_last spelling faultless contents told board h.stage file cause stop) (image_last contents board image is) in
          absurd (none_next board h.stage stop.name stop.next whole is.complete same)
    ]
