-- How items and plays end, by the laws of journals.
use Rattle.std.proofs.Common.{◌≡◌, ℕ, ◌+◌, ◌≤◌, List, [], ◌++◌, Bool, true, false, refl, sym, ◌∙◌, ap, subst, length, arith}
use Rattle.std.specs.Prelude.{◌↔◌, IsSome}
use Rattle.std.proofs.lemmas.Bool.{false≢true}
use Rattle.jh_script.specs.declared.image.Image.{Image}
use Rattle.jh_history.specs.declared.form.Form.{Form}
use Rattle.jh_history.specs.declared.form.Form.TheVariants.{Two}
use Rattle.jh_history.specs.declared.entry.Entry.{Entry}
use Rattle.jh_history.specs.Due.{due, IsQuiet}
use Rattle.jh_history.specs.Items.{Reached, items, played, cpus_of, rounds}
use Rattle.jh_history.proofs.Public.{reached}
use Rattle.jh_laws.specs.Items.{ItemsLead, IsCutShort}
use Rattle.jh_board.specs.BoardView.{BoardView}
use Rattle.jh_run.specs.declared.ended.Ended.{Ended}
use Rattle.jh_run.specs.declared.ended.Ended.TheVariants.{Unstopped, Full}
use Rattle.jh_run.specs.Ends.{is_full}
use Rattle.jh_run.specs.Private.Ran.{Ran}
use Rattle.jh_run.specs.Plays.{IsBoardOf, Follows, IsPlayedBoard, IsFullAtItem, IsFullAtCpu}
use Rattle.jh_laws.proofs.Public.{some_none}

-- the laws on items, as they are stated
abbrev pub LeadLaw : Type 0
LeadLaw = (image : Image) (form : Form) (limit : ℕ) (cpus : List ℕ) (before after : List Entry) → (items image form limit cpus before ≡ record { entries = after; full = false }) ↔ ItemsLead image form limit cpus before after

abbrev pub CutLaw : Type 0
CutLaw = (image : Image) (form : Form) (limit : ℕ) (cpus : List ℕ) (before after : List Entry) → (items image form limit cpus before ≡ record { entries = after; full = true }) ↔ IsCutShort image form limit cpus before after

abbrev opened : Image → ℕ → BoardView
opened image limit = record { image = image; limit = limit; form = Two; entries = [] }

ended_full : (ended : Ended) → is_full ended ≡ true → ended ≡ Full
ended_full Unstopped h = absurd (false≢true h)
ended_full Full h = refl

ended_quiet : (ended : Ended) → (ended ≡ Full → ⊥) → ended ≡ Unstopped
ended_quiet Unstopped h = refl
ended_quiet Full h = absurd (h refl)

items_from : LeadLaw → CutLaw → (image : Image) (limit : ℕ) (xs : List ℕ) (full : Bool) (new : BoardView) → Ran (opened image limit) xs full new → (items image Two limit xs [] ≡ reached new.entries full) × IsBoardOf image Two limit new
items_from lead cut image limit xs false new h = ((lead image Two limit xs [] new.entries).1 h.0, h.1)
items_from lead cut image limit xs true new h = ((cut image Two limit xs [] new.entries).1 h.0, h.1)

-- what a schedule alone makes
pub Follows_from : LeadLaw → CutLaw → (image : Image) (limit : ℕ) (old new : BoardView) (schedule : List ℕ) (full : Bool) (ended : Ended) → old ≡ opened image limit → is_full ended ≡ full → Ran old schedule full new → Follows image limit schedule new ended
Follows_from lead cut image limit old new schedule full ended is how h =
    let P : BoardView → Type 0 = λ v. Ran v schedule full new in
    let Q : Bool → Type 0 = λ b. (items image Two limit schedule [] ≡ reached new.entries b) × IsBoardOf image Two limit new in
    subst Q (sym how) (items_from lead cut image limit schedule full new (subst P is h))

-- and when the limit stops it
pub full_at_item : CutLaw → (image : Image) (limit : ℕ) (schedule : List ℕ) (board : BoardView) (ended : Ended) → Follows image limit schedule board ended → length board.entries ≤ board.limit
    → (ended ≡ Full) ↔ IsFullAtItem image limit schedule board.entries
full_at_item cut image limit schedule board ended follows within =
    let is_limit : board.limit ≡ limit = ap (λ (v : BoardView). v.limit) follows.1 in (
      λ is.
          let stop : items image Two limit schedule [] ≡ reached board.entries true = follows.0 ∙ ap (λ (e : Ended). reached board.entries (is_full e)) is in
          let short = (cut image Two limit schedule [] board.entries).0 stop in
          let enough : limit ≤ length board.entries = short.reached in
          (omega arith, short),
      λ at. ended_full ended (ap (λ (r : Reached). r.full) (sym follows.0 ∙ (cut image Two limit schedule [] board.entries).1 at.1)),
    )

-- what is played
pub Plays_from : LeadLaw → CutLaw → (image : Image) (limit : ℕ) (old new : BoardView) (schedule cpus : List ℕ) (full : Bool) (ended : Ended) → old ≡ opened image limit → is_full ended ≡ full → cpus ≡ cpus_of image
    → Ran old (schedule ++ rounds (limit + 1) cpus) full new → IsPlayedBoard image limit schedule new ended
unfolding played
Plays_from lead cut image limit old new schedule cpus full ended is how all h =
    let P : List ℕ → Type 0 = λ zs. Ran old (schedule ++ rounds (limit + 1) zs) full new in
    Follows_from lead cut image limit old new (schedule ++ rounds (limit + 1) (cpus_of image)) full ended is how (subst P all h)

-- how it ends, by the laws on plays
abbrev pub QuietLaw : Image → ℕ → List ℕ → Type 0
QuietLaw image limit schedule = (played image Two limit schedule).full ≡ false → IsQuiet image Two (played image Two limit schedule).entries

abbrev pub DueLaw : Image → ℕ → List ℕ → Type 0
DueLaw image limit schedule = (played image Two limit schedule).full ≡ true → (cpu : ℕ) × IsSome (due image Two (played image Two limit schedule).entries cpu)

abbrev pub LimitLaw : Image → ℕ → List ℕ → Type 0
LimitLaw image limit schedule = (played image Two limit schedule).full ≡ true → length (played image Two limit schedule).entries ≡ limit

quiet_from : (image : Image) (limit : ℕ) (schedule : List ℕ) (board : BoardView) (ended : Ended) → IsPlayedBoard image limit schedule board ended → QuietLaw image limit schedule → ended ≡ Unstopped → IsQuiet image Two board.entries
quiet_from image limit schedule board ended plays quiet is =
    let P : Reached → Type 0 = λ r. r.full ≡ false → IsQuiet image Two r.entries in
    subst P plays.0 quiet (ap is_full is)

full_from : (image : Image) (limit : ℕ) (schedule : List ℕ) (board : BoardView) (ended : Ended) → IsPlayedBoard image limit schedule board ended → DueLaw image limit schedule → LimitLaw image limit schedule → ended ≡ Full → IsFullAtCpu image limit board.entries
full_from image limit schedule board ended plays some most is =
    let P : Reached → Type 0 = λ r. r.full ≡ true → (cpu : ℕ) × IsSome (due image Two r.entries cpu) in
    let Q : Reached → Type 0 = λ r. r.full ≡ true → length r.entries ≡ limit in
    (subst Q plays.0 most (ap is_full is), subst P plays.0 some (ap is_full is))

never_both : (image : Image) (limit : ℕ) (entries : List Entry) → IsQuiet image Two entries → IsFullAtCpu image limit entries → ⊥
never_both image limit entries quiet at = some_none (due image Two entries at.1.0) (quiet at.1.0) at.1.1

pub quiet_exactly : (image : Image) (limit : ℕ) (schedule : List ℕ) (board : BoardView) (ended : Ended) → IsPlayedBoard image limit schedule board ended → QuietLaw image limit schedule → DueLaw image limit schedule → LimitLaw image limit schedule
    → (ended ≡ Unstopped) ↔ IsQuiet image Two board.entries
quiet_exactly image limit schedule board ended plays quiet some most = (
  quiet_from image limit schedule board ended plays quiet,
  λ is. ended_quiet ended (λ full. never_both image limit board.entries is (full_from image limit schedule board ended plays some most full)),
)

by_end : (image : Image) (limit : ℕ) (schedule : List ℕ) (board : BoardView) (ended : Ended) → (ended ≡ Unstopped → IsQuiet image Two board.entries) → IsFullAtCpu image limit board.entries → ended ≡ Full
by_end image limit schedule board Unstopped quiet at = absurd (never_both image limit board.entries (quiet refl) at)
by_end image limit schedule board Full quiet at = refl

pub full_exactly : (image : Image) (limit : ℕ) (schedule : List ℕ) (board : BoardView) (ended : Ended) → IsPlayedBoard image limit schedule board ended → QuietLaw image limit schedule → DueLaw image limit schedule → LimitLaw image limit schedule
    → (ended ≡ Full) ↔ IsFullAtCpu image limit board.entries
full_exactly image limit schedule board ended plays quiet some most = (
  full_from image limit schedule board ended plays some most,
  by_end image limit schedule board ended (quiet_from image limit schedule board ended plays quiet),
)
