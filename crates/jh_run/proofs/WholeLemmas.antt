-- What a beginning of the last journal tells, that journal tells too.
use Rattle.std.proofs.Common.{◌≡◌, ℕ, ◌≤◌, List, [], ◌∷◌, ◌++◌, refl, sym, ◌∙◌, ap, subst, length, arith, append-nil, length-append}
use Rattle.std.specs.Prelude.{◌↔◌, Option, None, Some, Result, IfOk}
use Rattle.std.proofs.lemmas.List.{nil_from_length}
use mathlib.Core.List.{IsPrefix}
use Rattle.jh_script.specs.declared.image.Image.{Image}
use Rattle.jh_history.specs.declared.form.Form.{Form}
use Rattle.jh_history.specs.declared.entry.Entry.{Entry}
use Rattle.jh_history.specs.Due.{IsLegal, IsQuiet}
use Rattle.jh_board.specs.BoardView.{BoardView}
use Rattle.jh_run.specs.Ends.{IsFullAndBusy}
use Rattle.jh_run.specs.Origins.{Origin}
use Rattle.jh_run.specs.Plays.{IsBoardOf}
use Rattle.jh_run.proofs.TurnLemmas.{board_origin}
use Rattle.jh_run.specs.Drives.{ExplainsEnd}
use Rattle.jh_run.specs.Private.Driving.{last_fault}
use Rattle.jh_run.specs.declared.ended.Ended.{Ended}
use Rattle.jh_run.specs.declared.ended.Ended.TheVariants.{Unstopped as EndedUnstopped, Full as EndedFull}
use Rattle.jh_board.specs.declared.turn.TurnFault.{TurnFault}
use Rattle.jh_board.specs.declared.turn.TurnFault.TheVariants.{Full, NoMemory}

-- the law that nothing legal extends a quiet journal, as it is stated
abbrev pub QuietEnds : Type 0
QuietEnds = (image : Image) (form : Form) (before rest : List Entry) (entry : Entry) → IsQuiet image form before → IsLegal image form (before ++ entry ∷ rest) → ⊥

whole_quiet : QuietEnds → (image : Image) (form : Form) (seen rest all : List Entry) → seen ++ rest ≡ all → IsLegal image form all → IsQuiet image form seen → IsQuiet image form all
whole_quiet ends image form seen [] all e legal quiet = let P : List Entry → Type 0 = IsQuiet image form in subst P (sym (append-nil seen) ∙ e) quiet
whole_quiet ends image form seen (entry ∷ rest) all e legal quiet = let P : List Entry → Type 0 = IsLegal image form in absurd (ends image form seen rest entry quiet (subst P (sym e) legal))

whole_same : (seen rest all : List Entry) → seen ++ rest ≡ all → length all ≤ length seen → seen ≡ all
whole_same seen rest all e le =
    let none : rest ≡ [] = nil_from_length rest (omega (arith, length-append seen rest, ap length e)) in
    sym (append-nil seen) ∙ (ap (λ (w : List Entry). seen ++ w) (sym none) ∙ e)

pub Tells_whole : QuietEnds → (origin : Origin) (refused : Option TurnFault) (seen all : List Entry) → IsPrefix seen all → IsLegal origin.image origin.form all → length all ≤ origin.limit → ExplainsEnd origin refused seen → ExplainsEnd origin refused all
Tells_whole ends origin None seen all p legal few h = whole_quiet ends origin.image origin.form seen p.0 all p.1 legal h
Tells_whole ends origin (Some Full) seen all p legal few h =
    let count : length seen ≡ origin.limit = h.0 in
    let P : List Entry → Type 0 = λ es. ExplainsEnd origin (Some Full) es in
    subst P (whole_same seen p.0 all p.1 (omega arith)) h
Tells_whole ends origin (Some NoMemory) seen all p legal few h = tt

-- a board of that origin is one of the image with the limit and the form
pub board_of : (origin : Origin) (board : BoardView) → board_origin board ≡ origin → IsBoardOf origin.image origin.form origin.limit board
board_of origin board e =
    let P : Origin → Type 0 = λ o. IsBoardOf o.image o.form o.limit board in
    subst P e refl

pub board_legal : (origin : Origin) (board : BoardView) → board_origin board ≡ origin → IsLegal board.image board.form board.entries → IsLegal origin.image origin.form board.entries
board_legal origin board e legal = let P : Origin → Type 0 = λ o. IsLegal o.image o.form board.entries in subst P e legal

-- what a board's journal begins with tells of it, it tells of the whole journal
pub board_tells : QuietEnds → (origin : Origin) (board : BoardView) (refused : Option TurnFault) (seen : List Entry) → board_origin board ≡ origin → IsLegal board.image board.form board.entries → length board.entries ≤ board.limit → IsPrefix seen board.entries → ExplainsEnd origin refused seen → ExplainsEnd origin refused board.entries
board_tells ends origin board refused seen e legal within begins tells =
    let P : Origin → Type 0 = λ o. length board.entries ≤ o.limit in
    Tells_whole ends origin refused seen board.entries begins (board_legal origin board e legal) (subst P e within) tells

-- a run that ended quiet, and one that ended full
abbrev pub QuietExactly : Ended → Image → Form → List Entry → Type 0
QuietExactly ended image form entries = (ended ≡ EndedUnstopped) ↔ IsQuiet image form entries

abbrev pub FullExactly : Ended → Image → Form → ℕ → List Entry → Type 0
FullExactly ended image form limit entries = (ended ≡ EndedFull) ↔ IsFullAndBusy image form limit entries

pub quiet_exactly : (origin : Origin) (ended : Ended) (entries : List Entry) → ExplainsEnd origin (last_fault ended) entries → QuietExactly ended origin.image origin.form entries
quiet_exactly origin EndedUnstopped entries quiet = (λ e. quiet, λ h. refl)
quiet_exactly origin EndedFull entries full = (λ e. absurd (cc e), λ quiet. absurd (full.1 quiet))

pub full_exactly : (origin : Origin) (ended : Ended) (entries : List Entry) → ExplainsEnd origin (last_fault ended) entries → FullExactly ended origin.image origin.form origin.limit entries
full_exactly origin EndedUnstopped entries quiet = (λ e. absurd (cc e), λ h. absurd (h.1 quiet))
full_exactly origin EndedFull entries full = (λ e. full, λ h. refl)

-- what a run tells of one origin it tells of the same origin
pub quiet_of : {X : Type 0} (one other : Origin) (result : Result (BoardView × Ended) X) → one ≡ other → IfOk result (λ r. QuietExactly r.1 one.image one.form r.0.entries) → IfOk result (λ r. QuietExactly r.1 other.image other.form r.0.entries)
quiet_of one other result e h = let P : Origin → Type 0 = λ o. IfOk result (λ r. QuietExactly r.1 o.image o.form r.0.entries) in subst P e h

pub full_of : {X : Type 0} (one other : Origin) (result : Result (BoardView × Ended) X) → one ≡ other → IfOk result (λ r. FullExactly r.1 one.image one.form one.limit r.0.entries) → IfOk result (λ r. FullExactly r.1 other.image other.form other.limit r.0.entries)
full_of one other result e h = let P : Origin → Type 0 = λ o. IfOk result (λ r. FullExactly r.1 o.image o.form o.limit r.0.entries) in subst P e h
