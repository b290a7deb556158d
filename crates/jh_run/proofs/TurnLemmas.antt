-- What a turn of a running board tells.
use Rattle.std.proofs.Common.{◌≡◌, ℕ, List, Bool, true, false, Option, Some, None, sym, ap, subst, inl, inr}
use Rattle.std.specs.Prelude.{IfSome, IfOk, IfErr, if◌then◌else◌, Result, Ok, Err}
use Rattle.std.specs.ControlFlow.{break_value}
use Rattle.std.proofs.lemmas.Option.{none-some}
use Rattle.jh_history.specs.declared.form.Form.{Form}
use Rattle.jh_history.specs.declared.entry.Entry.{Entry}
use Rattle.jh_script.specs.declared.image.Image.{Image}
use Rattle.jh_history.specs.Lives.{is_on_board}
use Rattle.jh_history.specs.Due.{due, due_at, IsQuiet}
use Rattle.jh_history.proofs.Public.{by_cpu}
use Rattle.jh_turn.specs.Histories.{Grows}
use Rattle.jh_board.specs.BoardView.{BoardView}
use Rattle.jh_board.specs.Turns.{Turns, RefusesTurn}
use Rattle.jh_run.specs.Origins.{Origin}
use Rattle.jh_run.specs.Turns.{Takes}
use Rattle.jh_run.specs.Running.{whose_entry, IsTurnAnswer}
use Rattle.jh_run.specs.Drives.{ExplainsEnd}
use Rattle.jh_run.specs.Private.Driving.{end_after}
use Rattle.jh_board.specs.declared.turn.Turn.{Turn}
use Rattle.jh_board.specs.declared.turn.Turn.TheVariants.{Made, Edited, NotNow, Done}
use Rattle.jh_board.specs.declared.turn.TurnFault.{TurnFault}
use Rattle.jh_board.specs.declared.turn.TurnFault.TheVariants.{Full, NoMemory}

abbrev pub board_origin : BoardView → Origin
board_origin board = record { image = board.image; limit = board.limit; form = board.form }

on_board : (b : Bool) (o : Option Entry) (entry : Entry) → (if b then o else None) ≡ Some entry → o ≡ Some entry
on_board true o entry h = h
on_board false o entry h = absurd (none-some entry h)

-- what is due to a CPU is its own
pub due_own : (image : Image) (form : Form) (before : List Entry) (cpu : ℕ) (entry : Entry) → due image form before cpu ≡ Some entry → entry.cpu ≡ cpu
unfolding due_at
due_own image form before cpu entry h = by_cpu cpu _ entry _ (on_board (is_on_board image cpu) _ entry h)

abbrev entries : BoardView → List Entry
entries board = board.entries

-- what a board's turn answers or is refused for is what is taken
pub takes_so : (old : BoardView) (cpu : ℕ) (answer : Result Turn TurnFault) (new : BoardView) → IfOk answer (λ turn. Turns old cpu turn new) → IfErr answer (λ fault. RefusesTurn old cpu fault new) → Takes old cpu answer new
takes_so old cpu (Ok turn) new ok err = ok
takes_so old cpu (Err fault) new ok err = err

-- it leaves the entries, or adds one of the CPU
pub Takes_grows : (old : BoardView) (cpu : ℕ) (answer : Result Turn TurnFault) (new : BoardView) → Takes old cpu answer new → Grows whose_entry cpu old.entries new.entries
Takes_grows old cpu (Ok (Made entry)) new h = inr (entry, due_own old.image old.form old.entries cpu entry h.0, ap entries h.2)
Takes_grows old cpu (Ok (Edited left)) new h = absurd h
Takes_grows old cpu (Ok (NotNow other)) new h = inl (ap entries h.2)
Takes_grows old cpu (Ok Done) new h = inl (ap entries h.1)
Takes_grows old cpu (Err Full) new h = inl (ap entries h.2)
Takes_grows old cpu (Err NoMemory) new h = inl (ap entries h)

-- what a port has seen after the last answer
pub done_tells : (origin : Origin) (cpu : ℕ) (before after : List Entry) → IsTurnAnswer origin cpu before after (Ok Done) → ExplainsEnd origin None after
done_tells origin cpu before after h = let P : List Entry → Type 0 = IsQuiet origin.image origin.form in subst P (sym h.1) h.0

pub refused_tells : (origin : Origin) (cpu : ℕ) (before after : List Entry) (fault : TurnFault) → IsTurnAnswer origin cpu before after (Err fault) → ExplainsEnd origin (Some fault) after
refused_tells origin cpu before after Full h =
    let P : List Entry → Type 0 = λ es. ExplainsEnd origin (Some Full) es in
    subst P (sym h.1) h.0
refused_tells origin cpu before after NoMemory h = tt

pub turn_tells : (origin : Origin) (cpu : ℕ) (before after : List Entry) (answer : Result Turn TurnFault) → IsTurnAnswer origin cpu before after answer → IfSome (break_value (end_after answer)) (λ refused. ExplainsEnd origin refused after)
turn_tells origin cpu before after (Ok (Made entry)) h = tt
turn_tells origin cpu before after (Ok (Edited left)) h = tt
turn_tells origin cpu before after (Ok (NotNow other)) h = tt
turn_tells origin cpu before after (Ok Done) h = done_tells origin cpu before after h
turn_tells origin cpu before after (Err fault) h = refused_tells origin cpu before after fault h
