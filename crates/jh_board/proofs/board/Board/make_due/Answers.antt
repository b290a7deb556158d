-- The journal is still legal, and what the board holds stands for it.
use Rattle.std.proofs.Common.{◌≡◌, ℕ, Option, Result, Ok, Err, length, refl, sym, subst}
use Rattle.std.specs.Prelude.{IsTrue, IsSome, IfErr, OnErr}
use Rattle.jh_script.specs.declared.image.Image.{Image}
use Rattle.jh_history.specs.declared.entry.Entry.{Entry}
use Rattle.jh_history.specs.Due.{due}
use Rattle.jh_history.specs.Log.{Log}
use Rattle.jh_history.specs.Lives.{is_on_board}
use Rattle.jh_board.specs.BoardView.{BoardView}
use Rattle.jh_board.specs.Turns.{RefusesTurn}
use Rattle.jh_board.specs.Private.Advances.{board_with}
use Rattle.jh_board.specs.declared.turn.TurnFault.{TurnFault}
use Rattle.jh_board.specs.declared.turn.TurnFault.TheVariants.{Full, NoMemory}
use Rattle.jh_board.proofs.board.Board.make_due.Goals as goal

-- why nothing is made
abbrev IsFull : Image → ℕ → Log → ℕ → Result (Option Entry) TurnFault → Type 0
IsFull image limit old cpu r = r ≡ Err Full → IsSome (due image old.form old.entries cpu) × (length old.entries ≡ limit)

-- journals of one form with the same entries give the same board
same_board : (image : Image) (limit : ℕ) (old new : Log) → new.form ≡ old.form → new.entries ≡ old.entries → board_with image limit new ≡ board_with image limit old
same_board image limit old new form entries = λ i. record { image = image; limit = limit; form = form i; entries = entries i }

refuses : (image : Image) (limit : ℕ) (old new : Log) (cpu : ℕ) (r : Result (Option Entry) TurnFault) → IsFull image limit old cpu r → OnErr r (new.entries ≡ old.entries) → new.form ≡ old.form
    → IfErr r (λ fault. RefusesTurn (board_with image limit old) cpu fault (board_with image limit new))
refuses image limit old new cpu (Ok made) full same form = tt
refuses image limit old new cpu (Err Full) full same form = ((full refl).0, (full refl).1, same_board image limit old new form same)
refuses image limit old new cpu (Err NoMemory) full same form = same_board image limit old new form same

pub advance-requires-clause-cpu : goal.advance-requires-clause-cpu
advance-requires-clause-cpu c =
    let P : BoardView → Type 0 = λ v. IsTrue (is_on_board v.image c.args.cpu) in
    c.no_cpu_is_above_15.ensures.cpus c.args.cpu (subst P (sym c.self.view_is) c.requires)

pub invariant_of-self : goal.invariant_of-self
invariant_of-self c = record {
  admitted = c.self.invariant.admitted;
  legal = c.advance.ensures.legal;
  within = c.advance.ensures.within;
  means = c.advance.ensures.means;
  last = c.advance.ensures.last;
}

pub returns-clause-ok : goal.returns-clause-ok
returns-clause-ok c = rw (← c.self.view_is) c.advance.ensures.ok

pub returns-clause-err : goal.returns-clause-err
returns-clause-err c =
    rw (← c.self.view_is) (refuses c.self.inside.image c.self.inside.limit c.self.inside.journal c.advance.new.journal c.args.cpu c.advance.result c.advance.ensures.full c.advance.ensures.err c.advance.ensures.form)
