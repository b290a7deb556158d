-- The page of the cell that a create makes.
use Rattle.std.proofs.Common.{◌≡◌, ℕ, List, Option, refl, ap, ◌∙◌}
use Rattle.std.specs.Prelude.{option_map}
use Rattle.jh_comm.specs.declared.words.TheConstants.{STATE_SHUT_DOWN}
use Rattle.jh_cellcfg.specs.declared.config.CellConfig.{CellConfig}
use Rattle.jh_cellcfg.specs.declared.live.Live.{Live}
use Rattle.jh_call.specs.declared.call.Call.TheVariants.{Create}
use Rattle.jh_history.specs.declared.call.Phase.{Phase}
use Rattle.jh_history.specs.declared.call.Phase.TheVariants.{ToDecide, ToSettle, ToCreate, ToCommit, ToNote, ToNoted, ToFinish}
use Rattle.jh_history.specs.declared.comm.PageWrite.{PageWrite}
use Rattle.jh_history.specs.declared.comm.PageChange.TheVariants.{Fresh}
use Rattle.jh_history.specs.Commits.{created}
use Rattle.jh_history.specs.Pages.{on_page, committing}
use Rattle.jh_history.proofs.pages.committing.Goals as goal

abbrev fresh : ℕ → CellConfig → PageWrite
fresh window c = on_page (Fresh STATE_SHUT_DOWN c.console window) c

by_phase : (window at : ℕ) (lives : List Live) (phase : Phase) → option_map (fresh window) (created (Create at) phase) ≡ committing window lives (Create at) phase
by_phase window at lives ToDecide = refl
by_phase window at lives (ToSettle waited) = refl
by_phase window at lives (ToCreate config) = refl
by_phase window at lives ToCommit = refl
by_phase window at lives (ToNote id about answer) = refl
by_phase window at lives (ToNoted id about answer waited) = refl
by_phase window at lives (ToFinish answer) = refl

pub returns-in-Create : goal.returns-in-Create
returns-in-Create c = λ lives e.
    rw c.in-Create.is
    (c.fresh_of.ensures
    ∙ ap (λ (o : Option CellConfig). option_map (fresh c.args.window) o) (c.coming_in.ensures c.in-Create.at)
    ∙ by_phase c.args.window c.in-Create.at lives c.args.begun.now.phase)
