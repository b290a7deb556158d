-- The call and the cells change as the act says.
use Rattle.std.proofs.Common.{◌≡◌, ◌∙◌, Option, refl, sym, ap, subst, arith}
use Rattle.std.specs.Prelude.{IfSome}
use Rattle.std.specs.Option.{option_map_or}
use Rattle.jh_cellcfg.specs.declared.config.CellConfig.{CellConfig}
use Rattle.jh_history.specs.declared.call.OpenCall.{OpenCall}
use Rattle.jh_history.specs.Commits.{created_by}
use Rattle.jh_history.specs.Calls.{call_by}
use Rattle.jh_history.specs.DueFacts.{NamesCpu}
use Rattle.jh_board.specs.declared.held.Held.{Held}
use Rattle.jh_board.specs.declared.steps.CellsChange.{CellsChange}
use Rattle.jh_board.specs.Means.{IsReadyToGoOn}
use Rattle.jh_board.specs.Private.Steps.{change_of_cells, changed_cells, joined_cells}
use Rattle.jh_board.proofs.KeptLemmas.{ready_kept}
use Rattle.jh_board.proofs.MadeLemmas.{cells_made, nothing_made, ready_made, KeepsCells}
use Rattle.jh_board.proofs.steps.make_call.Goals as goal

pub returns-then-not-is_of_call-clause-lives : goal.returns-then-not-is_of_call-clause-lives
returns-then-not-is_of_call-clause-lives c =
    let held = c.args.held.now in
    sym (nothing_made held.call held.cells.lives c.args.entry.now.act (sym c.is_of_call.ensures ∙ c.if-not-is_of_call.true)).1

pub returns-then-not-is_of_call-clause-named : goal.returns-then-not-is_of_call-clause-named
returns-then-not-is_of_call-clause-named c =
    let held = c.args.held.now in
    let P : Option CellConfig → Type 0 = λ config. IfSome config NamesCpu in
    subst P (sym (nothing_made held.call held.cells.lives c.args.entry.now.act (sym c.is_of_call.ensures ∙ c.if-not-is_of_call.true)).0) tt

pub returns-then-not-is_of_call-clause-ready : goal.returns-then-not-is_of_call-clause-ready
returns-then-not-is_of_call-clause-ready c = λ h.
    let old : Held = c.args.held.now in
    let new : Held = record old { call = c.count_entry.new.call } in
    ready_kept old new c.count_entry.new.call refl refl (omega arith) (λ q held. held) h

pub returns-clause-lives : goal.returns-clause-lives
returns-clause-lives c =
    let held = c.args.held.now in
    let lives = held.cells.lives in
    let act = c.args.entry.now.act in
    let made : c.call_after-call.result.created ≡ created_by held.call act = c.call_after-call.ensures.created ∙ ap (λ (k : Option OpenCall). created_by k act) c.take-begun.ensures.value in
    let change : c.change_of_cells-change.result ≡ change_of_cells held.call act = c.change_of_cells-change.ensures ∙ ap (λ (k : Option OpenCall). change_of_cells k act) c.as_ref.ensures.value in
    c.make_cells.ensures.lives
    ∙ ap (λ (d : Option CellConfig). option_map_or (joined_cells lives) d (changed_cells c.change_of_cells-change.result lives)) made
    ∙ ap (λ (d : CellsChange). option_map_or (joined_cells lives) (created_by held.call act) (changed_cells d lives)) change
    ∙ cells_made held.call lives act

pub returns-clause-ready : goal.returns-clause-ready
returns-clause-ready c = λ h.
    let old : Held = c.args.held.now in
    let lives = old.cells.lives in
    let entry = c.args.entry.now in
    let act = entry.act in
    let new : Held = record { memory = old.memory; cpus = old.cpus; cells = c.make_cells.new.cells; programs = old.programs; endpoints = old.endpoints; call = c.call_after-call.result.call; coming_regions = c.make_cells.new.regions; alloc = old.alloc; form = old.form } in
    let made : c.call_after-call.result.created ≡ created_by old.call act = c.call_after-call.ensures.created ∙ ap (λ (k : Option OpenCall). created_by k act) c.take-begun.ensures.value in
    let change : c.change_of_cells-change.result ≡ change_of_cells old.call act = c.change_of_cells-change.ensures ∙ ap (λ (k : Option OpenCall). change_of_cells k act) c.as_ref.ensures.value in
    let call : c.call_after-call.result.call ≡ call_by lives c.args.coming old.call entry act =
    c.call_after-call.ensures.call lives (sym c.list.ensures.value) ∙ ap (λ (k : Option OpenCall). call_by lives c.args.coming k entry act) c.take-begun.ensures.value in
    let P : Option OpenCall → Type 0 = IsReadyToGoOn old in
    let Q : Option OpenCall → Type 0 = IsReadyToGoOn new in
    let same : KeepsCells old new (created_by old.call act) (change_of_cells old.call act) = λ none keep. c.make_cells.ensures.kept (made ∙ none) (change ∙ keep) in
    subst Q (sym call) (ready_made old new lives c.args.coming old.call entry act (omega arith) (λ q held. held) same (subst P call h))
