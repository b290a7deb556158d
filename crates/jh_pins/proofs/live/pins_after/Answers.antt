-- The board begins with an empty journal, and stays one of the image.
use Rattle.std.proofs.Common.{◌≡◌, ℕ, ◌≤◌, not, length, ap, subst, ◌∙◌}
use Rattle.jh_script.specs.declared.image.Image.{Image}
use Rattle.jh_history.specs.declared.form.Form.{Form}
use Rattle.jh_history.specs.declared.form.Form.TheVariants.{Two}
use Rattle.jh_history.specs.Due.{IsLegal}
use Rattle.jh_history.specs.History.{facts}
use Rattle.jh_history.specs.Items.{items}
use Rattle.jh_shape.specs.Lives.{configs_of}
use Rattle.jh_board.specs.BoardView.{BoardView}
use Rattle.jh_pins.specs.After.{live_table}
use Rattle.jh_pins.specs.Holders.{table_of}
use Rattle.jh_pins.proofs.LiveLemmas.{reached, stopped_exactly}
use Rattle.jh_pins.proofs.live.pins_after.Goals as goal

pub returns-clause-table : goal.returns-clause-table
returns-clause-table c =
    let entries = c.follow.new.board.entries in
    let is : c.follow.new.board.image ≡ c.args.image = c.follow.ensures.image ∙ ap (λ (v : BoardView). v.image) c.in_ok-board.ensures in
    let is_form : c.follow.new.board.form ≡ Two = c.follow.ensures.form ∙ ap (λ (v : BoardView). v.form) c.in_ok-board.ensures in
    let P : Image → Type 0 = λ i. c.in_ok-table.table ≡ table_of i.system.root (configs_of (facts i Two entries).cells) in
    let Q : Form → Type 0 = λ form. c.in_ok-table.table ≡ live_table c.follow.new.board.image form entries in
    subst P is (subst Q is_form c.in_ok-table.ensures)

pub returns-clause-items : goal.returns-clause-items
returns-clause-items c =
    let entries = c.follow.new.board.entries in
    let P : BoardView → Type 0 = λ v. items v.image v.form v.limit c.args.schedule.now v.entries ≡ reached entries (not c.in_ok-whole.whole) in
    subst P c.in_ok-board.ensures c.in_ok-whole.ensures.reached

pub returns-clause-board : goal.returns-clause-board
returns-clause-board c =
    let entries = c.follow.new.board.entries in
    let is : c.follow.new.board.image ≡ c.args.image = c.follow.ensures.image ∙ ap (λ (v : BoardView). v.image) c.in_ok-board.ensures in
    let is_limit : c.follow.new.board.limit ≡ c.args.limit = c.follow.ensures.limit ∙ ap (λ (v : BoardView). v.limit) c.in_ok-board.ensures in
    let is_form : c.follow.new.board.form ≡ Two = c.follow.ensures.form ∙ ap (λ (v : BoardView). v.form) c.in_ok-board.ensures in
    λ i. record { image = is i; limit = is_limit i; form = is_form i; entries = entries }

pub returns-clause-legal : goal.returns-clause-legal
returns-clause-legal c =
    let entries = c.follow.new.board.entries in
    let is : c.follow.new.board.image ≡ c.args.image = c.follow.ensures.image ∙ ap (λ (v : BoardView). v.image) c.in_ok-board.ensures in
    let is_form : c.follow.new.board.form ≡ Two = c.follow.ensures.form ∙ ap (λ (v : BoardView). v.form) c.in_ok-board.ensures in
    let P : Image → Type 0 = λ i. IsLegal i Two entries in
    let Q : Form → Type 0 = λ form. IsLegal c.follow.new.board.image form entries in
    subst P is (subst Q is_form c.journal.ensures.legal)

pub returns-clause-full : goal.returns-clause-full
returns-clause-full c =
    let entries = c.follow.new.board.entries in
    let is_limit : c.follow.new.board.limit ≡ c.args.limit = c.follow.ensures.limit ∙ ap (λ (v : BoardView). v.limit) c.in_ok-board.ensures in
    let P : BoardView → Type 0 = λ v. items v.image v.form v.limit c.args.schedule.now v.entries ≡ reached entries (not c.in_ok-whole.whole) in
    let Q : ℕ → Type 0 = λ n. length entries ≤ n in
    stopped_exactly c.items_run_until_one_is_cut_short.ensures.cut c.args.image Two c.args.limit c.args.schedule.now entries c.in_ok-whole.whole (subst P c.in_ok-board.ensures c.in_ok-whole.ensures.reached) (subst Q is_limit c.journal.ensures.within)
