-- What the step does is one turn, and the laws of turns say what it leaves.
use Rattle.std.proofs.Common.{◌-◌}
use Rattle.jh_shape.specs.Claims.{claims_of}
use Rattle.jh_shape.specs.Shapes.{want_of}
use Rattle.jh_edit.specs.Plans.{EditView}
use Rattle.jh_edit.specs.Tables.{words}
use Rattle.jh_edit.specs.Moves.{IsTurn, written_page}
use Rattle.jh_edit.proofs.MoveStepLemmas.{step_cache, step_turn}
use Rattle.jh_edit.proofs.edit.Edit.turn.Goals as goal

pub returns-clause-tables : goal.returns-clause-tables
returns-clause-tables c =
    let want = want_of (claims_of c.args.t.now) in
    let move = c.step.ensures.0 in
    let step = c.step.ensures.1 in
    let old : EditView = c.args.self.now in
    let seen : EditView = record { table = c.self.inside.table; left = c.self.inside.left; removing = c.self.inside.removing; ahead = c.self.inside.ahead; cursor = c.self.inside.cursor } in
    let new : EditView = record seen { left = seen.left - 1 } in
    let f = c.args.f.now in
    let f' = c.step.new.f in
    let turn : IsTurn old new want (words f) (words f') move = step_turn c.args.tag want old c.step.new.self seen f f' c.args.p.now c.step.new.p c.args.c.now c.step.new.c move c.requires.left step c.self.view_is in
    c.turns_keep_the_tables_apart.ensures f f' old new want move c.args.p.now c.requires.tables c.requires.pool c.requires.taken c.requires.plan step.memory.base step.memory.size turn

pub returns-clause-one_page : goal.returns-clause-one_page
returns-clause-one_page c =
    let want = want_of (claims_of c.args.t.now) in
    let move = c.step.ensures.0 in
    let step = c.step.ensures.1 in
    let old : EditView = c.args.self.now in
    let seen : EditView = record { table = c.self.inside.table; left = c.self.inside.left; removing = c.self.inside.removing; ahead = c.self.inside.ahead; cursor = c.self.inside.cursor } in
    let new : EditView = record seen { left = seen.left - 1 } in
    let f = c.args.f.now in
    let f' = c.step.new.f in
    let turn : IsTurn old new want (words f) (words f') move = step_turn c.args.tag want old c.step.new.self seen f f' c.args.p.now c.step.new.p c.args.c.now c.step.new.c move c.requires.left step c.self.view_is in
    (written_page old.table move, (c.turns_write_their_own_pages.ensures f f' old new want move c.requires.tables c.requires.plan turn, step.memory.outside))

pub returns-clause-breaks : goal.returns-clause-breaks
returns-clause-breaks c =
    let want = want_of (claims_of c.args.t.now) in
    let move = c.step.ensures.0 in
    let step = c.step.ensures.1 in
    let old : EditView = c.args.self.now in
    let seen : EditView = record { table = c.self.inside.table; left = c.self.inside.left; removing = c.self.inside.removing; ahead = c.self.inside.ahead; cursor = c.self.inside.cursor } in
    let new : EditView = record seen { left = seen.left - 1 } in
    let f = c.args.f.now in
    let f' = c.step.new.f in
    let turn : IsTurn old new want (words f) (words f') move = step_turn c.args.tag want old c.step.new.self seen f f' c.args.p.now c.step.new.p c.args.c.now c.step.new.c move c.requires.left step c.self.view_is in
    c.turns_break_before_they_make.ensures f f' old new want move c.requires.tables turn

pub returns-clause-cache : goal.returns-clause-cache
returns-clause-cache c =
    let want = want_of (claims_of c.args.t.now) in
    let move = c.step.ensures.0 in
    let step = c.step.ensures.1 in
    let old : EditView = c.args.self.now in
    let seen : EditView = record { table = c.self.inside.table; left = c.self.inside.left; removing = c.self.inside.removing; ahead = c.self.inside.ahead; cursor = c.self.inside.cursor } in
    let new : EditView = record seen { left = seen.left - 1 } in
    let f = c.args.f.now in
    let f' = c.step.new.f in
    let turn : IsTurn old new want (words f) (words f') move = step_turn c.args.tag want old c.step.new.self seen f f' c.args.p.now c.step.new.p c.args.c.now c.step.new.c move c.requires.left step c.self.view_is in
    step_cache c.args.tag want old c.step.new.self f f' c.args.p.now c.step.new.p c.args.c.now c.step.new.c move step (c.turns_lead_where_it_is_wanted.ensures.grows f f' old new want move c.requires.tables turn)

pub returns-clause-leaves : goal.returns-clause-leaves
returns-clause-leaves c =
    let want = want_of (claims_of c.args.t.now) in
    let move = c.step.ensures.0 in
    let step = c.step.ensures.1 in
    let old : EditView = c.args.self.now in
    let seen : EditView = record { table = c.self.inside.table; left = c.self.inside.left; removing = c.self.inside.removing; ahead = c.self.inside.ahead; cursor = c.self.inside.cursor } in
    let new : EditView = record seen { left = seen.left - 1 } in
    let f = c.args.f.now in
    let f' = c.step.new.f in
    let turn : IsTurn old new want (words f) (words f') move = step_turn c.args.tag want old c.step.new.self seen f f' c.args.p.now c.step.new.p c.args.c.now c.step.new.c move c.requires.left step c.self.view_is in
    c.turns_lead_where_it_is_wanted.ensures.leaves f f' old new want move c.requires.tables turn

pub returns-clause-right : goal.returns-clause-right
returns-clause-right c =
    let want = want_of (claims_of c.args.t.now) in
    let move = c.step.ensures.0 in
    let step = c.step.ensures.1 in
    let old : EditView = c.args.self.now in
    let seen : EditView = record { table = c.self.inside.table; left = c.self.inside.left; removing = c.self.inside.removing; ahead = c.self.inside.ahead; cursor = c.self.inside.cursor } in
    let new : EditView = record seen { left = seen.left - 1 } in
    let f = c.args.f.now in
    let f' = c.step.new.f in
    let turn : IsTurn old new want (words f) (words f') move = step_turn c.args.tag want old c.step.new.self seen f f' c.args.p.now c.step.new.p c.args.c.now c.step.new.c move c.requires.left step c.self.view_is in
    λ aims. c.turns_leave_right_words.ensures.right f f' old new want move c.requires.tables aims turn

pub returns-clause-left_alone : goal.returns-clause-left_alone
returns-clause-left_alone c =
    let want = want_of (claims_of c.args.t.now) in
    let move = c.step.ensures.0 in
    let step = c.step.ensures.1 in
    let old : EditView = c.args.self.now in
    let seen : EditView = record { table = c.self.inside.table; left = c.self.inside.left; removing = c.self.inside.removing; ahead = c.self.inside.ahead; cursor = c.self.inside.cursor } in
    let new : EditView = record seen { left = seen.left - 1 } in
    let f = c.args.f.now in
    let f' = c.step.new.f in
    let turn : IsTurn old new want (words f) (words f') move = step_turn c.args.tag want old c.step.new.self seen f f' c.args.p.now c.step.new.p c.args.c.now c.step.new.c move c.requires.left step c.self.view_is in
    λ aims. c.turns_leave_right_words.ensures.alone f f' old new want move (c.claims_want_tables_below_tables.ensures (claims_of c.args.t.now)) c.requires.tables aims turn

pub returns-clause-pages : goal.returns-clause-pages
returns-clause-pages c =
    let want = want_of (claims_of c.args.t.now) in
    let move = c.step.ensures.0 in
    let step = c.step.ensures.1 in
    let old : EditView = c.args.self.now in
    let seen : EditView = record { table = c.self.inside.table; left = c.self.inside.left; removing = c.self.inside.removing; ahead = c.self.inside.ahead; cursor = c.self.inside.cursor } in
    let new : EditView = record seen { left = seen.left - 1 } in
    let f = c.args.f.now in
    let f' = c.step.new.f in
    let turn : IsTurn old new want (words f) (words f') move = step_turn c.args.tag want old c.step.new.self seen f f' c.args.p.now c.step.new.p c.args.c.now c.step.new.c move c.requires.left step c.self.view_is in
    c.turns_account_for_pages.ensures.taken f f' old new want move c.args.p.now c.step.new.p c.requires.tables c.requires.plan c.requires.taken turn step.pool

pub returns-clause-fresh : goal.returns-clause-fresh
returns-clause-fresh c =
    let want = want_of (claims_of c.args.t.now) in
    let move = c.step.ensures.0 in
    let step = c.step.ensures.1 in
    let old : EditView = c.args.self.now in
    let seen : EditView = record { table = c.self.inside.table; left = c.self.inside.left; removing = c.self.inside.removing; ahead = c.self.inside.ahead; cursor = c.self.inside.cursor } in
    let new : EditView = record seen { left = seen.left - 1 } in
    let f = c.args.f.now in
    let f' = c.step.new.f in
    let turn : IsTurn old new want (words f) (words f') move = step_turn c.args.tag want old c.step.new.self seen f f' c.args.p.now c.step.new.p c.args.c.now c.step.new.c move c.requires.left step c.self.view_is in
    c.turns_account_for_pages.ensures.fresh f f' old new want move c.args.p.now c.step.new.p c.requires.tables c.requires.plan turn step.pool

pub returns-clause-room : goal.returns-clause-room
returns-clause-room c =
    let want = want_of (claims_of c.args.t.now) in
    let move = c.step.ensures.0 in
    let step = c.step.ensures.1 in
    let old : EditView = c.args.self.now in
    let seen : EditView = record { table = c.self.inside.table; left = c.self.inside.left; removing = c.self.inside.removing; ahead = c.self.inside.ahead; cursor = c.self.inside.cursor } in
    let new : EditView = record seen { left = seen.left - 1 } in
    let f = c.args.f.now in
    let f' = c.step.new.f in
    let turn : IsTurn old new want (words f) (words f') move = step_turn c.args.tag want old c.step.new.self seen f f' c.args.p.now c.step.new.p c.args.c.now c.step.new.c move c.requires.left step c.self.view_is in
    λ aims. c.turns_account_for_pages.ensures.room f f' old new want move c.args.p.now c.step.new.p c.requires.tables aims turn step.pool
