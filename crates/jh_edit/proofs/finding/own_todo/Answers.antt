-- What the table itself wants is told by the list of its wants.
use Rattle.std.proofs.Common.{◌∙◌, sym, refl}
use Rattle.jh_frames.specs.Memory.{byte_at, word_in}
use Rattle.jh_edit.proofs.FindingLemmas.{tidy_by, to_empty, to_fill, to_prune}
use Rattle.jh_edit.proofs.finding.own_todo.Goals as goal

pub returns-in-Some-clause-own : goal.returns-in-Some-clause-own
returns-in-Some-clause-own c = λ want are.
    to_prune want (word_in (byte_at c.args.f.now)) c.args.node c.args.wants.now c.in-Some.link c.deepest.result are c.in-Some.ensures.link c.in-Some.ensures.unwanted c.deepest.ensures.deep

pub returns-then-any_wrong-clause-own : goal.returns-then-any_wrong-clause-own
returns-then-any_wrong-clause-own c = λ want are.
    to_empty want (word_in (byte_at c.args.f.now)) c.args.node c.args.wants.now are c.requires.node (sym c.if-any_wrong.true ∙ c.any_wrong.ensures)

pub returns-then-any_lacking-clause-own : goal.returns-then-any_lacking-clause-own
returns-then-any_lacking-clause-own c = λ want are.
    to_fill want (word_in (byte_at c.args.f.now)) c.args.node c.args.wants.now are c.requires.node
    (record { wrong = sym c.if-any_wrong.false ∙ c.any_wrong.ensures; lacks = sym c.if-any_lacking.true ∙ c.any_lacking.ensures; tables = c.in_default.ensures.none refl })

pub returns-clause-tidy : goal.returns-clause-tidy
returns-clause-tidy c = λ want are none.
    tidy_by want (word_in (byte_at c.args.f.now)) c.args.node c.args.wants.now are
    (record { wrong = sym c.if-any_wrong.false ∙ c.any_wrong.ensures; lacks = sym c.if-any_lacking.false ∙ c.any_lacking.ensures; tables = c.in_default.ensures.none refl })
