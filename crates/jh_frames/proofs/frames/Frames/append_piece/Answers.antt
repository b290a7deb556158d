-- The hypervisor's bytes, or those of a page of guests.
use Rattle.std.proofs.Common.{◌++◌, ap, sym, ◌∙◌}
use Rattle.jh_frames.proofs.MemoryLemmas.{own_within, own_row, guest_row_all}
use Rattle.jh_frames.proofs.frames.Frames.append_piece.Goals as goal

pub returns-then-has-clause-items : goal.returns-then-has-clause-items
returns-then-has-clause-items c =
    rw (← c.self.view_is) (c.append.ensures.items ∙ ap (λ row. c.args.buffer.now.items ++ row)
    (own_row (record { own = c.self.inside.own; guest = c.self.inside.guest }) c.args.at c.args.count (own_within c.self.inside.own c.args.at c.args.count c.has.ensures.whole (sym c.has.ensures.value ∙ c.if-has.true) c.requires.one_page)))

pub returns-else-has-clause-items : goal.returns-else-has-clause-items
returns-else-has-clause-items c =
    rw (← c.self.view_is) (c.append-else-has.ensures.items ∙ ap (λ row. c.args.buffer.now.items ++ row)
    (guest_row_all (record { own = c.self.inside.own; guest = c.self.inside.guest }) c.args.at c.args.count c.has.ensures.whole (sym c.has.ensures.value ∙ c.if-has.false) c.requires.one_page))
