-- A page's own bytes, or zeros where there is none.
use Rattle.std.proofs.Common.{◌≡◌, ◌/◌, ◌++◌, sym, ap, ◌∙◌, Some, None}
use Rattle.jh_num.specs.Pages.{page_at}
use Rattle.jh_frames.proofs.MemoryLemmas.{guest_row, no_row}
use Rattle.jh_frames.proofs.guest.Guest.append.Goals as goal

pub returns-in-None-clause-items : goal.returns-in-None-clause-items
returns-in-None-clause-items c =
    let none : page_at c.args.self.now.pages (c.args.at / 4096) ≡ None = rw (← c.self.view_is) (sym c.in-None.ensures.value) in
    c.append_zeros.ensures.items ∙ ap (λ row. c.args.buffer.now.items ++ row) (no_row c.args.self.now.pages c.args.at c.args.count none c.requires.within)

pub returns-in-Some-clause-items : goal.returns-in-Some-clause-items
returns-in-Some-clause-items c =
    let there : page_at c.args.self.now.pages (c.args.at / 4096) ≡ Some c.in-Some.page.now = rw (← c.self.view_is) (sym c.in-Some.ensures.value) in
    c.append.ensures.items ∙ ap (λ row. c.args.buffer.now.items ++ row) (guest_row c.args.self.now.pages c.in-Some.page.now c.args.at c.args.count there c.append.ensures.whole c.requires.within)
