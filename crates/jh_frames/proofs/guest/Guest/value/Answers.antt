-- A page's own bytes, or zeros where there is none.
use Rattle.std.proofs.Common.{◌≡◌, ◌/◌, sym, ◌∙◌, Some, None}
use Rattle.jh_num.specs.Pages.{page_at}
use Rattle.jh_num.proofs.Public.{zero_fits}
use Rattle.jh_frames.proofs.MemoryLemmas.{guest_value, no_value}
use Rattle.jh_frames.proofs.guest.Guest.value.Goals as goal

pub returns-in-None-clause-value : goal.returns-in-None-clause-value
returns-in-None-clause-value c =
    let none : page_at c.args.self.now.pages (c.args.at / 4096) ≡ None = rw (← c.self.view_is) (sym c.in-None.ensures.value) in
    no_value c.args.self.now.pages c.args.at c.args.width none c.requires.within

pub returns-in-Some-clause-value : goal.returns-in-Some-clause-value
returns-in-Some-clause-value c =
    let there : page_at c.args.self.now.pages (c.args.at / 4096) ≡ Some c.in-Some.page.now = rw (← c.self.view_is) (sym c.in-Some.ensures.value) in
    c.value.ensures.value ∙ guest_value c.args.self.now.pages c.in-Some.page.now c.args.at c.args.width there c.value.ensures.whole c.requires.within

pub returns-in-None-clause-fits : goal.returns-in-None-clause-fits
returns-in-None-clause-fits c = zero_fits c.args.width
