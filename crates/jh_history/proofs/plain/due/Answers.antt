-- What is due, by what holds after the journal.
use Rattle.jh_history.specs.History.{facts}
use Rattle.jh_history.specs.Due.{IsLegal}
use Rattle.jh_history.specs.Sound.{IsSound}
use Rattle.jh_history.specs.Private.PlainView.{Represents}
use Rattle.jh_history.proofs.plain.due.Goals as goal

pub after-requires-clause-legal : goal.after-requires-clause-legal
after-requires-clause-legal c = rw (c.as_slice.ensures, c.form.ensures) c.requires.legal

pub returns : goal.returns
returns c =
    let legal : IsLegal c.args.image.now c.form.result c.as_slice.result.now = rw (c.as_slice.ensures, c.form.ensures) c.requires.legal in
    let f = facts c.args.image.now c.form.result c.as_slice.result.now in
    let stands : Represents c.in_ok-plain.plain c.args.image.now f × IsSound c.args.image.now f = (c.in_ok-plain.ensures, c.legal_journals_are_sound.ensures.legal c.args.image.now c.form.result c.as_slice.result.now c.requires.admitted legal) in
    rw (← c.as_slice.ensures, ← c.form.ensures) (c.next_of.ensures.due c.args.image.now f stands)

pub next_of-requires : goal.next_of-requires
next_of-requires c = c.admitted_roots_are_sound.ensures.cpus c.requires.admitted c.args.cpu c.requires.cpu
