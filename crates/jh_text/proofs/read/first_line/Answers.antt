-- Where no entry is read, no entry's line stands at the front.
use Rattle.std.proofs.Common.{rules, ◌≡◌, None}
use Rattle.jh_text.specs.Private.Reading.{front_entry}
use Rattle.jh_text.proofs.Lines.{no_line}
use Rattle.jh_text.proofs.read.first_line.Goals as goal

pub returns-in_err-entry-clause-none : goal.returns-in_err-entry-clause-none
returns-in_err-entry-clause-none c =
    let unread : front_entry c.args.text.now ≡ None = search rules in
    let fails : c.from_residual.result ≡ None = search rules in
    rw fails (no_line c.args.text.now unread)
