-- The file is the last that is read, and the call ends at it, or at none.
use Rattle.std.proofs.Common.{ap}
use Rattle.jh_cli.specs.Reading.{Reply}
use Rattle.jh_cli.specs.Audit.{journal_file}
use Rattle.jh_cli.specs.Order.{AsksFile}
use Rattle.jh_cli.specs.Private.Endings.{reply_of}
use Rattle.jh_cli.proofs.OrderLemmas.{file_ends, file_read, audited_at_none}
use Rattle.jh_cli.proofs.StopLemmas.{told_up}
use Rattle.jh_cli.proofs.audit.audit_by.Goals as goal

pub returns-in_err-judged-clause-asked : goal.returns-in_err-judged-clause-asked
returns-in_err-judged-clause-asked g c =
    let contents = g.F.Files.contents c.args.files.now in
    let name = c.args.name.now in
    let s = c.args.files.now in
    let t = c.judge.new.files in
    told_up (AsksFile g.F.Files s t contents name journal_file) c.from_residual.result c.in_err-judged.field-0.0 c.from_residual.ensures.1
    (file_ends g.F.Files contents name journal_file s t c.in_err-judged.field-0.0 c.in_err-judged.ensures.err c.in_err-judged.ensures.asked_until)

pub returns-clause-asked : goal.returns-clause-asked
returns-clause-asked g c =
    file_read g.F.Files (g.F.Files.contents c.args.files.now) c.args.name.now journal_file c.args.files.now c.judge.new.files (reply_of c.in_ok-tell_verdict.field-0) c.in_ok-judged.ensures.asked (audited_at_none (reply_of c.in_ok-tell_verdict.field-0) c.in_ok-judged.judged.verdict (ap (λ (s : Reply). s.status) c.in_ok-tell_verdict.ensures))
