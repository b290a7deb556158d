-- The file is the last that is read, and the call ends at it, or at none.
use Rattle.jh_cli.specs.Pack.{spec_file}
use Rattle.jh_cli.specs.Private.Endings.{reply_of}
use Rattle.jh_cli.specs.declared.status.Status.TheVariants.{Good}
use Rattle.jh_cli.specs.Order.{AsksFile}
use Rattle.jh_cli.proofs.OrderLemmas.{file_ends, file_read}
use Rattle.jh_cli.proofs.StopLemmas.{told_up}
use Rattle.jh_cli.proofs.pack.pack.Goals as goal

pub returns-in_err-spec-clause-asked : goal.returns-in_err-spec-clause-asked
returns-in_err-spec-clause-asked g c =
    let contents = g.F.Files.contents c.args.files.now in
    let name = c.args.name.now in
    let s = c.args.files.now in
    let t = c.spec.new.files in
    told_up (AsksFile g.F.Files s t contents name spec_file) c.from_residual.result c.in_err-spec.field-0.0 c.from_residual.ensures.1
    (file_ends g.F.Files contents name spec_file s t c.in_err-spec.field-0.0 c.in_err-spec.ensures.err c.in_err-spec.ensures.asked_until)

pub returns-clause-asked : goal.returns-clause-asked
returns-clause-asked g c =
    file_read g.F.Files (g.F.Files.contents c.args.files.now) c.args.name.now spec_file c.args.files.now c.spec.new.files (reply_of (record { status = Good; text = c.in_ok-written.field-0 })) c.in_ok-spec.ensures.asked (tt)
