-- The command of the words is one that waits for no thread; words without a command read no file.
use Rattle.std.proofs.Common.{Option, sym, subst}
use Rattle.jh_outside.specs.Trail.{no_ask}
use Rattle.jh_cli.specs.Words.{Request, IsSerial}
use Rattle.jh_cli.specs.Order.{AsksFor}
use Rattle.jh_cli.specs.Private.Endings.{reply_of}
use Rattle.jh_cli.specs.declared.status.Status.TheVariants.{Usage}
use Rattle.jh_cli.proofs.reply.reply_to.Goals as goal

pub carry_out-requires-clause-serial : goal.carry_out-requires-clause-serial
carry_out-requires-clause-serial g c = subst IsSerial (sym c.in-Some.ensures.command) c.requires

pub returns-in_ok-usage_line-in-None-clause-asked : goal.returns-in_ok-usage_line-in-None-clause-asked
returns-in_ok-usage_line-in-None-clause-asked g c =
    let files = c.args.files.now in
    let reply = reply_of (record { status = Usage; text = c.in_ok-usage_line-in-None.field-0 }) in
    subst (λ (request : Option Request). AsksFor g.F.Files files files (g.F.Files.contents files) request reply) c.in-None.ensures.command (no_ask files)
