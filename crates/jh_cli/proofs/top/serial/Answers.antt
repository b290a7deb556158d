-- What is told is sent, and for want of memory nothing is.
use Rattle.std.specs.Prelude.{map, string_bytes}
use Rattle.jh_cli.specs.Words.{command_of}
use Rattle.jh_cli.proofs.CallLemmas.{finished_call}
use Rattle.jh_cli.proofs.top.serial.Goals as goal

pub returns : goal.returns
returns g c =
    finished_call g.F.Files g.K.Sink c.good_inputs_are_answered.ensures
    (command_of (map string_bytes c.args.words.now)) c.args.files.now c.reply_to-ending.new.files c.args.out.now c.finish.new.out c.reply_to-ending.result c.finish.result
    c.reply_to-ending.ensures.outcome c.reply_to-ending.ensures.counted c.reply_to-ending.ensures.asked c.finish.ensures.sent c.finish.ensures.fault c.finish.ensures.memory
