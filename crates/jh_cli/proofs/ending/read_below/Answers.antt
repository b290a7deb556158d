-- One read, which hands out bytes or ends the call.
use Rattle.jh_outside.specs.Ask.{handed, faulted}
use Rattle.jh_outside.proofs.Public.{asks_alone}
use Rattle.jh_cli.specs.Lines.{fault_line}
use Rattle.jh_cli.proofs.OrderLemmas.{stops_one, refuses_one}
use Rattle.jh_cli.proofs.ending.read_below.Goals as goal

pub returns-in-Err-Fault-clause-asked_until : goal.returns-in-Err-Fault-clause-asked_until
returns-in-Err-Fault-clause-asked_until g c =
    let name = c.args.name.now in
    let asked = rw (c.in-Err-Fault.is, c.in-Err-Fault.field-0-is) at c.read.ensures.asked in
    let named = rw (c.in-Err-Fault.is, c.in-Err-Fault.field-0-is) at c.read.ensures.named in
    stops_one g.F.Files name (fault_line name) c.args.files.now c.read.new.self c.faulted.result
    (asks_alone g.F.Files c.args.files.now c.read.new.self (faulted name) asked named) (rw c.as_bytes.ensures.value at c.faulted.ensures)

pub returns-clause-asked : goal.returns-clause-asked
returns-clause-asked g c =
    asks_alone g.F.Files c.args.files.now c.read.new.self (handed c.args.name.now) (rw c.in-Ok.is at c.read.ensures.asked) (rw c.in-Ok.is at c.read.ensures.named)

pub returns-then-len-most-clause-asked_until : goal.returns-then-len-most-clause-asked_until
returns-then-len-most-clause-asked_until g c =
    let name = c.args.name.now in
    let asked = rw c.in-Ok.is at c.read.ensures.asked in
    let named = rw c.in-Ok.is at c.read.ensures.named in
    refuses_one g.F.Files name _ c.args.files.now c.read.new.self c.refused.result
    (asks_alone g.F.Files c.args.files.now c.read.new.self (handed name) asked named) (rw c.as_bytes-then-len-most.ensures.value at c.refused.ensures)
