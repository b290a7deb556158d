-- What the command asks for is done.
use Rattle.jh_cli.proofs.reply.carry_out.Goals as goal

pub returns-in-Check-clause-ends : goal.returns-in-Check-clause-ends
returns-in-Check-clause-ends g c = rw c.in-Check.is c.check.ensures.ends

pub returns-in-Check-clause-asked : goal.returns-in-Check-clause-asked
returns-in-Check-clause-asked g c = rw c.in-Check.is c.check.ensures.asked

pub returns-in-Pack-clause-ends : goal.returns-in-Pack-clause-ends
returns-in-Pack-clause-ends g c = rw c.in-Pack.is c.pack.ensures.ends

pub returns-in-Pack-clause-asked : goal.returns-in-Pack-clause-asked
returns-in-Pack-clause-asked g c = rw c.in-Pack.is c.pack.ensures.asked

pub returns-in-Play-clause-ends : goal.returns-in-Play-clause-ends
returns-in-Play-clause-ends g c = rw c.in-Play.is c.play.ensures.ends

pub returns-in-Play-clause-asked : goal.returns-in-Play-clause-asked
returns-in-Play-clause-asked g c = rw c.in-Play.is c.play.ensures.asked

pub returns-in-Audit-clause-ends : goal.returns-in-Audit-clause-ends
returns-in-Audit-clause-ends g c = rw c.in-Audit.is c.audit.ensures.ends

pub returns-in-Audit-clause-asked : goal.returns-in-Audit-clause-asked
returns-in-Audit-clause-asked g c = rw c.in-Audit.is c.audit.ensures.asked

pub returns-in-Map-clause-ends : goal.returns-in-Map-clause-ends
returns-in-Map-clause-ends g c = rw c.in-Map.is c.map.ensures.ends

pub returns-in-Map-clause-asked : goal.returns-in-Map-clause-asked
returns-in-Map-clause-asked g c = rw c.in-Map.is c.map.ensures.asked

pub returns-in-Plan-clause-ends : goal.returns-in-Plan-clause-ends
returns-in-Plan-clause-ends g c = rw c.in-Plan.is c.plan.ensures.ends

pub returns-in-Plan-clause-asked : goal.returns-in-Plan-clause-asked
returns-in-Plan-clause-asked g c = rw c.in-Plan.is c.plan.ensures.asked

pub returns-in-Pins-clause-ends : goal.returns-in-Pins-clause-ends
returns-in-Pins-clause-ends g c = rw c.in-Pins.is c.pins.ensures.ends

pub returns-in-Pins-clause-asked : goal.returns-in-Pins-clause-asked
returns-in-Pins-clause-asked g c = rw c.in-Pins.is c.pins.ensures.asked

pub returns-in-Tables-clause-ends : goal.returns-in-Tables-clause-ends
returns-in-Tables-clause-ends g c = rw c.in-Tables.is c.tables.ensures.ends

pub returns-in-Tables-clause-asked : goal.returns-in-Tables-clause-asked
returns-in-Tables-clause-asked g c = rw c.in-Tables.is c.tables.ensures.asked
