-- While records are missing, the bytes that are left have room for one more.
use Rattle.jh_cellcfg.proofs.Lists.{none_yet, one_more, room}
use Rattle.jh_cellcfg.proofs.record.read_list.Goals as goal

pub loop-init : goal.loop-init
loop-init g c = rw c.in_ok-list.ensures.items (none_yet g.R.Record.bytes_of g.R.Record.Fits g.R.Record.SIZE c.args.reader.now.rest.now)

pub read-requires : goal.read-requires
read-requires g c = room c.args.count c.loop.counter g.R.Record.SIZE _ _ c.loop-test.true c.requires c.loop.invariant.left

pub loop-preserved : goal.loop-preserved
loop-preserved g c =
    rw c.in_ok-push.ensures.items
    (one_more g.R.Record.bytes_of g.R.Record.Fits g.R.Record.SIZE c.args.reader.now.rest.now c.loop.reader.rest.now c.read.new.reader.rest.now c.loop.list.items c.loop.counter c.read.result
    c.loop.invariant c.read.ensures.taken c.read.ensures.fits c.read.ensures.left)

pub returns-clause-taken : goal.returns-clause-taken
returns-clause-taken g c = rw c.from_vec.ensures c.loop.invariant.taken
