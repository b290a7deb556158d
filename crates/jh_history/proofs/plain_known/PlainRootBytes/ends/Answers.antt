-- Nothing is read past the addresses.
use Rattle.jh_history.specs.declared.access.Access.TheVariants.{Read}
use Rattle.jh_history.specs.Grants.{granted_in}
use Rattle.jh_history.specs.Private.PlainView.{last_byte}
use Rattle.jh_history.proofs.ReadLemmas.{read_beyond}
use Rattle.jh_history.proofs.plain_known.PlainRootBytes.ends.Goals as goal

pub returns : goal.returns
returns c = λ at le.
    let p = c.args.self.now in
    read_beyond (last_byte p.image p.bytes) (granted_in p.image p.cells p.image.system.root.id Read) at le
