-- Nothing is read past the addresses.
use Rattle.jh_history.specs.declared.access.Access.TheVariants.{Read}
use Rattle.jh_history.specs.Grants.{granted_in}
use Rattle.jh_history.proofs.Public.{read_beyond}
use Rattle.jh_board.specs.Pages.{byte_of}
use Rattle.jh_board.proofs.state.StateRootBytes.ends.Goals as goal

pub returns : goal.returns
returns c = λ at le.
    let s = c.args.self.now in
    read_beyond (byte_of s.held.memory) (granted_in s.image s.held.cells.lives s.image.system.root.id Read) at le
