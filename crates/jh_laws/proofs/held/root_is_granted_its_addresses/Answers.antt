-- Root's regions lie at their own places.
use Rattle.jh_laws.proofs.GrantLemmas.{granted_same}
use Rattle.jh_laws.proofs.held.root_is_granted_its_addresses.Goals as goal

pub returns : goal.returns
returns c = granted_same
