-- A leaf tells what each byte of its slot is granted, and where nothing meets the slot none is.
use Rattle.jh_shape.proofs.WantedLemmas.{wanted_tells}
use Rattle.jh_shape.proofs.laws.what_is_wanted_tells_grants.Goals as goal

pub returns : goal.returns
returns c = wanted_tells
