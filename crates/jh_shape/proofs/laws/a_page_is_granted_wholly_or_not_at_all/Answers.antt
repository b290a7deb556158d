-- The region has the whole page and leads it on in order; root is kept from all of it or none.
use Rattle.jh_shape.proofs.GrantLemmas.{page_granted}
use Rattle.jh_shape.proofs.laws.a_page_is_granted_wholly_or_not_at_all.Goals as goal

pub returns : goal.returns
returns c = λ claims grant j k sound. page_granted claims grant.page grant.place j k grant.rights grant.device sound grant.whole
