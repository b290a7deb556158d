-- The page goes in among the hypervisor's bytes, and no place outside of them is the page's.
use Rattle.jh_frames.proofs.LentLemmas.{lent_bytes, lent_size, lent_held}
use Rattle.jh_frames.proofs.laws.a_page_is_written_back.Goals as goal

pub returns-clause-bytes : goal.returns-clause-bytes
returns-clause-bytes c = λ given. lent_bytes given.memory given.at given.page given.own given.whole

pub returns-clause-size : goal.returns-clause-size
returns-clause-size c = λ given. lent_size given.memory given.at given.page given.own given.whole

pub returns-clause-held : goal.returns-clause-held
returns-clause-held c = λ given. lent_held given.memory given.at given.page given.own given.whole
