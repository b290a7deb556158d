-- A filter keeps what passes.
use Rattle.jh_cache.proofs.MemberLemmas.{flushed_from, flushed_to}
use Rattle.jh_cache.proofs.laws.a_flush_drops_its_tag_alone.Goals as goal

pub returns : goal.returns
returns c = λ list tag x. (flushed_from list tag x, flushed_to list tag x)
