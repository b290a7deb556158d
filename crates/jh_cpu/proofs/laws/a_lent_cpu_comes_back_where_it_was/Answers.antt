-- No happening, one after the other, changes what is kept of its position in root.
use Rattle.std.proofs.Common.{refl}
use Rattle.jh_cpu.specs.Changes.{lent}
use Rattle.jh_cpu.proofs.LentLemmas.{position_in_root_after_all}
use Rattle.jh_cpu.proofs.laws.a_lent_cpu_comes_back_where_it_was.Goals as goal

pub returns : goal.returns
returns c = λ cpu owner root end hs. record {
  owner = refl;
  mode = refl;
  asked = refl;
  stopped = refl;
  there = position_in_root_after_all end (lent owner cpu) hs;
  root_position = refl;
  failed = refl;
}
