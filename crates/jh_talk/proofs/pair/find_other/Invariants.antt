-- None of the devices so far is the one.
use Rattle.jh_talk.specs.Private.Others.{is_other}
use Rattle.jh_talk.proofs.CpuLemmas.{NoneBelow}
use Rattle.jh_talk.proofs.pair.find_other.Given as goal

abbrev pub invariant-loop-number : goal.invariant-loop-number
invariant-loop-number l = NoneBelow (is_other l.cell l.bdf) l.number
