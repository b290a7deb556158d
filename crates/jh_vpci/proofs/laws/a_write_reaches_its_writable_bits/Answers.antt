-- A writable bit is the spliced word's, any other bit stays, and so does every other word.
use Rattle.std.proofs.Common.{◌<◌, arith, subst, ap}
use Rattle.jh_vpci.specs.Space.{Space}
use Rattle.jh_vpci.specs.Windows.{AreWindows}
use Rattle.jh_vpci.specs.Writes.{spliced}
use Rattle.jh_vpci.specs.Words.{word_of, word_offset}
use Rattle.jh_vpci.proofs.WordLemmas.{written_put, written_kept, others_stay}
use Rattle.jh_vpci.proofs.laws.a_write_reaches_its_writable_bits.Goals as goal

vectors_fit : (c : goal.After-_space) → c.args._space.now.spec.vectors < 256
vectors_fit c =
    let same = ap (λ (space : Space). space.spec.vectors) c._space.view_is in
    omega (arith, same)

pub returns-clause-put : goal.returns-clause-put
returns-clause-put c =
    let P : Space → Type 0 = λ space. AreWindows space.bar0 space.bar1 in
    written_put c.args._space.now c.args._at c.args._width c.args._value c.args._bit
    (subst P c._space.view_is c._space.invariant) (vectors_fit c) (omega arith)

pub returns-clause-kept : goal.returns-clause-kept
returns-clause-kept c =
    let P : Space → Type 0 = λ space. AreWindows space.bar0 space.bar1 in
    written_kept c.args._space.now c.args._at c.args._width c.args._value c.args._bit
    (subst P c._space.view_is c._space.invariant) (vectors_fit c) (omega arith)

pub returns-clause-others : goal.returns-clause-others
returns-clause-others c = λ offset other.
    others_stay c.args._space.now
    (spliced (word_of c.args._space.now (word_offset c.args._at)) c.args._at c.args._width c.args._value)
    offset (word_offset c.args._at) other
