-- A leaf's word is read part by part.
use Rattle.jh_desc.proofs.WordLemmas.{leaf_written}
use Rattle.jh_desc.proofs.words.word.Goals as goal

pub returns-in-Leaf-clause-read : goal.returns-in-Leaf-clause-read
returns-in-Leaf-clause-read c = leaf_written c.args.level c.in-Leaf.out c.leaf_bits.result c.in-Leaf.rights c.in-Leaf.device c.args.d c.requires.last c.in-Leaf.is c.leaf_bits.ensures.value c.requires.writable
