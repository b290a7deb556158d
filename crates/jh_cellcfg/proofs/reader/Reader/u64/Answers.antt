-- The eight bytes that were taken are those of the number that they make.
use Rattle.std.proofs.Common.{ap, rules, ◌∙◌, ◌++◌, List, ℕ, sym}
use Rattle.std.proofs.lemmas.Nat.{le_bytes_8}
use Rattle.jh_cellcfg.proofs.reader.Reader.u64.Goals as goal

pub returns-clause-taken : goal.returns-clause-taken
returns-clause-taken c =
    let is = le_bytes_8 c.array.result c.from_le_bytes.result c.array.ensures.fits (search rules) c.from_le_bytes.ensures in
    c.array.ensures.taken ∙ ap (λ (l : List ℕ). l ++ c.array.new.self.rest.now) (sym is)
