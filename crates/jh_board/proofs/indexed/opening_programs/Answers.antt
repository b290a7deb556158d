-- Each is where root's is.
use Rattle.std.proofs.Common.{◌∙◌, [], ap, get_or, arith}
use Rattle.jh_board.specs.Indexed.{ops_at}
use Rattle.jh_board.proofs.IndexLemmas.{all_found, root_found}
use Rattle.jh_board.proofs.indexed.opening_programs.Goals as goal

pub returns : goal.returns
returns c =
    let image = c.args.image.now in
    let found = c.loop-cpu.found in
    all_found image [] found c.loop-cpu.invariant.all (λ k d lt.
    ap (ops_at image) (c.loop-cpu.invariant.index k d (omega arith))
    ∙ root_found image [] c.root_programs-indices.result (get_or found k d).owner k c.root_programs-indices.ensures lt (c.loop-cpu.invariant.owner k d (omega arith)))
