-- The header's bytes are put first, and those of the parts behind them.
use Rattle.std.proofs.Common.{◌++◌, ap, ◌∙◌, append_assoc, List, ℕ}
use Rattle.jh_cellcfg.specs.Spelling.{header_bytes, header_of, parts_bytes, body_bytes}
use Rattle.jh_cellcfg.specs.declared.header.Header.{Header}
use Rattle.jh_cellcfg.proofs.Writing.{written_as}
use Rattle.jh_cellcfg.proofs.write.write_body.Goals as goal

pub returns : goal.returns
returns c =
    let header = header_bytes (header_of c.args.config.now) in
    let parts = parts_bytes c.args.config.now in
    written_as c.write_parts.result (c.in_ok-out.out.written.items ++ parts) (c.args.out.written.items ++ body_bytes c.args.config.now)
    (ap (λ (l : List ℕ). l ++ parts) (c.in_ok-out.ensures ∙ ap (λ (h : Header). c.args.out.written.items ++ header_bytes h) c.of.ensures) ∙ append_assoc c.args.out.written.items header parts) c.write_parts.ensures
