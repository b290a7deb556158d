-- The header has 132 bytes.
use Rattle.std.proofs.Common.{ℕ, List, Option, length, ap, sym, ◌∙◌}
use Rattle.jh_history.proofs.ReadLemmas.{bytes_by_length}
use Rattle.jh_history.proofs.reading.read_config.Goals as goal

pub header_of-requires : goal.header_of-requires
header_of-requires g c =
    let byte : ℕ → Option ℕ = g.R.RootBytes.readable c.args.root.now in
    ap (λ (bs : List ℕ). length bs) c.as_slice.ensures.value ∙ bytes_by_length byte c.args.at 132 c.in-Some.header (sym c.in_ok-header.ensures ∙ c.in-Some.is)
