-- One byte more.
use Rattle.std.proofs.Common.{ℕ, ◌++◌, [], ◌∷◌, ap, ◌∙◌}
use Rattle.jh_board.specs.Pages.{byte_of}
use Rattle.jh_board.proofs.RowLemmas.{row_last, row_none}
use Rattle.jh_board.proofs.memory.Memory.append_bytes.Goals as goal

pub loop-k-init : goal.loop-k-init
loop-k-init c = row_none c.args.bytes.now.items (byte_of c.args.self.now) c.args.first

pub loop-k-preserved : goal.loop-k-preserved
loop-k-preserved c =
    c.in_ok-push.ensures.items
    ∙ ap (λ (b : ℕ). c.loop-k.bytes.items ++ b ∷ []) (c.byte.ensures ∙ ap (byte_of c.args.self.now) c.place_behind.ensures)
    ∙ row_last c.args.bytes.now.items c.loop-k.bytes.items (byte_of c.args.self.now) c.args.first c.loop-k.k c.loop-k.invariant
