-- The bytes so far are those that stood there and behind them those of the first words.
use Rattle.std.proofs.Common.{◌≡◌, ◌++◌, take}
use Rattle.std.specs.List.{flat_map}
use Rattle.jh_cellcfg.specs.Spelling.{u32_bytes}
use Rattle.jh_cellcfg.proofs.writer.Writer.words.Given as goal

abbrev pub invariant-loop-word : goal.invariant-loop-word
invariant-loop-word l = l.more.written.items ≡ l.fn.self.written.items ++ flat_map u32_bytes (take l.word-index l.words)
