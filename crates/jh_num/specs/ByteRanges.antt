-- What contracts see of a set of bytes.
use Rattle.std.specs.Prelude.{ℕ, List}
use Rattle.jh_num.specs.declared.range.Range.{Range}

-- a set of bytes: its ranges in order, and how many of them fit without taking memory
pub record ByteRanges : Type 0 where
  pub ranges : List Range
  pub room : ℕ
