-- What a sink in memory holds.
use Rattle.std.specs.Prelude.{ℕ, List}

-- what was appended, how many bytes still fit, and the count of faults
pub record Buffer : Type 0 where
  -- what was appended
  pub bytes : List ℕ
  -- how many bytes still fit
  pub free : ℕ
  pub faults : ℕ
