-- How much a text of messages may have.
use Rattle.std.specs.Prelude.{ℕ}

-- how many messages either side may have
abbrev pub most_messages : ℕ
most_messages = 1000
