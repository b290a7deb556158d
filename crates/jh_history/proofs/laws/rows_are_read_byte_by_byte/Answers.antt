-- Each access of one byte reads the byte at the place.
use Rattle.std.proofs.Common.{ℕ, Option, ap, ◌∙◌}
use Rattle.std.specs.Prelude.{option_map}
use Rattle.jh_history.specs.Access.{reach_by, memory_read}
use Rattle.jh_history.specs.ReadView.{bytes_by}
use Rattle.jh_history.proofs.FactsLemmas.{same_function}
use Rattle.jh_history.proofs.ReadLemmas.{read_one, bytes_by_places}
use Rattle.jh_history.proofs.laws.rows_are_read_byte_by_byte.Goals as goal

pub returns : goal.returns
returns c = λ byte place at count beyond.
    ap (λ (read : ℕ → Option ℕ). bytes_by read at count) (same_function (λ a. memory_read byte (reach_by place a 1)) (λ a. option_map byte (place a)) (λ a. read_one byte place a beyond))
    ∙ bytes_by_places byte place at count
