-- The registers of an endpoint: BAR 0, and the table of vectors in BAR 1.
use Rattle.std.specs.Prelude.{ℕ, ◌*◌, ◌/◌, ◌%◌, Bool, nat_lt, ◌==◌, slice_set, if◌then◌else◌}
use Rattle.jh_ivshmem.specs.declared.vector.Vector.{Vector}
use Rattle.jh_ivshmem.specs.declared.endpoint.Endpoint.{Endpoint}
use Rattle.jh_ivshmem.specs.Endpoint.{vector_at}

-- a word of the vector: its address, its upper address, its message, or its mask in bit 0
abbrev pub word_of : Vector → ℕ → ℕ
word_of vector n =
    if n == 0 then vector.address
    else (if n == 1 then vector.upper_address
    else (if n == 2 then vector.message
    else (if vector.masked then 1 else 0)))

-- the vector after a write of the value to one of its four words
abbrev pub with_word : ℕ → ℕ → Vector → Vector
with_word n value vector =
    if n == 0 then record vector { address = value }
    else (if n == 1 then record vector { upper_address = value }
    else (if n == 2 then record vector { message = value }
    else record vector { masked = value % 2 == 1 }))

-- the offset lies in the table of vectors
abbrev pub is_in_table : Endpoint → ℕ → Bool
is_in_table e at = nat_lt at (16 * e.spec.function.vectors)

-- what a read gives: in BAR 0 the ID at 0, the peers at 4, interrupt control at 8, the state at 10h, in BAR 1 the
-- words of the vectors; all else is 0, the doorbell at Ch too
unfoldable pub register_of : Endpoint → ℕ → ℕ → ℕ
register_of e bar at =
    if bar == 0 then (
    if at == 0x00 then e.spec.id
    else (if at == 0x04 then e.spec.peers
    else (if at == 0x08 then (if e.control then 1 else 0)
    else (if at == 0x10 then e.state
    else 0))))
    else (if is_in_table e at then word_of (vector_at e (at / 16)) (at / 4 % 4) else 0)

-- what a write leaves that is neither of the doorbell nor of the state: interrupt control, or a vector's word
unfoldable pub register_written : ℕ → ℕ → ℕ → Endpoint → Endpoint
register_written bar at value e =
    if bar == 0 then (if at == 0x08 then record e { control = value % 2 == 1 } else e)
    else (if is_in_table e at
    then record e { vectors = slice_set e.vectors (at / 16) (with_word (at / 4 % 4) value (vector_at e (at / 16))) }
    else e)
