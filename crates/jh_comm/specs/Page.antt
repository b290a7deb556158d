-- The communication page, by offset, as Jailhouse's `hypercall.h` lays out its `jailhouse_comm_region`:
--
--   0   6 bytes    `JHCOMM`
--   6   u16        the revision, 1
--   8   u32        the cell's state
--   12  u32        the message to the cell
--   16  u32        the cell's reply
--   20  u32        flags, 0
--   24  32 bytes   the cell's console
--   56  u64        where the ECAM window begins
--   64             zeros: the fields for an interrupt controller aren't used
--
-- A page is a function from offset to byte. Numbers have their lowest byte first.
use Rattle.std.specs.Prelude.{ℕ, ◌+◌, List, [], ◌∷◌, replicate}
use Rattle.std.specs.Int.{to_le_bytes, w16, w32, w64}
use Rattle.jh_num.specs.Memory.{spelled, stored}

-- the number of 32 bits at the offset
abbrev pub word_in : (ℕ → ℕ) → ℕ → ℕ
word_in page at = spelled (page at ∷ page (at + 1) ∷ page (at + 2) ∷ page (at + 3) ∷ [])

-- the cell's state in the page
abbrev pub state_in : (ℕ → ℕ) → ℕ
state_in page = word_in page 8

-- the message to the cell in the page
abbrev pub message_in : (ℕ → ℕ) → ℕ
message_in page = word_in page 12

-- the cell's reply in the page
abbrev pub reply_in : (ℕ → ℕ) → ℕ
reply_in page = word_in page 16

-- the page with another state
abbrev pub with_state : (ℕ → ℕ) → ℕ → ℕ → ℕ
with_state page state = stored page 8 (to_le_bytes w32 state)

-- the page with a message to the cell, which has no reply yet
abbrev pub sent : (ℕ → ℕ) → ℕ → ℕ → ℕ
sent page message = stored (stored page 16 (replicate 4 0)) 12 (to_le_bytes w32 message)

-- the bytes of `JHCOMM`, with which the page begins
abbrev pub signature : List ℕ
signature = 74 ∷ 72 ∷ 67 ∷ 79 ∷ 77 ∷ 77 ∷ []

-- a page that nobody wrote to: what isn't named is 0
abbrev pub fresh_page : ℕ → List ℕ → ℕ → ℕ → ℕ
fresh_page state console mmconfig =
    let named = stored (stored (λ k. 0) 0 signature) 6 (to_le_bytes w16 1) in
    stored (stored (with_state named state) 24 console) 56 (to_le_bytes w64 mmconfig)
