-- What contracts see of memory: the hypervisor's range, and the pages of guests that are held.
use Rattle.std.specs.Prelude.{◌≡◌, ℕ, ◌+◌, ◌-◌, ◌*◌, ◌/◌, ◌≤◌, Bool, ◌&&◌, ◌||◌, not, nat_lt, nat_le, List, [], ◌∷◌, length, count_by, slice_index, slice_range, Option, Some, is_some, ◌==◌, if◌then◌else◌}
use Rattle.std.specs.Int.{w64, from_le_bytes}
use Rattle.std.specs.List.{range_with_len}
use Rattle.jh_num.specs.Memory.{stored}
use Rattle.jh_num.specs.Pages.{page_at, paged_byte}

-- the hypervisor's memory: the place where it begins, and its bytes
pub record OwnView : Type 0 where
  pub base : ℕ
  pub bytes : List ℕ

-- the pages of guests by number, and how many more can be held without taking memory
pub record GuestView : Type 0 where
  pub pages : List (ℕ × List ℕ)
  pub spare : ℕ

-- memory: the hypervisor's, and the pages of guests
pub record FramesView : Type 0 where
  pub own : OwnView
  pub guest : GuestView

-- the place is in the hypervisor's memory
abbrev pub is_own : OwnView → ℕ → Bool
is_own own place = nat_le own.base place && nat_lt place (own.base + length own.bytes)

-- the bytes from the place on, so many of them, are all the hypervisor's
pub record AreOwnBytes (own : OwnView) (at size : ℕ) : Type 0 where
  pub above : own.base ≤ at
  pub below : at + size ≤ own.base + length own.bytes

-- the hypervisor's byte at the place
abbrev pub own_byte : OwnView → ℕ → ℕ
own_byte own place = if is_own own place then slice_index own.bytes (place - own.base) else 0

-- the byte at the place
abbrev pub byte_at : FramesView → ℕ → ℕ
byte_at frames place = if is_own frames.own place then own_byte frames.own place else paged_byte frames.guest.pages place

-- the page of the place is held; the hypervisor's pages always are
abbrev pub holds : FramesView → ℕ → Bool
holds frames place = is_own frames.own place || is_some (page_at frames.guest.pages (place / 4096))

-- memory as a finite map: the page of the number, the hypervisor's pages among them
abbrev pub page_of : FramesView → ℕ → Option (List ℕ)
page_of frames number =
    if is_own frames.own (4096 * number)
    then Some (slice_range frames.own.bytes (4096 * number - frames.own.base) (4096 * number - frames.own.base + 4096))
    else page_at frames.guest.pages number

-- how many of so many pages from the number on aren't held
abbrev pub missing_from : FramesView → ℕ → ℕ → ℕ
missing_from frames first count = count_by (λ number. not (holds frames (4096 * number))) (range_with_len first count)

-- how many pages so many bytes from the place on lie in
abbrev pub pages_in : ℕ → ℕ → ℕ
pages_in at count = if count == 0 then 0 else (at + count - 1) / 4096 + 1 - at / 4096

-- how many of the pages of so many bytes from the place on aren't held
abbrev pub missing : FramesView → ℕ → ℕ → ℕ
missing frames at count = missing_from frames (at / 4096) (pages_in at count)

-- the number of the eight bytes from the place on, the lowest first
abbrev pub word_in : (ℕ → ℕ) → ℕ → ℕ
word_in byte at =
    from_le_bytes w64 (byte at ∷ byte (at + 1) ∷ byte (at + 2) ∷ byte (at + 3) ∷ byte (at + 4) ∷ byte (at + 5) ∷ byte (at + 6) ∷ byte (at + 7) ∷ [])

-- each byte before and after these bytes are stored from the place on
pub record BytesStored : Type 0 where
  pub before : ℕ → ℕ
  pub after : ℕ → ℕ
  pub at : ℕ
  pub bytes : List ℕ
  pub are : (q : ℕ) → after q ≡ stored before at bytes q
