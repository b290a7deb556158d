-- A page of the hypervisor's memory, lent to be written.
use Rattle.std.specs.Prelude.{◌≡◌, ℕ, ◌-◌, ◌++◌, List, length, take, drop}
use Rattle.std.specs.Borrow.{Lends, MutBor, Fml, Array, u8}
use Rattle.jh_frames.specs.contracts.frames.Frames as frames
use Rattle.jh_frames.specs.Memory.{OwnView, FramesView, AreOwnBytes}

-- the list with the other in place of as many elements from the index on, as far as the list goes
abbrev pub put_in : List ℕ → ℕ → List ℕ → List ℕ
put_in bytes k part = take (length bytes) (take k bytes ++ (part ++ drop (length part) (drop k bytes)))

-- the hypervisor's memory with this page at the place
abbrev pub with_own_page : OwnView → ℕ → List ℕ → OwnView
with_own_page own at page = record { base = own.base; bytes = put_in own.bytes (at - own.base) page }

-- memory with this page at the place of the hypervisor's
abbrev pub with_page : FramesView → ℕ → List ℕ → FramesView
with_page memory at page = record { own = with_own_page memory.own at page; guest = memory.guest }

-- memory, and a page that takes the place of one of the hypervisor's, which was lent
pub record PageGivenBack : Type 0 where
  pub memory : FramesView
  pub at : ℕ
  pub page : List ℕ
  pub own : AreOwnBytes memory.own at 4096
  pub whole : length page ≡ 4096

-- what is last written through r is the page at the place, of memory: it is one of the hypervisor's
abbrev pub LendsPage : MutBor FramesView → ℕ → MutBor (List ℕ) → Fml
LendsPage s at r = Lends frames.the_row (Array u8 0) s r (with_page s.now at)
