-- A page of the hypervisor's range, lent to be written.
use Rattle.std.specs.Prelude.{ℕ, List}
use Rattle.std.specs.Borrow.{Lends, MutBor, Fml, Array, u8}
use Rattle.jh_frames.specs.contracts.own.Own as own
use Rattle.jh_frames.specs.Memory.{OwnView}
use Rattle.jh_frames.specs.Lending.{with_own_page}

-- what is last written through r is the page at the place, of the hypervisor's memory
abbrev pub LendsOwnPage : MutBor OwnView → ℕ → MutBor (List ℕ) → Fml
LendsOwnPage s at r = Lends own.the_row (Array u8 0) s r (with_own_page s.now at)
