-- The parts of an access in one page each.
use Rattle.std.specs.Prelude.{◌≡◌, ℕ, ◌+◌, ◌-◌, ◌%◌, ◌<◌, ◌≤◌, Bool, is_some}
use Rattle.jh_num.specs.declared.address.TheConstants.{ADDRESS_END}
use Rattle.std.specs.List.{list_all}
use Rattle.jh_reach.specs.declared.access.Access.{Access}
use Rattle.jh_reach.specs.Places.{Sight, given}
use Rattle.jh_reach.specs.Looks.{pages_in}

-- each page of the access is given
abbrev pub are_given : Sight → Access → Bool
are_given s access = list_all (λ (page : ℕ). is_some (given s access.needs page)) (pages_in access)

-- the first so many bytes of the access, and the others
abbrev pub low_of : Access → ℕ → Access
low_of access here = record { needs = access.needs; at = access.at; width = here }

abbrev pub high_of : Access → ℕ → Access
high_of access here = record { needs = access.needs; at = access.at + here; width = access.width - here }

-- the access ends with the addresses at most, and so many of its few bytes are those in its first page
pub record IsSplit (access : Access) (here : ℕ) : Type 0 where
  pub few : access.width ≤ 8
  pub within : access.at + access.width ≤ ADDRESS_END
  pub fewer : here ≤ access.width
  pub page : access.at % 4096 + here ≤ 4096
  pub all : here < access.width → access.at % 4096 + here ≡ 4096
