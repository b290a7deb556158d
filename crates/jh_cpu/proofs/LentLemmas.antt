-- What is kept of a lent CPU stays while it is lent.
use Rattle.std.proofs.Common.{◌≡◌, ℕ, List, [], ◌∷◌, refl, ◌∙◌}
use Rattle.jh_cpu.specs.declared.cpu.Cpu.{Cpu}
use Rattle.jh_cpu.specs.Changes.{position_in_root}
use Rattle.jh_cpu.specs.Meanwhile.{Happening, happened, after_all, Ask, Stop, Resume, Move, Park, Restart, Fail}

position_in_root_happened : (end : ℕ) (cpu : Cpu) (h : Happening) → position_in_root end (happened cpu h) ≡ position_in_root end cpu
position_in_root_happened end cpu Ask = refl
position_in_root_happened end cpu Stop = refl
position_in_root_happened end cpu Resume = refl
position_in_root_happened end cpu Move = refl
position_in_root_happened end cpu Park = refl
position_in_root_happened end cpu Restart = refl
position_in_root_happened end cpu Fail = refl

pub position_in_root_after_all : (end : ℕ) (cpu : Cpu) (hs : List Happening) → position_in_root end (after_all cpu hs) ≡ position_in_root end cpu
position_in_root_after_all end cpu [] = refl
position_in_root_after_all end cpu (h ∷ hs) = position_in_root_after_all end (happened cpu h) hs ∙ position_in_root_happened end cpu h
