-- None of the CPUs so far.
use Rattle.std.proofs.Common.{◌≡◌, ℕ, ◌&&◌, false}
use Rattle.jh_num.specs.Below.{any_below}
use Rattle.jh_cpu.specs.declared.cpu.Cpu.{Cpu}
use Rattle.jh_history.specs.Cpus.{ListsCpus}
use Rattle.jh_history.specs.Lives.{is_on_board}
use Rattle.jh_history.specs.Pages.{is_unfailed_of}
use Rattle.jh_history.proofs.pages.is_any_unfailed.Given as goal

abbrev pub invariant-loop-i : goal.invariant-loop-i
invariant-loop-i l = (state : ℕ → Cpu) → ListsCpus l.cpus state → any_below (λ i. is_on_board l.image i && is_unfailed_of l.cell (state i)) l.i ≡ false
