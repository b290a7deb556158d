-- What is left of the devices has the window sought.
use Rattle.std.proofs.Common.{◌≡◌, drop, find}
use Rattle.jh_mmio.specs.Dispatch.{window_has}
use Rattle.jh_history.specs.Devices.{windows_from}
use Rattle.jh_history.proofs.devices.Devices.window.Given as goal

abbrev pub invariant-loop-number : goal.invariant-loop-number
invariant-loop-number l =
    find (window_has l.wanted.at l.wanted.width) (windows_from l.self.cell l.self.endpoints l.number (drop l.number l.self.list)) ≡ find (window_has l.wanted.at l.wanted.width) (windows_from l.self.cell l.self.endpoints 0 l.self.list)
