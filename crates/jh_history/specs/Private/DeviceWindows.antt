-- A window of a device.
use Rattle.std.specs.Prelude.{◌≡◌, ◌<◌}
use Rattle.jh_mmio.specs.declared.hitting.Window.{Window}
use Rattle.jh_vpci.specs.Windows.{window_size}

-- the window is one of BAR 0 or of BAR 1, and has the size of that
pub record IsGoodWindow (window : Window) : Type 0 where
  pub bar : window.bar < 2
  pub size : window.size ≡ window_size window.bar
