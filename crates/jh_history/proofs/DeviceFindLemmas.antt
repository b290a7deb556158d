-- The walk through the devices of a cell that seeks a window.
use Rattle.std.proofs.Common.{◌≡◌, ℕ, ◌+◌, ◌<◌, ◌≤◌, Bool, List, length, get_or, drop, Option, Some, None, refl, sym, ap, ◌∙◌}
use Rattle.std.specs.Prelude.{find}
use Rattle.std.specs.Option.{option_or}
use Rattle.std.proofs.lemmas.List.{drop_more, drop_all}
use Rattle.std.proofs.lemmas.List.Folds.{find-append}
use Rattle.jh_cellcfg.specs.declared.config.PciDevice.{PciDevice}
use Rattle.jh_ivshmem.specs.declared.endpoint.Endpoint.{Endpoint}
use Rattle.jh_mmio.specs.declared.hitting.Window.{Window}
use Rattle.jh_mmio.specs.Dispatch.{window_has}
use Rattle.jh_history.specs.Behind.{window_of_access}
use Rattle.jh_history.specs.Devices.{Devices, device_windows, windows_from, windows_of}

abbrev first_from : (Window → Bool) → ℕ → List Endpoint → ℕ → List PciDevice → Option Window
first_from p cell endpoints n ds = find p (windows_from cell endpoints n ds)

pub window_here : (p : Window → Bool) (cell : ℕ) (endpoints : List Endpoint) (ds : List PciDevice) (n : ℕ) (past : PciDevice) (w : Window) → n < length ds
    → Some w ≡ find p (device_windows cell endpoints n (get_or ds n past)) → find p (windows_from cell endpoints n (drop n ds)) ≡ Some w
window_here p cell endpoints ds n past w lt h =
    let rest = windows_from cell endpoints (n + 1) (drop (n + 1) ds) in
    ap (first_from p cell endpoints n) (drop_more ds n past lt)
    ∙ find-append p (device_windows cell endpoints n (get_or ds n past)) rest
    ∙ ap (λ (o : Option Window). option_or o (find p rest)) (sym h)

pub window_end : (p : Window → Bool) (cell : ℕ) (endpoints : List Endpoint) (ds : List PciDevice) (n : ℕ) → length ds ≤ n → find p (windows_from cell endpoints n (drop n ds)) ≡ None
window_end p cell endpoints ds n le = ap (first_from p cell endpoints n) (drop_all n ds le)

pub window_found_all : (devices : Devices) (at width : ℕ) → window_of_access devices at width ≡ find (window_has at width) (windows_from devices.cell devices.endpoints 0 devices.list)
unfolding windows_of
window_found_all devices at width = refl
