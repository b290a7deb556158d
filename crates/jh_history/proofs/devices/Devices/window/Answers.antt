-- The window found is the first, and none is where the devices end.
use Rattle.std.proofs.Common.{◌≡◌, ◌<◌, ◌≤◌, length, ap, sym, ◌∙◌}
use Rattle.jh_mmio.specs.Dispatch.{window_has}
use Rattle.jh_history.specs.Devices.{Devices}
use Rattle.jh_history.proofs.DeviceFindLemmas.{window_here, window_end, window_found_all}
use Rattle.jh_history.proofs.devices.Devices.window.Goals as goal

pub returns-in-Some-clause-found : goal.returns-in-Some-clause-found
returns-in-Some-clause-found c =
    let self = c.args.self.now in
    let wanted = c.args.wanted.now in
    let p = window_has wanted.at wanted.width in
    let same : c.self.inside.list.now ≡ self.list = ap (λ (d : Devices). d.list) c.self.view_is in
    let here = rw same at c.in-Some.ensures.found in
    let lt : c.loop-number.number < length self.list = rw same at c.loop-number-test.true in
    sym (window_found_all self wanted.at wanted.width ∙ sym c.loop-number.invariant ∙ window_here p self.cell self.endpoints self.list c.loop-number.number _ c.in-Some.window lt here)

pub returns-clause-found : goal.returns-clause-found
returns-clause-found c =
    let self = c.args.self.now in
    let wanted = c.args.wanted.now in
    let p = window_has wanted.at wanted.width in
    let same : c.self.inside.list.now ≡ self.list = ap (λ (d : Devices). d.list) c.self.view_is in
    let done : length self.list ≤ c.loop-number.number = rw same at c.loop-number-test.false in
    sym (window_found_all self wanted.at wanted.width ∙ sym c.loop-number.invariant ∙ window_end p self.cell self.endpoints self.list c.loop-number.number done)
