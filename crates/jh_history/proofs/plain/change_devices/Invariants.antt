-- What is left leads to where all devices do, and may be done.
use Rattle.std.proofs.Common.{◌≡◌}
use Rattle.jh_script.specs.declared.image.Image.{Image}
use Rattle.jh_history.specs.declared.place.Place.{Place}
use Rattle.jh_history.specs.Devices.{specs_of}
use Rattle.jh_history.specs.Endpoints.{endpoints_changed, with_words}
use Rattle.jh_history.specs.Private.PlainView.{last_byte}
use Rattle.jh_history.proofs.DeviceLoopLemmas.{specs_left, MayGoOn}
use Rattle.jh_history.proofs.plain.change_devices.Given as goal

abbrev pub invariant-loop-number : goal.invariant-loop-number
invariant-loop-number l = record {
  bytes : (image : Image) (q : Place) → with_words (specs_left l.config l.number) (last_byte image l.bytes.items) q ≡ with_words (specs_of l.config) (last_byte image l.fn.bytes.items) q;
  endpoints : endpoints_changed l.change (specs_left l.config l.number) l.endpoints.list ≡ endpoints_changed l.change (specs_of l.config) l.fn.endpoints.list;
  may : MayGoOn l.change l.endpoints.list (specs_left l.config l.number);
}
