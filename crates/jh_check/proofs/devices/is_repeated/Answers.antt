-- Where no device before is said to have the bdf, none has it, as is required.
use Rattle.std.proofs.Common.{◌∙◌, sym}
use Rattle.jh_check.proofs.devices.is_repeated.Goals as goal

pub returns-else-repeated : goal.returns-else-repeated
returns-else-repeated c = c.if-repeated.false ∙ sym (c.requires c.if-repeated.false)
