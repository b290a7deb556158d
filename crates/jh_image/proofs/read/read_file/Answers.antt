-- One read, which hands out bytes or is refused.
use Rattle.std.proofs.Common.{[], ◌∷◌}
use Rattle.jh_outside.specs.Ask.{handed, faulted}
use Rattle.jh_outside.specs.Trail.{Asks}
use Rattle.jh_outside.proofs.Public.{asks_alone}
use Rattle.jh_image.specs.declared.fault.ImageCause.TheVariants.{ReadFault, Oversize}
use Rattle.jh_image.specs.Order.{last_ask}
use Rattle.jh_image.proofs.StopLemmas.{on_refusal}
use Rattle.jh_image.proofs.read.read_file.Goals as goal

pub returns-then-len-gt-MAX_FILE_SIZE-clause-asked_until : goal.returns-then-len-gt-MAX_FILE_SIZE-clause-asked_until
returns-then-len-gt-MAX_FILE_SIZE-clause-asked_until g c =
    let name = c.args.name.now in
    on_refusal (λ _ cause. Asks g.F.Files c.args.files.now (last_ask cause name ∷ []) c.read.new.self) name Oversize c.refused.result c.refused.ensures
    (asks_alone g.F.Files c.args.files.now c.read.new.self (handed name) (rw c.in-Ok.is at c.read.ensures.asked) (rw c.in-Ok.is at c.read.ensures.named))

pub returns-else-len-gt-MAX_FILE_SIZE-clause-asked : goal.returns-else-len-gt-MAX_FILE_SIZE-clause-asked
returns-else-len-gt-MAX_FILE_SIZE-clause-asked g c =
    asks_alone g.F.Files c.args.files.now c.read.new.self (handed c.args.name.now) (rw c.in-Ok.is at c.read.ensures.asked) (rw c.in-Ok.is at c.read.ensures.named)

pub returns-in-Err-Fault-clause-asked_until : goal.returns-in-Err-Fault-clause-asked_until
returns-in-Err-Fault-clause-asked_until g c =
    let name = c.args.name.now in
    on_refusal (λ _ cause. Asks g.F.Files c.args.files.now (last_ask cause name ∷ []) c.read.new.self) name ReadFault c.refused-in-Err-Fault.result c.refused-in-Err-Fault.ensures
    (asks_alone g.F.Files c.args.files.now c.read.new.self (faulted name) (rw (c.in-Err-Fault.is, c.in-Err-Fault.field-0-is) at c.read.ensures.asked) (rw (c.in-Err-Fault.is, c.in-Err-Fault.field-0-is) at c.read.ensures.named))
