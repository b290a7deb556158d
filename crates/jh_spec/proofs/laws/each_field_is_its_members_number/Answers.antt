-- Where a chain of members tells a record, each of them has told its field.
use Rattle.jh_spec.proofs.FieldLaws.{region_fields, irqchip_fields, device_fields, console_fields, cell_fields, system_fields}
use Rattle.jh_spec.proofs.laws.each_field_is_its_members_number.Goals as goal

pub returns-clause-region : goal.returns-clause-region
returns-clause-region c = region_fields

pub returns-clause-irqchip : goal.returns-clause-irqchip
returns-clause-irqchip c = irqchip_fields

pub returns-clause-device : goal.returns-clause-device
returns-clause-device c = device_fields

pub returns-clause-console : goal.returns-clause-console
returns-clause-console c = console_fields

pub returns-clause-cell : goal.returns-clause-cell
returns-clause-cell c = cell_fields

pub returns-clause-system : goal.returns-clause-system
returns-clause-system c = system_fields
