-- How accesses end.
use Rattle.std.specs.Prelude.{Bool, false, not, List, is_some}
use Rattle.jh_cellcfg.specs.declared.config.CellConfig.{CellConfig}
use Rattle.jh_script.specs.declared.image.Image.{Image}
use Rattle.jh_history.specs.declared.form.Form.{Form}
use Rattle.jh_history.specs.declared.entry.Entry.{Entry}
use Rattle.jh_history.specs.declared.entry.Act.{Act}
use Rattle.jh_history.specs.declared.entry.Act.TheVariants.{Read, Write, Fetch, Await}
use Rattle.jh_history.specs.History.{facts}
use Rattle.jh_laws.specs.Ends.{EndsOr}

-- the act is an access, and has the outcome that such an access of the cell has after the entries; no other act passes,
-- since an image whose root has no ivshmem device, and whose programs have no hypercall, comes to none
abbrev pub HasItsOutcome : Image → Form → List Entry → CellConfig → Act → Type 0
HasItsOutcome image form entries cell act = EndsOr ⊥ image (facts image form entries) cell.id act

-- the act is a violation: an access that didn't succeed
abbrev pub is_violation : Act → Bool
is_violation (Read width at got) = not (is_some got)
is_violation (Fetch at got) = not (is_some got)
is_violation (Write width at value ok) = not ok
is_violation (Await width at value ok) = not ok
is_violation _ = false
