-- A table of pins that is edited as cells come and go.
use Rattle.std.specs.Prelude.{List, [], ◌∷◌, ◌++◌, Option, Some}
use Rattle.jh_call.specs.declared.call.Call.{Call}
use Rattle.jh_call.specs.declared.call.Call.TheVariants.{Create, Destroy}
use Rattle.jh_script.specs.declared.image.Image.{Image}
use Rattle.jh_history.specs.declared.form.Form.{Form}
use Rattle.jh_history.specs.declared.call.OpenCall.{OpenCall}
use Rattle.jh_history.specs.declared.call.Phase.{Phase}
use Rattle.jh_history.specs.declared.call.Phase.TheVariants.{ToCreate}
use Rattle.jh_history.specs.declared.entry.Entry.{Entry}
use Rattle.jh_history.specs.declared.entry.Act.{Act}
use Rattle.jh_history.specs.declared.entry.Act.TheVariants.{Commit}
use Rattle.jh_history.specs.History.{facts}
use Rattle.jh_pins.specs.TableView.{TableView}
use Rattle.jh_pins.specs.Holders.{table_of, with_cell, without}

-- the table after the Commit of the call: that of a create adds its cell, and that of a destroy drops it
abbrev pub committed : Call → Phase → TableView → TableView
committed (Create at) (ToCreate config) table = with_cell config table
committed (Destroy id) phase table = without id table
committed call phase table = table

-- the table after the act, where this call is open before it: no other act than a Commit edits it
abbrev pub edited_by : Option OpenCall → Act → TableView → TableView
edited_by (Some o) Commit table = committed o.call o.phase table
edited_by call act table = table

-- the table after the entries behind those before, each of which edits it by the call that is open before it
abbrev pub edited_behind : Image → Form → List Entry → List Entry → TableView → TableView
edited_behind image form before [] table = table
edited_behind image form before (entry ∷ rest) table = edited_behind image form (before ++ entry ∷ []) rest (edited_by (facts image form before).call entry.act table)

-- the table that is root's alone at opening, and is edited at each entry
abbrev pub edited_table : Image → Form → List Entry → TableView
edited_table image form entries = edited_behind image form [] entries (table_of image.system.root [])
