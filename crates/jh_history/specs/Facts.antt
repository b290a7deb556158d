-- What holds after a journal.
use Rattle.std.specs.Prelude.{ℕ, List, Option}
use Rattle.jh_cpu.specs.declared.cpu.Cpu.{Cpu}
use Rattle.jh_cellcfg.specs.declared.live.Live.{Live}
use Rattle.jh_ivshmem.specs.declared.endpoint.Endpoint.{Endpoint}
use Rattle.jh_history.specs.declared.form.Form.{Form}
use Rattle.jh_history.specs.declared.place.Place.{Place}
use Rattle.jh_history.specs.declared.call.OpenCall.{OpenCall}

-- the form of the journal, which no entry changes, and the facts that entries change: bytes, CPUs, the cells that live
-- besides root in order of their creation, the endpoints of all live cells' ivshmem devices, and the management call
-- that is open
pub record Facts : Type 0 where
  pub form : Form
  pub byte : Place → ℕ
  pub cpu : ℕ → Cpu
  pub cells : List Live
  pub endpoints : List Endpoint
  pub call : Option OpenCall
