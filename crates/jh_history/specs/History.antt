-- What a journal leaves: the facts that hold after its entries.
use Rattle.std.specs.Prelude.{List, [], None, Option, option_and_then, fold}
use Rattle.jh_cellcfg.specs.declared.config.CellConfig.{CellConfig}
use Rattle.jh_cellcfg.specs.declared.live.Live.{Live}
use Rattle.jh_cpu.specs.Changes.{opened}
use Rattle.jh_call.specs.declared.call.Call.{Call}
use Rattle.jh_call.specs.declared.call.Call.TheVariants.{Create}
use Rattle.jh_script.specs.declared.image.Image.{Image}
use Rattle.jh_history.specs.declared.form.Form.{Form}
use Rattle.jh_history.specs.declared.call.OpenCall.{OpenCall}
use Rattle.jh_history.specs.declared.entry.Entry.{Entry}
use Rattle.jh_history.specs.Facts.{Facts}
use Rattle.jh_history.specs.declared.device_change.DeviceChange.TheVariants.{Join}
use Rattle.jh_history.specs.Bytes.{opening_byte, byte_after}
use Rattle.jh_history.specs.Cpus.{cpu_after}
use Rattle.jh_history.specs.Commits.{cells_by}
use Rattle.jh_history.specs.Calls.{call_by}
use Rattle.jh_history.specs.Devices.{specs_of}
use Rattle.jh_history.specs.Endpoints.{endpoints_changed, endpoints_after}
use Rattle.jh_history.specs.Configs.{read_at, config_read}

-- the facts at opening: memory is as the preloads put it; each CPU is root's and runs from its program's beginning; no
-- cell lives besides root, whose devices have joined their links, and no call is open
abbrev pub start : Image → Form → Facts
start image form = record {
  form = form;
  byte = opening_byte image;
  cpu = λ _. opened image.system.root.id;
  cells = [];
  endpoints = endpoints_changed Join (specs_of image.system.root) [];
  call = None;
}

-- the configuration that the call reads, where it is a create
abbrev pub coming_by : Image → Facts → Call → Option CellConfig
coming_by image facts (Create at) = config_read (read_at image facts at)
coming_by image facts call = None

-- the configuration that the open call reads, where it is a create
abbrev pub coming_of : Image → Facts → Option CellConfig
coming_of image facts = option_and_then (λ (o : OpenCall). coming_by image facts o.call) facts.call

-- the cells that live besides root after an entry
abbrev pub cells_after : Facts → Entry → List Live
cells_after facts entry = cells_by facts.call facts.cells entry.act

-- the call that is open after an entry
abbrev pub call_after : Image → Facts → Entry → Option OpenCall
call_after image facts entry = call_by facts.cells (coming_of image facts) facts.call entry entry.act

-- the facts after an entry
unfoldable pub after : Image → Facts → Entry → Facts
after image facts entry = record {
  form = facts.form;
  byte = byte_after image facts entry;
  cpu = cpu_after image facts entry;
  cells = cells_after facts entry;
  endpoints = endpoints_after image facts entry;
  call = call_after image facts entry;
}

-- the facts after the entries
unfoldable pub facts : Image → Form → List Entry → Facts
facts image form entries = fold (after image) (start image form) entries
