-- Root alone: the bytes behind an entry of its own.
use Rattle.std.proofs.Common.{◌≡◌, List, [], Bool, true, false, Option, Some, None, refl, ap, ◌∙◌}
use Rattle.std.specs.Prelude.{is_some}
use Rattle.std.specs.Option.{option_map_or}
use Rattle.std.proofs.lemmas.Bool.{both_ways}
use Rattle.jh_num.proofs.Public.{same_number}
use Rattle.jh_cellcfg.specs.declared.config.CellConfig.{CellConfig}
use Rattle.jh_cellcfg.specs.declared.live.Live.{Live}
use Rattle.jh_script.specs.declared.image.Image.{Image}
use Rattle.jh_history.specs.declared.place.Place.{Place}
use Rattle.jh_history.specs.declared.call.OpenCall.{OpenCall}
use Rattle.jh_history.specs.declared.comm.PageWrite.{PageWrite}
use Rattle.jh_history.specs.declared.entry.Entry.{Entry}
use Rattle.jh_history.specs.declared.entry.Act.{Act}
use Rattle.jh_history.specs.declared.entry.Act.TheVariants.{Read, Write, Fetch, Await, Irq, Hvc, Stop, Commit}
use Rattle.jh_history.specs.Facts.{Facts}
use Rattle.jh_history.specs.Calls.{is_of_call}
use Rattle.jh_history.specs.Pages.{failing, unless_good, page_write_by, with_page_write}
use Rattle.jh_history.specs.Bytes.{byte_written, byte_after}
use Rattle.jh_ivshmem.specs.declared.spec.EndpointSpec.{EndpointSpec}
use Rattle.jh_history.specs.Devices.{specs_of}
use Rattle.jh_history.specs.Endpoints.{changing_at, changing_by, specs_changing, with_words}
use Rattle.jh_history.specs.Alone.{IsByRoot}

-- a violation of root writes into no page
none_fails : (image : Image) (f : Facts) (entry : Entry) → entry.cell ≡ image.system.root.id → failing image f entry ≡ None
none_fails image f entry is = rw (is, same_number) refl

unless_fails : (good : Bool) → unless_good good None ≡ None
unless_fails true = refl
unless_fails false = refl

no_page : (image : Image) (f : Facts) (entry : Entry) (act : Act) → entry.cell ≡ image.system.root.id → is_of_call act ≡ false → page_write_by image f entry act ≡ None
no_page image f entry (Read width at got) is own = ap (unless_good (is_some got)) (none_fails image f entry is) ∙ unless_fails (is_some got)
no_page image f entry (Write width at value ok) is own = ap (unless_good ok) (none_fails image f entry is) ∙ unless_fails ok
no_page image f entry (Fetch at got) is own = ap (unless_good (is_some got)) (none_fails image f entry is) ∙ unless_fails (is_some got)
no_page image f entry (Await width at value ok) is own = ap (unless_good ok) (none_fails image f entry is) ∙ unless_fails ok
no_page image f entry (Irq device vector) is own = refl
no_page image f entry (Hvc code a b answer) is own = refl
no_page image f entry Stop is own = refl
no_page image f entry _ is own = absurd (both_ways true own refl)

-- nor does it change the devices of a cell as a Commit does
unchanged : (cells : List Live) (o : OpenCall) (act : Act) → is_of_call act ≡ false → changing_at cells o act ≡ None
unchanged cells o Commit own = absurd (both_ways true own refl)
unchanged cells o _ own = refl

unchanged_by : (cells : List Live) (call : Option OpenCall) (act : Act) → is_of_call act ≡ false → changing_by cells call act ≡ None
unchanged_by cells None act own = refl
unchanged_by cells (Some o) act own = unchanged cells o act own

specs_unchanged : (f : Facts) (act : Act) → is_of_call act ≡ false → specs_changing f act ≡ []
specs_unchanged f act own = ap (λ (o : Option CellConfig). option_map_or specs_of o []) (unchanged_by f.cells f.call act own)

-- so the bytes are those that its write leaves
pub byte_after_roots : (image : Image) (f : Facts) (entry : Entry) (q : Place) → IsByRoot image entry → byte_after image f entry q ≡ byte_written image f entry.cell entry.act q
byte_after_roots image f entry q own =
    ap (λ (write : Option PageWrite). with_page_write write (with_words (specs_changing f entry.act) (byte_written image f entry.cell entry.act)) q) (no_page image f entry entry.act own.cell own.act)
    ∙ ap (λ (specs : List EndpointSpec). with_words specs (byte_written image f entry.cell entry.act) q) (specs_unchanged f entry.act own.act)
