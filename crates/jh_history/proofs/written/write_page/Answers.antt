-- A fresh page.
use Rattle.std.proofs.Common.{◌≡◌, sym, subst}
use Rattle.std.specs.Prelude.{OnOk}
use Rattle.jh_script.specs.declared.image.Image.{Image}
use Rattle.jh_history.specs.declared.comm.PageChange.{PageChange}
use Rattle.jh_history.specs.declared.place.Place.{Place}
use Rattle.jh_history.specs.Pages.{with_page}
use Rattle.jh_history.specs.Private.PlainView.{last_byte}
use Rattle.jh_history.proofs.written.write_page.Goals as goal

pub returns-in-Fresh : goal.returns-in-Fresh
returns-in-Fresh c =
    let P : PageChange → Type 0 = λ change. OnOk c.put_fresh.result ((image : Image) (q : Place) → last_byte image c.put_fresh.new.bytes.items q ≡ with_page (record { cell = c.args.write.now.cell; change = change }) (last_byte image c.args.bytes.now.items) q) in
    subst P (sym c.in-Fresh.is) c.put_fresh.ensures
