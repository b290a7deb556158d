-- Root and a cell with a CPU left are spared.
use Rattle.std.proofs.Common.{◌≡◌, ◌&&◌, ◌||◌, true, false, eqb, eq-eqb, sym, refl, ◌∙◌}
use Rattle.std.proofs.lemmas.Bool.{ne_eqb, or_left, or_right}
use Rattle.jh_num.specs.Below.{any_below}
use Rattle.jh_history.specs.Lives.{is_on_board}
use Rattle.jh_history.specs.Cpus.{cpu_after}
use Rattle.jh_history.specs.Pages.{is_unfailed_of}
use Rattle.jh_history.proofs.pages.failing.Goals as goal
use Rattle.jh_history.proofs.pages.failing.Goals.{then-entry-image-via-then-entry-image, then-entry-image-via-else-entry-image+then-is_any_unfailed}

pub returns-then-entry-image : goal.returns-then-entry-image
returns-then-entry-image c = λ f h.
    let image = c.args.image.now in
    let entry = c.args.entry.now in
    let any = any_below (λ i. is_on_board image i && is_unfailed_of entry.cell (cpu_after image f entry i)) 16 in
    let spared : (eqb entry.cell image.system.root.id || any) ≡ true = elim c.then-entry-image.branch [
      | then-entry-image-via-then-entry-image w ↦ or_left (eqb entry.cell image.system.root.id) any (eq-eqb entry.cell image.system.root.id w.if-entry-image.true)
      | then-entry-image-via-else-entry-image+then-is_any_unfailed w ↦ or_right (eqb entry.cell image.system.root.id) any (sym (w.is_any_unfailed.ensures (cpu_after image f entry) h) ∙ w.if-is_any_unfailed.true)
    ] in
    rw spared refl

pub returns : goal.returns
returns c = λ f h.
    let image = c.args.image.now in
    let entry = c.args.entry.now in
    let other : eqb entry.cell image.system.root.id ≡ false = ne_eqb entry.cell image.system.root.id c.if-entry-image.false in
    let none : any_below (λ i. is_on_board image i && is_unfailed_of entry.cell (cpu_after image f entry i)) 16 ≡ false = sym (c.is_any_unfailed.ensures (cpu_after image f entry) h) ∙ c.if-is_any_unfailed.false in
    rw (other, none) refl
