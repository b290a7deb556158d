-- One entry more.
use Rattle.std.proofs.Common.{◌≡◌, List, Option, ap, sym, subst, ◌∙◌}
use Rattle.std.specs.Prelude.{slice_get}
use Rattle.jh_cellcfg.specs.declared.live.Live.{Live}
use Rattle.jh_cpu.specs.declared.cpu.Cpu.{Cpu}
use Rattle.jh_script.specs.declared.image.Image.{Image}
use Rattle.jh_history.specs.declared.call.OpenCall.{OpenCall}
use Rattle.jh_history.specs.declared.written.WrittenByte.{WrittenByte}
use Rattle.jh_history.specs.Calls.{call_by}
use Rattle.jh_history.specs.Commits.{cells_by}
use Rattle.jh_history.specs.Due.{due_at}
use Rattle.jh_history.specs.Sound.{IsSound}
use Rattle.jh_history.specs.Private.PlainView.{last_byte}
use Rattle.jh_history.proofs.KeptLemmas.{Stands_after}
use Rattle.jh_history.proofs.plain.Plain.follow.Goals as goal

pub move_on-requires : goal.move_on-requires
move_on-requires c =
    let due = c.requires.due in
    let image = sym c.in_ok-change.ensures.image in
    record {
      facts = due.facts;
      sound = subst (λ (x : Image). IsSound x due.facts) image due.sound;
      due = ap (λ (x : Image). due_at x due.facts c.args.entry.now.cpu) (sym image) ∙ due.due;
      cells = due.cells ∙ sym c.in_ok-change.ensures.cells;
      call = due.call ∙ sym c.in_ok-change.ensures.call;
    }

pub returns : goal.returns
returns c = λ i f h.
    let entry = c.args.entry.now in
    let call : c.change.new.self.call ≡ f.call = c.in_ok-change.ensures.call ∙ sym h.call in
    let cells : c.change.new.self.cells ≡ f.cells = c.in_ok-change.ensures.cells ∙ sym h.cells in
    Stands_after i f entry c.args.self.now c.move_on.new.self h (c.in_ok-move_on.ensures.image ∙ c.in_ok-change.ensures.image)
    (c.in_ok-move_on.ensures.form ∙ c.in_ok-change.ensures.form)
    (c.in_ok-move_on.ensures.cells
    ∙ ap (λ (k : Option OpenCall). cells_by k c.change.new.self.cells entry.act) call
    ∙ ap (λ (lives : List Live). cells_by f.call lives entry.act) cells)
    (c.in_ok-move_on.ensures.endpoints ∙ c.in_ok-change.ensures.endpoints i f h)
    (c.in_ok-move_on.ensures.call
    ∙ ap (λ (k : Option OpenCall). call_by c.change.new.self.cells c.in_ok-coming.coming k entry entry.act) call
    ∙ ap (λ (lives : List Live). call_by lives c.in_ok-coming.coming f.call entry entry.act) cells
    ∙ c.in_ok-coming.ensures i f h f.cells)
    (λ k lt. ap (λ (states : List Cpu). slice_get states k) c.in_ok-move_on.ensures.cpus ∙ c.in_ok-change.ensures.cpus i f h k lt)
    (λ q. ap (λ (bytes : List WrittenByte). last_byte i bytes q) c.in_ok-move_on.ensures.bytes ∙ c.in_ok-change.ensures.bytes i f h q)
