-- The bytes of physical memory beside the hypervisor's.
use Rattle.std.proofs.Common.{◌≡◌, ℕ, ◌++◌, List, map, ap, subst, sym, ◌∙◌}
use Rattle.std.specs.Prelude.{OnOk}
use Rattle.jh_frames.specs.Memory.{byte_at}
use Rattle.jh_history.specs.declared.place.Place.{Place}
use Rattle.jh_history.specs.Places.{places_in_row}
use Rattle.jh_edit.specs.declared.stage.Stage2.{Stage2}
use Rattle.jh_board.specs.Pages.{byte_of}
use Rattle.jh_board.specs.Private.Pages.{bytes_from}
use Rattle.jh_board.proofs.PieceLemmas.{IsBeside, row_of_memory}
use Rattle.jh_board.proofs.memory.Memory.append.Goals as goal

pub returns-then-is_beside : goal.returns-then-is_beside
returns-then-is_beside c =
    let memory : Stage2 = c.self.inside.stage in
    let at = c.in-Physical.at in
    let B : ℕ → Type 0 = IsBeside memory.frames.own at in
    let S : Stage2 → Type 0 = λ s. IsBeside s.frames.own at c.from.result in
    let beside = subst B c.from.ensures (subst S (sym c.self.view_is) (c.is_beside.ensures c.if-is_beside.true)) in
    let P : List ℕ → Type 0 = λ row. OnOk c.append.result (c.append.new.buffer.items ≡ c.args.bytes.now.items ++ row) in
    subst P
    (ap (bytes_from (byte_at memory.frames) at) c.from-len.ensures
    ∙ sym (row_of_memory memory at c.args.count beside)
    ∙ ap (λ (p : Place). map (byte_of memory) (places_in_row p c.args.count)) (sym c.in-Physical.is)
    ∙ ap (λ (m : Stage2). map (byte_of m) (places_in_row c.args.first c.args.count)) c.self.view_is)
    c.append.ensures.ok
