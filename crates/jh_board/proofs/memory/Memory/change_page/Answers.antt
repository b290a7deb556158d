-- The page is written back, and no other byte changes.
use Rattle.std.proofs.Common.{◌≡◌, ◌+◌, inl, inr, Some, refl, sym, ap, ◌∙◌, arith}
use Rattle.std.proofs.lemmas.Bool.{cases_lt}
use Rattle.jh_num.proofs.Public.{stored_before, stored_behind}
use Rattle.jh_frames.specs.Lending.{with_page, PageGivenBack}
use Rattle.jh_frames.specs.Memory.{FramesView, byte_at}
use Rattle.jh_edit.specs.declared.stage.Stage2.{Stage2}
use Rattle.jh_edit.specs.Forest.{with_frames}
use Rattle.jh_history.specs.declared.comm.PageWrite.{PageWrite}
use Rattle.jh_board.specs.Seats.{comm_of}
use Rattle.jh_board.proofs.ChangedLemmas.{written_back}
use Rattle.jh_board.proofs.PlaceLemmas.{page_changed}
use Rattle.jh_board.proofs.SoundLemmas.{page_aligned, page_apart, page_inside, sound_kept}
use Rattle.jh_board.proofs.TablesLemmas.{tables_put, writes_comm}
use Rattle.jh_board.proofs.memory.Memory.change_page.Goals as goal

pub invariant_of-self : goal.invariant_of-self
invariant_of-self c =
    let old : Stage2 = c.self.inside.stage in
    let base = c.self.inside.base in
    let write : PageWrite = c.args.write.now in
    let page = c.in-Some.page in
    let after = c.change_words.new.page in
    let frames : FramesView = with_page old.frames page after in
    let own : comm_of old write.cell ≡ Some page = ap (comm_of old) (sym c.from.ensures) ∙ ap (λ (s : Stage2). comm_of s c.from.result) c.self.view_is ∙ sym c.comm.ensures.page ∙ c.in-Some.is in
    let inside = page_inside base old c.self.invariant write.cell page own in
    let given : PageGivenBack = record { memory = old.frames; at = page; page = after; own = record { above = inside.above; below = inside.below }; whole = c.change_words.ensures.len } in
    let len = c.change_words.ensures.len in
    let put = c.a_page_is_written_back.ensures.bytes given in
    sound_kept c.a_write_outside_tables_keeps_the_forest.ensures.forest base old (with_frames old frames)
    (tables_put old frames (writes_comm old frames write.cell page c.self.invariant.still own (page_aligned base old c.self.invariant write.cell page own) refl (c.a_page_is_written_back.ensures.size given)
    (λ q other. put q ∙ (elim (cases_lt q page) [
      | inl below ↦ stored_before (byte_at old.frames) page after q below
      | inr above ↦ elim (cases_lt q (page + 4096)) [
        | inl within ↦ absurd (other above within)
        | inr behind ↦ stored_behind (byte_at old.frames) page after q (omega arith)
      ]
    ])))) c.self.invariant

pub returns-clause-bytes : goal.returns-clause-bytes
returns-clause-bytes c =
    let old : Stage2 = c.self.inside.stage in
    let base = c.self.inside.base in
    let write : PageWrite = c.args.write.now in
    let page = c.in-Some.page in
    let after = c.change_words.new.page in
    let frames : FramesView = with_page old.frames page after in
    let own : comm_of old write.cell ≡ Some page = ap (comm_of old) (sym c.from.ensures) ∙ ap (λ (s : Stage2). comm_of s c.from.result) c.self.view_is ∙ sym c.comm.ensures.page ∙ c.in-Some.is in
    let inside = page_inside base old c.self.invariant write.cell page own in
    let given : PageGivenBack = record { memory = old.frames; at = page; page = after; own = record { above = inside.above; below = inside.below }; whole = c.change_words.ensures.len } in
    rw (← c.self.view_is)
    (page_changed old (with_frames old frames) write page
    (written_back old (with_frames old frames) write page c.page_mut.result.now after refl refl (c.a_page_is_written_back.ensures.size given) own inside
    (λ id other differ there. page_apart base old c.self.invariant write.cell id page other (λ e. differ (sym e)) own there)
    c.page_mut.ensures.len c.page_mut.ensures.bytes c.change_words.ensures.len c.change_words.ensures.bytes (c.a_page_is_written_back.ensures.bytes given)))

pub returns-clause-tables : goal.returns-clause-tables
returns-clause-tables c =
    let old : Stage2 = c.self.inside.stage in
    let base = c.self.inside.base in
    let write : PageWrite = c.args.write.now in
    let page = c.in-Some.page in
    let after = c.change_words.new.page in
    let frames : FramesView = with_page old.frames page after in
    let own : comm_of old write.cell ≡ Some page = ap (comm_of old) (sym c.from.ensures) ∙ ap (λ (s : Stage2). comm_of s c.from.result) c.self.view_is ∙ sym c.comm.ensures.page ∙ c.in-Some.is in
    let inside = page_inside base old c.self.invariant write.cell page own in
    let given : PageGivenBack = record { memory = old.frames; at = page; page = after; own = record { above = inside.above; below = inside.below }; whole = c.change_words.ensures.len } in
    let len = c.change_words.ensures.len in
    let put = c.a_page_is_written_back.ensures.bytes given in
    rw (← c.self.view_is) (tables_put old frames (writes_comm old frames write.cell page c.self.invariant.still own (page_aligned base old c.self.invariant write.cell page own) refl (c.a_page_is_written_back.ensures.size given)
    (λ q other. put q ∙ (elim (cases_lt q page) [
      | inl below ↦ stored_before (byte_at old.frames) page after q below
      | inr above ↦ elim (cases_lt q (page + 4096)) [
        | inl within ↦ absurd (other above within)
        | inr behind ↦ stored_behind (byte_at old.frames) page after q (omega arith)
      ]
    ]))))
