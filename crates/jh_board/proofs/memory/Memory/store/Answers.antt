-- The bytes are stored beside the hypervisor's memory.
use Rattle.std.proofs.Common.{◌≡◌, ℕ, length, refl, sym, subst}
use Rattle.jh_num.specs.Memory.{stored}
use Rattle.jh_frames.specs.Memory.{byte_at}
use Rattle.jh_history.specs.declared.place.Place.TheVariants.{Physical, Page}
use Rattle.jh_edit.specs.declared.stage.Stage2.{Stage2}
use Rattle.jh_edit.specs.Forest.{with_frames}
use Rattle.jh_board.specs.Pages.{byte_of}
use Rattle.jh_board.proofs.AnswerLemmas.{ok_then}
use Rattle.jh_board.proofs.PieceLemmas.{IsBeside, comm_stored, physical_stored}
use Rattle.jh_board.proofs.SoundLemmas.{page_inside, sound_kept}
use Rattle.jh_board.proofs.TablesLemmas.{tables_put, writes_by}
use Rattle.jh_board.proofs.memory.Memory.store.Goals as goal

pub invariant_of-self : goal.invariant_of-self
invariant_of-self c =
    let old : Stage2 = c.self.inside.stage in
    let P : Stage2 → Type 0 = λ m. IsBeside m.frames.own c.args.at (length c.args.bytes.now) in
    let beside = subst P (sym c.self.view_is) c.requires.beside in
    sound_kept c.a_write_outside_tables_keeps_the_forest.ensures.forest c.self.inside.base old (with_frames old c.write.new.self)
    (tables_put old c.write.new.self (writes_by c.write.result old c.write.new.self c.args.at c.args.bytes.now c.write.ensures.base c.write.ensures.size beside c.write.ensures.bytes c.write.ensures.unchanged)) c.self.invariant

pub returns-clause-bytes : goal.returns-clause-bytes
returns-clause-bytes c =
    let old : Stage2 = c.self.inside.stage in
    let new : Stage2 = with_frames old c.write.new.self in
    let P : Stage2 → Type 0 = λ m. IsBeside m.frames.own c.args.at (length c.args.bytes.now) in
    let beside = subst P (sym c.self.view_is) c.requires.beside in
    rw (← c.self.view_is)
    (ok_then c.write.result ((q : ℕ) → byte_at new.frames q ≡ stored (byte_at old.frames) c.args.at c.args.bytes.now q)
    ((q : ℕ) → byte_of new (Physical q) ≡ stored (λ p. byte_of old (Physical p)) c.args.at c.args.bytes.now q)
    c.write.ensures.bytes (λ put. physical_stored old new c.args.at c.args.bytes.now (record { base = c.write.ensures.base; size = c.write.ensures.size; seats = refl }) beside put))

pub returns-clause-pages : goal.returns-clause-pages
returns-clause-pages c =
    let old : Stage2 = c.self.inside.stage in
    let new : Stage2 = with_frames old c.write.new.self in
    let P : Stage2 → Type 0 = λ m. IsBeside m.frames.own c.args.at (length c.args.bytes.now) in
    let beside = subst P (sym c.self.view_is) c.requires.beside in
    rw (← c.self.view_is)
    (ok_then c.write.result ((q : ℕ) → byte_at new.frames q ≡ stored (byte_at old.frames) c.args.at c.args.bytes.now q)
    ((cell offset : ℕ) → byte_of new (Page cell offset) ≡ byte_of old (Page cell offset))
    c.write.ensures.bytes (λ put. comm_stored old new c.args.at c.args.bytes.now (record { base = c.write.ensures.base; size = c.write.ensures.size; seats = refl }) beside (page_inside c.self.inside.base old c.self.invariant) put))

pub returns-clause-tables : goal.returns-clause-tables
returns-clause-tables c =
    let old : Stage2 = c.self.inside.stage in
    let P : Stage2 → Type 0 = λ m. IsBeside m.frames.own c.args.at (length c.args.bytes.now) in
    let beside = subst P (sym c.self.view_is) c.requires.beside in
    rw (← c.self.view_is) (tables_put old c.write.new.self (writes_by c.write.result old c.write.new.self c.args.at c.args.bytes.now c.write.ensures.base c.write.ensures.size beside c.write.ensures.bytes c.write.ensures.unchanged))
