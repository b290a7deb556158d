-- One byte beside the hypervisor's memory.
use Rattle.std.proofs.Common.{sym, refl, subst, ap, ◌∙◌}
use Rattle.jh_history.specs.declared.place.Place.TheVariants.{Physical}
use Rattle.jh_edit.specs.declared.stage.Stage2.{Stage2}
use Rattle.jh_edit.specs.Forest.{with_frames}
use Rattle.jh_board.specs.Pages.{HoldsPlace}
use Rattle.std.proofs.lemmas.Bool.{true≢false}
use Rattle.jh_frames.specs.Memory.{is_own}
use Rattle.jh_board.proofs.BytesLemmas.{holds_same}
use Rattle.jh_board.proofs.PlaceLemmas.{physical_put}
use Rattle.jh_board.proofs.SoundLemmas.{page_inside, sound_kept}
use Rattle.jh_board.proofs.TablesLemmas.{tables_put, writes_beside}
use Rattle.jh_board.proofs.memory.Memory.write_physical.Goals as goal

pub invariant_of-self : goal.invariant_of-self
invariant_of-self c =
    let old : Stage2 = c.self.inside.stage in
    let P : Stage2 → Type 0 = λ m. HoldsPlace m (Physical c.args.address) in
    let may = subst P (sym c.self.view_is) c.requires in
    sound_kept c.a_write_outside_tables_keeps_the_forest.ensures.forest c.self.inside.base old (with_frames old c.set.new.self)
    (tables_put old c.set.new.self (writes_beside old c.set.new.self c.set.ensures.base c.set.ensures.size (λ q own. c.set.ensures.others q (λ e. true≢false (sym own ∙ ap (is_own old.frames.own) e ∙ may.2))))) c.self.invariant

pub returns-clause-bytes : goal.returns-clause-bytes
returns-clause-bytes c =
    let old : Stage2 = c.self.inside.stage in
    let new : Stage2 = with_frames old c.set.new.self in
    let P : Stage2 → Type 0 = λ m. HoldsPlace m (Physical c.args.address) in
    let may = subst P (sym c.self.view_is) c.requires in
    rw (← c.self.view_is) (physical_put old new c.args.address c.args.byte (record { base = c.set.ensures.base; size = c.set.ensures.size; seats = refl }) may.2 (page_inside c.self.inside.base old c.self.invariant) c.set.ensures.at c.set.ensures.others)

pub returns-clause-held : goal.returns-clause-held
returns-clause-held c =
    let old : Stage2 = c.self.inside.stage in
    let new : Stage2 = with_frames old c.set.new.self in
    rw (← c.self.view_is) (holds_same old new (record { base = c.set.ensures.base; size = c.set.ensures.size; seats = refl }) c.set.ensures.held)

pub returns-clause-tables : goal.returns-clause-tables
returns-clause-tables c =
    let old : Stage2 = c.self.inside.stage in
    let P : Stage2 → Type 0 = λ m. HoldsPlace m (Physical c.args.address) in
    let may = subst P (sym c.self.view_is) c.requires in
    rw (← c.self.view_is) (tables_put old c.set.new.self (writes_beside old c.set.new.self c.set.ensures.base c.set.ensures.size
    (λ q own. c.set.ensures.others q (λ e. true≢false (sym own ∙ ap (is_own old.frames.own) e ∙ may.2)))))
