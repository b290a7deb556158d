-- The bytes of the value are put at once, or one by one.
use Rattle.std.proofs.Common.{ℕ, ◌≤◌, length, List, arith, ap, ◌∙◌, refl, sym, subst, take}
use Rattle.std.specs.Prelude.{All}
use Rattle.jh_history.specs.declared.place.Place.{Place}
use Rattle.jh_history.specs.declared.place.Place.TheVariants.{Physical}
use Rattle.jh_history.specs.Places.{places_in_row}
use Rattle.jh_edit.specs.declared.stage.Stage2.{Stage2}
use Rattle.jh_edit.specs.Forest.{with_frames}
use Rattle.jh_board.specs.Private.Pages.{MayHold}
use Rattle.jh_board.proofs.BytesLemmas.{All_at_place}
use Rattle.jh_board.proofs.PieceLemmas.{few_stored, stored_writes, written_piece}
use Rattle.jh_board.proofs.SoundLemmas.{page_inside, sound_kept}
use Rattle.jh_board.proofs.TablesLemmas.{tables_put, writes_beside, writes_by}
use Rattle.jh_board.proofs.memory.Memory.write_value.Goals as goal

pub invariant_of-self-in-Some : goal.invariant_of-self-in-Some
invariant_of-self-in-Some c =
    let old : Stage2 = c.self.inside.stage in
    let at = c.in-Some.piece.at in
    let count = c.in-Some.piece.count in
    let P : Stage2 → Type 0 = λ m. All (MayHold m) c.args.places.now in
    let Q : List Place → Type 0 = All (MayHold old) in
    let may : All (MayHold old) (places_in_row (Physical at) count) = subst Q c.in-Some.ensures.places (subst P (sym c.self.view_is) c.requires) in
    let bytes = take c.from.result c.write_u64.new.buf in
    let len : length bytes ≤ count = few_stored count c.args.value bytes (ap (λ (n : ℕ). take n c.write_u64.new.buf) c.from.ensures ∙ ap (take count) c.write_u64.ensures) in
    sound_kept c.a_write_outside_tables_keeps_the_forest.ensures.forest c.self.inside.base old (with_frames old c.write.new.self)
    (tables_put old c.write.new.self (writes_by c.write.result old c.write.new.self at bytes c.write.ensures.base c.write.ensures.size (λ k lt. (All_at_place (MayHold old) (Physical at) count k (omega arith) may).1) c.write.ensures.bytes c.write.ensures.unchanged)) c.self.invariant

pub returns-in_ok-write-in-Some-clause-ok : goal.returns-in_ok-write-in-Some-clause-ok
returns-in_ok-write-in-Some-clause-ok c =
    let old : Stage2 = c.self.inside.stage in
    let new : Stage2 = with_frames old c.write.new.self in
    let at = c.in-Some.piece.at in
    let count = c.in-Some.piece.count in
    let P : Stage2 → Type 0 = λ m. All (MayHold m) c.args.places.now in
    let Q : List Place → Type 0 = All (MayHold old) in
    let may : All (MayHold old) (places_in_row (Physical at) count) = subst Q c.in-Some.ensures.places (subst P (sym c.self.view_is) c.requires) in
    rw (c.in-Some.ensures.places, ← c.self.view_is) (λ q.
    written_piece old new at count c.args.value (take c.from.result c.write_u64.new.buf) c.in-Some.ensures.few
    (ap (λ (n : ℕ). take n c.write_u64.new.buf) c.from.ensures ∙ ap (take count) c.write_u64.ensures)
    (λ k lt. (All_at_place (MayHold old) (Physical at) count k lt may).1) (page_inside c.self.inside.base old c.self.invariant)
    c.in_ok-write-in-Some.ensures.bytes (record { base = c.write.ensures.base; size = c.write.ensures.size; seats = refl }) q)

pub returns-in_ok-write-in-Some-clause-tables : goal.returns-in_ok-write-in-Some-clause-tables
returns-in_ok-write-in-Some-clause-tables c =
    let old : Stage2 = c.self.inside.stage in
    let at = c.in-Some.piece.at in
    let count = c.in-Some.piece.count in
    let P : Stage2 → Type 0 = λ m. All (MayHold m) c.args.places.now in
    let Q : List Place → Type 0 = All (MayHold old) in
    let may : All (MayHold old) (places_in_row (Physical at) count) = subst Q c.in-Some.ensures.places (subst P (sym c.self.view_is) c.requires) in
    let bytes = take c.from.result c.write_u64.new.buf in
    let len : length bytes ≤ count = few_stored count c.args.value bytes (ap (λ (n : ℕ). take n c.write_u64.new.buf) c.from.ensures ∙ ap (take count) c.write_u64.ensures) in
    rw (← c.self.view_is) (tables_put old c.write.new.self (writes_beside old c.write.new.self c.write.ensures.base c.write.ensures.size
    (stored_writes old _ at bytes (λ k lt. (All_at_place (MayHold old) (Physical at) count k (omega arith) may).1) c.in_ok-write-in-Some.ensures.bytes)))
