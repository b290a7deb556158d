-- A locked cell, and what was read.
use Rattle.std.proofs.Common.{◌≡◌, ℕ, true, false, List, ap, sym, subst, refl, ◌∙◌}
use Rattle.std.specs.Prelude.{Option, slice_get, IfSome}
use Rattle.std.specs.List.{list_any}
use Rattle.jh_cellcfg.specs.declared.live.Live.{Live}
use Rattle.jh_script.specs.declared.image.Image.{Image}
use Rattle.jh_history.specs.declared.call.Creation.{Creation}
use Rattle.jh_history.specs.declared.place.Place.{Place}
use Rattle.jh_history.specs.declared.reading.ReadCell.{ReadCell}
use Rattle.jh_history.specs.LiveView.{is_locked_by}
use Rattle.jh_history.specs.Phases.{is_locked, creation_of, creation_by}
use Rattle.jh_shape.specs.Lives.{configs_of}
use Rattle.jh_history.specs.Private.PlainView.{PlainView, HasSoundCells, last_byte}
use Rattle.jh_history.proofs.FactsLemmas.{same_function}
use Rattle.jh_history.proofs.PlainReadLemmas.{read_in, plain_reads}
use Rattle.jh_history.proofs.ReadLemmas.{read_by_is}
use Rattle.jh_history.proofs.plain.Plain.creation.Goals as goal

pub returns-then-is_any_locked : goal.returns-then-is_any_locked
unfolding creation_of
returns-then-is_any_locked c = λ i f h.
    let p = c.args.self.now in
    let byte : last_byte p.image p.bytes ≡ f.byte = ap (λ (x : Image). last_byte x p.bytes) (sym h.0.same) ∙ same_function (last_byte i p.bytes) f.byte (λ q. sym (h.0.bytes q)) in
    let cells : configs_of f.cells ≡ c.configs.result.now = sym (c.configs.ensures ∙ ap (λ (lives : List Live). configs_of lives) (ap (λ (v : PlainView). v.cells) c.self.view_is ∙ sym h.0.cells)) in
    let locked : list_any (is_locked f) f.cells ≡ true =
    ap (λ (b : Place → ℕ). list_any (λ (live : Live). is_locked_by b live.config) f.cells) (sym byte) ∙ sym (c.is_any_locked.ensures f.cells cells) ∙ c.if-is_any_locked.true in
    rw locked refl

pub returns-in-Some : goal.returns-in-Some
unfolding creation_of
returns-in-Some c = λ i f h.
    let p = c.args.self.now in
    let byte : last_byte p.image p.bytes ≡ f.byte = ap (λ (x : Image). last_byte x p.bytes) (sym h.0.same) ∙ same_function (last_byte i p.bytes) f.byte (λ q. sym (h.0.bytes q)) in
    let kept = ap (λ (v : PlainView). v.cells) c.self.view_is ∙ sym h.0.cells in
    let cells : configs_of f.cells ≡ c.configs.result.now = sym (c.configs.ensures ∙ ap (λ (lives : List Live). configs_of lives) kept) in
    let cells_too : configs_of f.cells ≡ c.configs-cells.result.now = sym (c.configs-cells.ensures ∙ ap (λ (lives : List Live). configs_of lives) kept) in
    let locked : list_any (is_locked f) f.cells ≡ false =
    ap (λ (b : Place → ℕ). list_any (λ (live : Live). is_locked_by b live.config) f.cells) (sym byte) ∙ sym (c.is_any_locked.ensures f.cells cells) ∙ c.if-is_any_locked.false in
    let fit : HasSoundCells p.image p.cells = subst (λ (v : PlainView). HasSoundCells v.image v.cells) c.self.view_is c.self.invariant in
    let image : c.self.inside.image.now ≡ i = ap (λ (v : PlainView). v.image) c.self.view_is ∙ sym h.0.same in
    let P : Option Creation → Type 0 = λ told. IfSome told (λ creation. creation ≡ creation_by c.self.inside.image.now f c.args.caller c.in_ok-read.read) in
    rw locked
    (subst P c.in-Some.is (c.in_ok-creation.ensures.told f cells_too (λ n lt. ap (λ (v : PlainView). slice_get v.cpus n) c.self.view_is ∙ h.0.cpus n lt))
    ∙ ap (λ (x : Image). creation_by x f c.args.caller c.in_ok-read.read) image
    ∙ ap (λ (read : ReadCell). creation_by i f c.args.caller read) (c.in_ok-read.ensures ∙ read_by_is i f (read_in p) c.args.at (λ a. plain_reads p i f a fit h.0)))
