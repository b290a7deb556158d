-- Items one after another, and the table of the cells that live.
use Rattle.std.proofs.Common.{◌≡◌, ◌≢◌, ℕ, zero, suc, ◌+◌, ◌<◌, ◌≤◌, Bool, true, false, cond, not, List, [], ◌∷◌, ◌++◌, length, get_or, take, map, Option, Some, None, refl, sym, ap, subst, ◌∙◌, add-one, append_assoc, arith}
use Rattle.std.specs.Prelude.{◌↔◌, AllPairs, IsSome, slice_get}
use Rattle.std.proofs.lemmas.Bool.{false≢true, le-ltb, lt-ltb}
use Rattle.std.proofs.lemmas.List.{get_or-map, get_or-take, length-map, append-nil, length-take-le, take_more}
use Rattle.std.proofs.lemmas.List.Folds.{fold_stuck}
use Rattle.std.proofs.lemmas.List.Sums.{fold_more}
use Rattle.std.proofs.lemmas.Option.{none-some, slice_get_within, slice_get-get_or, get_or_from_slice_get}
use Rattle.jh_cellcfg.specs.declared.config.CellConfig.{CellConfig}
use Rattle.jh_check.specs.Refusals.{AreTwo}
use Rattle.jh_script.specs.declared.image.Image.{Image}
use Rattle.jh_history.specs.declared.form.Form.{Form}
use Rattle.jh_history.specs.declared.entry.Entry.{Entry}
use Rattle.jh_history.specs.Due.{due}
use Rattle.jh_history.specs.Items.{Reached, with_due, with_item, items}
use Rattle.jh_history.proofs.Public.{two_ids}
use Rattle.jh_laws.specs.Items.{IsCutShort}
use Rattle.jh_board.specs.BoardView.{BoardView}
use Rattle.jh_board.specs.Turns.{MakesDue}
use Rattle.jh_pins.specs.Claims.{Claim}
use Rattle.jh_pins.specs.declared.pin.PinRun.{PinRun}
use Rattle.jh_pins.specs.Pins.{claim_of}
use Rattle.jh_pins.specs.TableView.{TableView}
use Rattle.jh_pins.specs.Holders.{IsNewId, is_held_by, with_cell, table_of}
use Rattle.jh_pins.specs.Runs.{AreRuns}
use Rattle.jh_pins.specs.Texts.{held_text, AreHeld}
use Rattle.jh_pins.specs.After.{IsStoppedAtLimit}
use Rattle.jh_pins.proofs.EditLemmas.{table_with}

-- ---- one item

abbrev pub reached : List Entry → Bool → Reached
reached entries full = record { entries = entries; full = full }

-- ---- items

pub items_none : (image : Image) (form : Form) (limit : ℕ) (start : List Entry) → items image form limit [] start ≡ reached start false
unfolding items
items_none image form limit start = refl

moved : (image other : Image) (form had : Form) (limit most : ℕ) (mid new : List Entry) (cpu : ℕ) (full : Bool) → other ≡ image → had ≡ form → most ≡ limit → with_item other had most (reached mid false) cpu ≡ reached new full → with_item image form limit (reached mid false) cpu ≡ reached new full
moved image other form had limit most mid new cpu full is_image is_form is_limit h =
    let P : Image → Type 0 = λ i. with_item i form limit (reached mid false) cpu ≡ reached new full in
    let Q : ℕ → Type 0 = λ n. with_item other form n (reached mid false) cpu ≡ reached new full in
    let R : Form → Type 0 = λ k. with_item other k most (reached mid false) cpu ≡ reached new full in
    subst P is_image (subst Q is_limit (subst R is_form h))

pub items_more : (image other : Image) (form had : Form) (limit most : ℕ) (cpus : List ℕ) (i : ℕ) (start mid new : List Entry) (full : Bool) → i < length cpus → items image form limit (take i cpus) start ≡ reached mid false → other ≡ image → had ≡ form → most ≡ limit
    → with_item other had most (reached mid false) (get_or cpus i 0) ≡ reached new full → items image form limit (take (i + 1) cpus) start ≡ reached new full
unfolding items
items_more image other form had limit most cpus i start mid new full lt so_far is_image is_form is_limit h =
    fold_more (with_item image form limit) (reached start false) cpus i 0 lt
    ∙ ap (λ (r : Reached). with_item image form limit r (get_or cpus i 0)) so_far
    ∙ moved image other form had limit most mid new (get_or cpus i 0) full is_image is_form is_limit h

-- a stop before the end
pub items_stopped : (image other : Image) (form had : Form) (limit most : ℕ) (cpus : List ℕ) (i : ℕ) (start mid new : List Entry) → i < length cpus → items image form limit (take i cpus) start ≡ reached mid false → other ≡ image → had ≡ form → most ≡ limit
    → with_item other had most (reached mid false) (get_or cpus i 0) ≡ reached new true → items image form limit cpus start ≡ reached new true
unfolding items
items_stopped image other form had limit most cpus i start mid new lt so_far is_image is_form is_limit h =
    sym (fold_stuck (with_item image form limit) (reached new true) (λ cpu. refl) (reached start false) cpus i 0 lt
    (ap (λ (r : Reached). with_item image form limit r (get_or cpus i 0)) so_far ∙ moved image other form had limit most mid new (get_or cpus i 0) true is_image is_form is_limit h))

-- ---- the limit

abbrev pub CutLaw : Type 0
CutLaw = (image : Image) (form : Form) (limit : ℕ) (cpus : List ℕ) (before after : List Entry) → (items image form limit cpus before ≡ record { entries = after; full = true }) ↔ IsCutShort image form limit cpus before after

pub stopped_exactly : CutLaw → (image : Image) (form : Form) (limit : ℕ) (cpus : List ℕ) (entries : List Entry) (whole : Bool) → items image form limit cpus [] ≡ reached entries (not whole) → length entries ≤ limit → (whole ≡ false) ↔ IsStoppedAtLimit image form limit cpus entries
stopped_exactly cut image form limit cpus entries true are within =
    (λ e. absurd (false≢true (sym e)), λ at. absurd (false≢true (ap (λ (r : Reached). r.full) (sym are ∙ (cut image form limit cpus [] entries).1 at.1))))
stopped_exactly cut image form limit cpus entries false are within =
    (λ e. let short = (cut image form limit cpus [] entries).0 are in let enough : limit ≤ length entries = short.reached in (omega arith, short), λ at. refl)

-- ---- the cells that live

pub new_id : (root : CellConfig) (configs : List CellConfig) (i : ℕ) (cell : CellConfig) → AllPairs AreTwo (root ∷ configs) → slice_get configs i ≡ Some cell → IsNewId (table_of root (take i configs)) cell.id
new_id root configs i cell differ at zero d lt =
    let within = slice_get_within configs i cell at in
    let P : CellConfig → Type 0 = λ x. AreTwo root x in
    two_ids root cell (subst P (get_or_from_slice_get configs i cell root at) (differ 0 (suc i) root (omega arith) (omega arith)))
new_id root configs i cell differ at (suc k) d lt =
    let within = slice_get_within configs i cell at in
    let n : length (take i configs) ≡ i = length-take-le i configs (omega arith) in
    let m : length (map claim_of (take i configs)) ≡ length (take i configs) = length-map (take i configs) claim_of in
    let below : k < i = omega arith in
    let pair : AreTwo (get_or configs k root) (get_or configs i root) = differ (suc k) (suc i) root (omega arith) (omega arith) in
    let P : CellConfig → Type 0 = λ x. AreTwo (get_or configs k root) x in
    let two = two_ids (get_or configs k root) cell (subst P (get_or_from_slice_get configs i cell root at) pair) in
    let Q : Claim → Type 0 = λ x. x.id ≢ cell.id in
    let is : claim_of (get_or configs k root) ≡ get_or (map claim_of (take i configs)) k d =
    ap claim_of (sym (get_or-take i configs k root below)) ∙ sym (get_or-map claim_of (take i configs) k root d (omega arith)) in
    subst Q is two

pub one_cell_more : (root : CellConfig) (configs : List CellConfig) (i : ℕ) (cell : CellConfig) (table new : TableView) → slice_get configs i ≡ Some cell → table ≡ table_of root (take i configs) → new ≡ with_cell cell table → new ≡ table_of root (take (i + 1) configs)
one_cell_more root configs i cell table new at so_far is =
    let next : take (i + 1) configs ≡ take i configs ++ cell ∷ [] = take_more configs i cell (slice_get_within configs i cell at) ∙ ap (λ (x : CellConfig). take i configs ++ x ∷ []) (get_or_from_slice_get configs i cell cell at) in
    is ∙ ap (with_cell cell) so_far
    ∙ sym (table_with root (take i configs) cell)
    ∙ ap (table_of root) (sym next)

-- ---- the board stays the image's

-- ---- the text of one cell more

pub one_held_more : (table : TableView) (cells : List CellConfig) (cell : CellConfig) (runs : List PinRun) (text : List ℕ) → AreHeld table cells text → AreRuns (is_held_by table cell.id) runs → AreHeld table (cells ++ cell ∷ []) (text ++ held_text cell runs)
one_held_more table [] cell runs text is are = (runs, [], are, ap (λ t. t ++ held_text cell runs) is ∙ sym (append-nil (held_text cell runs)), refl)
one_held_more table (first ∷ cells) cell runs text (own, rest, own_are, is, more) are =
    (own, rest ++ held_text cell runs, own_are, ap (λ t. t ++ held_text cell runs) is ∙ append_assoc (held_text first own) rest (held_text cell runs), one_held_more table cells cell runs rest more are)

-- ---- the cells behind root

pub behind_root : (root : CellConfig) (configs : List CellConfig) (i : ℕ) → slice_get (root ∷ configs) (i + 1) ≡ slice_get configs i
behind_root root configs i = rw add-one refl

pub there : (configs : List CellConfig) (i : ℕ) → i < length configs → None ≡ slice_get configs i → ⊥
there [] i lt none = absurd (omega arith)
there (config ∷ configs) i lt none = none-some (get_or (config ∷ configs) i config) (none ∙ slice_get-get_or (config ∷ configs) i config lt)
