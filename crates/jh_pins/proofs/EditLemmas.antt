-- A table that is edited is that of the cells that live.
use Rattle.std.proofs.Common.{◌≡◌, ℕ, ◌<◌, Bool, true, false, cond, List, [], ◌∷◌, ◌++◌, length, get_or, map, Option, Some, None, refl, sym, ap, subst, ◌∙◌, append_assoc, arith}
use Rattle.std.specs.Prelude.{filter, AllPairs}
use Rattle.std.proofs.lemmas.List.{get_or-map, length-map, map-append, append-nil}
use Rattle.jh_cellcfg.specs.declared.config.CellConfig.{CellConfig}
use Rattle.jh_cellcfg.specs.declared.live.Live.{Live}
use Rattle.jh_call.specs.declared.call.Call.{Call}
use Rattle.jh_call.specs.declared.call.Call.TheVariants.{Create, Start, Loadable, Destroy}
use Rattle.jh_check.specs.Refusals.{AreTwo}
use Rattle.jh_shape.specs.Lives.{configs_of}
use Rattle.jh_shape.proofs.Public.{configs_marked}
use Rattle.jh_script.specs.declared.image.Image.{Image}
use Rattle.jh_history.specs.declared.form.Form.{Form}
use Rattle.jh_history.specs.declared.call.OpenCall.{OpenCall}
use Rattle.jh_history.specs.declared.call.Phase.{Phase}
use Rattle.jh_history.specs.declared.call.Phase.TheVariants.{ToCreate}
use Rattle.jh_history.specs.declared.entry.Entry.{Entry}
use Rattle.jh_history.specs.declared.entry.Act.{Act}
use Rattle.jh_history.specs.declared.entry.Act.TheVariants.{Commit}
use Rattle.jh_history.specs.Facts.{Facts}
use Rattle.jh_history.specs.History.{facts}
use Rattle.jh_history.specs.Commits.{committed_cells, cells_by, is_other as is_other_live}
use Rattle.jh_history.proofs.Public.{facts_nil, facts_push, after_cells, configs_joined, configs_others, is_other_config, two_ids}
use Rattle.jh_pins.specs.Claims.{Claim}
use Rattle.jh_pins.specs.Pins.{claim_of}
use Rattle.jh_pins.specs.TableView.{TableView, AreTwoCells, HaveOwnIds}
use Rattle.jh_pins.specs.Holders.{is_other, table_of, with_cell, without}
use Rattle.jh_pins.specs.After.{live_table}
use Rattle.jh_pins.specs.Edits.{committed, edited_by, edited_behind, edited_table}

-- ---- one cell more, and one fewer

pub table_with : (root : CellConfig) (configs : List CellConfig) (config : CellConfig) → table_of root (configs ++ config ∷ []) ≡ with_cell config (table_of root configs)
table_with root configs config = ap (λ (l : List Claim). let u : TableView = record { root = claim_of root; cells = l } in u) (map-append claim_of configs (config ∷ []))

claims_kept : (id : ℕ) (config : CellConfig) (configs : List CellConfig) (b : Bool) → map claim_of (filter (is_other_config id) configs) ≡ filter (is_other id) (map claim_of configs)
    → map claim_of (cond b (config ∷ filter (is_other_config id) configs) (filter (is_other_config id) configs)) ≡ cond b (claim_of config ∷ filter (is_other id) (map claim_of configs)) (filter (is_other id) (map claim_of configs))
claims_kept id config configs true rest = ap (λ (l : List Claim). claim_of config ∷ l) rest
claims_kept id config configs false rest = rest

claims_others : (id : ℕ) (configs : List CellConfig) → map claim_of (filter (is_other_config id) configs) ≡ filter (is_other id) (map claim_of configs)
claims_others id [] = refl
claims_others id (config ∷ configs) = claims_kept id config configs (is_other_config id config) (claims_others id configs)

pub table_without : (root : CellConfig) (configs : List CellConfig) (id : ℕ) → table_of root (filter (is_other_config id) configs) ≡ without id (table_of root configs)
table_without root configs id = ap (λ (l : List Claim). let u : TableView = record { root = claim_of root; cells = l } in u) (claims_others id configs)

-- ---- one entry

of_committed : (root : CellConfig) (call : Call) (phase : Phase) (cells : List Live) → committed call phase (table_of root (configs_of cells)) ≡ table_of root (configs_of (committed_cells call phase cells))
of_committed root (Create at) (ToCreate config) cells = sym (ap (table_of root) (configs_joined cells config) ∙ table_with root (configs_of cells) config)
of_committed root (Start id) phase cells = sym (ap (table_of root) (configs_marked id false cells))
of_committed root (Loadable id) phase cells = sym (ap (table_of root) (configs_marked id true cells))
of_committed root (Destroy id) phase cells = sym (ap (table_of root) (configs_others id cells) ∙ table_without root (configs_of cells) id)
of_committed root call phase cells = refl

of_entry : (root : CellConfig) (call : Option OpenCall) (act : Act) (cells : List Live) → edited_by call act (table_of root (configs_of cells)) ≡ table_of root (configs_of (cells_by call cells act))
of_entry root (Some o) Commit cells = of_committed root o.call o.phase cells
of_entry root None Commit cells = refl
of_entry root call act cells = refl

pub one_entry : (image : Image) (form : Form) (before : List Entry) (entry : Entry) → edited_by (facts image form before).call entry.act (live_table image form before) ≡ live_table image form (before ++ entry ∷ [])
one_entry image form before entry =
    of_entry image.system.root (facts image form before).call entry.act (facts image form before).cells
    ∙ ap (λ (l : List Live). table_of image.system.root (configs_of l)) (sym (after_cells image (facts image form before) entry))
    ∙ ap (λ (f : Facts). table_of image.system.root (configs_of f.cells)) (sym (facts_push image form before entry))

-- ---- all of them

behind : (image : Image) (form : Form) (before rest : List Entry) → edited_behind image form before rest (live_table image form before) ≡ live_table image form (before ++ rest)
behind image form before [] = ap (live_table image form) (sym (append-nil before))
behind image form before (entry ∷ rest) =
    ap (edited_behind image form (before ++ entry ∷ []) rest) (one_entry image form before entry)
    ∙ behind image form (before ++ entry ∷ []) rest
    ∙ ap (live_table image form) (append_assoc before (entry ∷ []) rest)

pub edited_live : (image : Image) (form : Form) (entries : List Entry) → edited_table image form entries ≡ live_table image form entries
edited_live image form entries =
    ap (λ (f : Facts). edited_behind image form [] entries (table_of image.system.root (configs_of f.cells))) (sym (facts_nil image form)) ∙ behind image form [] entries

-- ---- a destroy

-- no two of the live cells and root have one id
pub own_ids : (root : CellConfig) (configs : List CellConfig) → AllPairs AreTwo (root ∷ configs) → HaveOwnIds (claim_of root) (map claim_of configs)
own_ids root configs differ i j d lt within =
    let n : length (map claim_of (root ∷ configs)) ≡ length (root ∷ configs) = length-map (root ∷ configs) claim_of in
    let at : (k : ℕ) → k < length (root ∷ configs) → claim_of (get_or (root ∷ configs) k root) ≡ get_or (map claim_of (root ∷ configs)) k d = λ k few. sym (get_or-map claim_of (root ∷ configs) k root d few) in
    let two : AreTwoCells (claim_of (get_or (root ∷ configs) i root)) (claim_of (get_or (root ∷ configs) j root)) = two_ids (get_or (root ∷ configs) i root) (get_or (root ∷ configs) j root) (differ i j root lt (omega arith)) in
    let P : Claim → Type 0 = λ x. AreTwoCells x (claim_of (get_or (root ∷ configs) j root)) in
    let Q : Claim → Type 0 = λ y. AreTwoCells (get_or (map claim_of (root ∷ configs)) i d) y in
    subst Q (at j (omega arith)) (subst P (at i (omega arith)) two)

pub dropped : (image : Image) (form : Form) (before : List Entry) (entry : Entry) (id : ℕ) → (facts image form (before ++ entry ∷ [])).cells ≡ filter (is_other_live id) (facts image form before).cells → live_table image form (before ++ entry ∷ []) ≡ without id (live_table image form before)
dropped image form before entry id is =
    ap (λ (l : List Live). table_of image.system.root (configs_of l)) is
    ∙ ap (table_of image.system.root) (configs_others id (facts image form before).cells)
    ∙ table_without image.system.root (configs_of (facts image form before).cells) id
