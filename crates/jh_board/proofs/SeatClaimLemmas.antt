-- What the tables of each seat's cell are made from after a call, by the cells that live then.
use Rattle.std.proofs.Common.{◌≡◌, ℕ, Bool, true, false, not, cond, nat_eq, List, [], ◌∷◌, ◌++◌, map, Option, Some, None, if◌then◌else◌, refl, sym, ap, ◌∙◌}
use Rattle.std.specs.Prelude.{filter, find}
use Rattle.std.proofs.lemmas.Bool.{eqb-true, ne_eqb}
use Rattle.jh_num.proofs.Public.{find_kept}
use Rattle.jh_cellcfg.specs.declared.config.CellConfig.{CellConfig}
use Rattle.jh_cellcfg.specs.declared.live.Live.{Live}
use Rattle.jh_cellcfg.specs.Lives.{has_id, id_of}
use Rattle.jh_script.specs.declared.image.Image.{Image}
use Rattle.jh_history.specs.Commits.{is_other}
use Rattle.jh_shape.specs.Claims.{Claims}
use Rattle.jh_shape.specs.Lives.{marked, new_live}
use Rattle.jh_shape.specs.Pages.{cell_claims, live_root_claims}
use Rattle.jh_edit.specs.declared.planning.Planned.TheVariants.{Unchanged, Create, Destroy}
use Rattle.jh_edit.specs.declared.stage.Seat.{Seat}
use Rattle.jh_edit.specs.Ends.{came}
use Rattle.jh_edit.specs.Forest.{is_root}
use Rattle.jh_board.specs.Tables.{claims_by, claims_in}
use Rattle.jh_board.specs.Private.Editing.{claims_planned}
use Rattle.jh_cache.proofs.Public.{find_last, find_more}

-- ---- a cell comes

came_by : (b c : Bool) (cells : List Live) (config : CellConfig) (seat : Seat) (root old : Claims) → nat_eq config.id seat.id ≡ c → find (has_id config.id) cells ≡ None
    → (if b then root else if c then came (cell_claims config) seat.comm else (if b then old else came (claims_by (find (has_id seat.id) cells)) seat.comm))
    ≡ (if b then root else came (claims_by (find (has_id seat.id) (cells ++ new_live config ∷ []))) seat.comm)
came_by true c cells config seat root old is none = refl
came_by false true cells config seat root old is none =
    let e : config.id ≡ seat.id = eqb-true config.id seat.id is in
    ap (λ (o : Option Live). came (claims_by o) seat.comm) (sym (find_last (has_id seat.id) cells (new_live config) (ap (λ (n : ℕ). find (has_id n) cells) (sym e) ∙ none) is))
came_by false false cells config seat root old is none = ap (λ (o : Option Live). came (claims_by o) seat.comm) (sym (find_more (has_id seat.id) cells (new_live config) is))

pub claims_created : (image : Image) (cells : List Live) (config : CellConfig) (tables : ℕ) (seat : Seat) → find (has_id config.id) cells ≡ None
    → claims_planned (live_root_claims image.system.root.memory_regions (cells ++ new_live config ∷ [])) (cell_claims config) (Create config.id tables) (claims_in image cells) seat ≡ claims_in image (cells ++ new_live config ∷ []) seat
claims_created image cells config tables seat none =
    came_by (is_root seat) (nat_eq config.id seat.id) cells config seat (live_root_claims image.system.root.memory_regions (cells ++ new_live config ∷ [])) (live_root_claims image.system.root.memory_regions cells) refl none

-- ---- a cell is marked

marked_claims : (b : Bool) (on : Bool) (live : Live) → claims_by (Some (cond b (record live { loadable = on }) live)) ≡ claims_by (Some live)
marked_claims true on live = refl
marked_claims false on live = refl

marked_id : (b : Bool) (on : Bool) (live : Live) → id_of (cond b (record live { loadable = on }) live) ≡ id_of live
marked_id true on live = refl
marked_id false on live = refl

chosen : (b : Bool) (one other : Live) (r r' : Option Live) → claims_by (Some one) ≡ claims_by (Some other) → claims_by r ≡ claims_by r' → claims_by (cond b (Some one) r) ≡ claims_by (cond b (Some other) r')
chosen true one other r r' first second = first
chosen false one other r r' first second = second

marked_found : (id n : ℕ) (on : Bool) (cells : List Live) → claims_by (find (has_id id) (map (marked n on) cells)) ≡ claims_by (find (has_id id) cells)
marked_found id n on [] = refl
marked_found id n on (live ∷ rest) =
    let m : Live = marked n on live in
    ap (λ b. claims_by (cond b (Some m) (find (has_id id) (map (marked n on) rest)))) (ap (λ (k : ℕ). nat_eq k id) (marked_id (has_id n live) on live))
    ∙ chosen (has_id id live) m live (find (has_id id) (map (marked n on) rest)) (find (has_id id) rest) (marked_claims (has_id n live) on live) (marked_found id n on rest)

marked_by : (b : Bool) (seat : Seat) (coming root old found found' : Claims) → found ≡ found'
    → (if b then root else if false then came coming seat.comm else (if b then old else came found seat.comm)) ≡ (if b then root else came found' seat.comm)
marked_by true seat coming root old found found' same = refl
marked_by false seat coming root old found found' same = ap (λ (claims : Claims). came claims seat.comm) same

pub claims_marked : (image : Image) (cells : List Live) (coming : Claims) (n : ℕ) (on : Bool) (seat : Seat)
    → claims_planned (live_root_claims image.system.root.memory_regions (map (marked n on) cells)) coming Unchanged (claims_in image cells) seat ≡ claims_in image (map (marked n on) cells) seat
claims_marked image cells coming n on seat =
    marked_by (is_root seat) seat coming (live_root_claims image.system.root.memory_regions (map (marked n on) cells)) (live_root_claims image.system.root.memory_regions cells)
    (claims_by (find (has_id seat.id) cells)) (claims_by (find (has_id seat.id) (map (marked n on) cells))) (sym (marked_found seat.id n on cells))

-- ---- a cell goes

pub claims_left : (image : Image) (cells : List Live) (coming : Claims) (n : ℕ) (seat : Seat) → (seat.id ≡ n → ⊥)
    → claims_planned (live_root_claims image.system.root.memory_regions (filter (is_other n) cells)) coming (Destroy n) (claims_in image cells) seat ≡ claims_in image (filter (is_other n) cells) seat
claims_left image cells coming n seat other =
    marked_by (is_root seat) seat coming (live_root_claims image.system.root.memory_regions (filter (is_other n) cells)) (live_root_claims image.system.root.memory_regions cells)
    (claims_by (find (has_id seat.id) cells)) (claims_by (find (has_id seat.id) (filter (is_other n) cells)))
    (ap claims_by (sym (find_kept (has_id seat.id) (is_other n) cells (λ live own. ap not (ne_eqb (id_of live) n (λ e. other (sym (eqb-true (id_of live) seat.id own) ∙ e)))))))
