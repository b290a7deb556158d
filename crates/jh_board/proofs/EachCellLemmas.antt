-- What is true of each cell that lives after an entry.
use Rattle.std.proofs.Common.{ℕ, List, Bool, true, false, cond, Option, Some, None, map}
use Rattle.std.specs.Prelude.{All, IfSome}
use Rattle.std.proofs.lemmas.List.Elements.{All-weaker, All-map, All-push, All-filter}
use Rattle.jh_cellcfg.specs.declared.config.CellConfig.{CellConfig}
use Rattle.jh_cellcfg.specs.declared.live.Live.{Live}
use Rattle.jh_cellcfg.specs.Lives.{has_id}
use Rattle.jh_call.specs.declared.call.Call.{Call}
use Rattle.jh_call.specs.declared.call.Call.TheVariants.{Create, Start, Loadable, Destroy}
use Rattle.jh_shape.specs.Lives.{marked}
use Rattle.jh_history.specs.declared.call.OpenCall.{OpenCall}
use Rattle.jh_history.specs.declared.call.Phase.{Phase}
use Rattle.jh_history.specs.declared.call.Phase.TheVariants.{ToCreate}
use Rattle.jh_history.specs.declared.entry.Act.{Act}
use Rattle.jh_history.specs.declared.entry.Act.TheVariants.{Commit}
use Rattle.jh_history.specs.Commits.{is_other, committed_cells, cells_by, created, created_by}

cond_holds : (Q : Live → Type 0) (b : Bool) (x y : Live) → Q x → Q y → Q (cond b x y)
cond_holds Q true x y h k = h
cond_holds Q false x y h k = k

all_marked : (P : CellConfig → Type 0) (id : ℕ) (on : Bool) (cells : List Live) → All (λ (live : Live). P live.config) cells → All (λ (live : Live). P live.config) (map (marked id on) cells)
all_marked P id on cells h =
    let Q : Live → Type 0 = λ live. P live.config in
    All-map Q (marked id on) cells (All-weaker Q (λ (live : Live). Q (marked id on live)) (λ live holds. cond_holds Q (has_id id live) (record live { loadable = on }) live holds holds) cells h)

all_committed : (P : CellConfig → Type 0) (call : Call) (phase : Phase) (cells : List Live) → All (λ (live : Live). P live.config) cells → IfSome (created call phase) P → All (λ (live : Live). P live.config) (committed_cells call phase cells)
all_committed P (Create at) (ToCreate config) cells h made = All-push (λ (live : Live). P live.config) cells (record { config = config; loadable = false }) h made
all_committed P (Start id) phase cells h made = all_marked P id false cells h
all_committed P (Loadable id) phase cells h made = all_marked P id true cells h
all_committed P (Destroy id) phase cells h made = All-filter (is_other id) (λ (live : Live). P live.config) cells h
all_committed P call phase cells h made = h

-- what holds of the cells that live and of the one that comes holds of each cell after the act
pub all_made : (P : CellConfig → Type 0) (call : Option OpenCall) (cells : List Live) (act : Act) → All (λ (live : Live). P live.config) cells → IfSome (created_by call act) P → All (λ (live : Live). P live.config) (cells_by call cells act)
all_made P None cells Commit h made = h
all_made P (Some o) cells Commit h made = all_committed P o.call o.phase cells h made
all_made P call cells act h made = h
