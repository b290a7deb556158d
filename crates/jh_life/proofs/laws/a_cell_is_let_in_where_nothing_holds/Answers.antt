-- A lock refuses by itself; without one, nothing refuses the cell exactly where it is accepted.
use Rattle.std.proofs.Common.{◌≡◌, ℕ, Bool, true, false, List, Some, None, refl, sym, subst}
use Rattle.std.specs.Prelude.{Option, ℤ, ◌↔◌, if◌then◌else◌}
use Rattle.std.proofs.lemmas.Bool.{false≢true}
use Rattle.std.proofs.lemmas.Option.{none-some}
use Rattle.jh_num.specs.declared.error.TheConstants.{EPERM}
use Rattle.jh_cellcfg.specs.declared.config.CellConfig.{CellConfig}
use Rattle.jh_cellcfg.specs.declared.config.SystemConfig.{SystemConfig}
use Rattle.jh_check.specs.Refusals.{refusal_of, IsAccepted}
use Rattle.jh_shape.specs.Lives.{configs_of}
use Rattle.jh_life.specs.CellsView.{CellsView}
use Rattle.jh_life.specs.Causes.{Create, IsLetIn, verdict_on}
use Rattle.jh_life.specs.Verdict.{may_have, pages_with}
use Rattle.jh_life.proofs.laws.a_cell_is_let_in_where_nothing_holds.Goals as goal

-- what is refused for a lock, or else for what is told
let_in : (locked : Bool) (refusal : Option ℤ) (P : Type 0) → ((refusal ≡ None) ↔ P) → ((if locked then Some EPERM else refusal) ≡ None) ↔ ((locked ≡ false) × P)
let_in true refusal P same = (λ e. absurd (none-some EPERM (sym e)), λ both. absurd (false≢true (sym both.0)))
let_in false refusal P same = (λ e. (refl, same.0 e), λ both. same.1 both.1)

-- nothing of a refusal holds exactly where the cell is accepted
abbrev IsSame : CellConfig → ℕ → ℕ → ℕ → ℕ → SystemConfig → List CellConfig → Type 0
IsSame new owned caller pages pool system live = (refusal_of system live new (may_have owned caller) pages pool ≡ None) ↔ IsAccepted system live new (may_have owned caller) pages pool

-- whether the create is let in, where that is the new cell
abbrev IsToldOf : CellsView → Create → CellConfig → Type 0
IsToldOf seen create new = let it : Create = record create { new = new } in (verdict_on seen it ≡ None) ↔ IsLetIn seen it

pub returns : goal.returns
returns c = λ create same.
    let seen = c.args.cells.now in
    let new = c.args.new.now in
    let live = configs_of seen.lives in
    let owned = create.owned in
    let caller = create.caller in
    let pages : ℕ = pages_with seen new in
    let both = let_in create.locked (refusal_of seen.system live new (may_have owned caller) pages create.pool) (IsAccepted seen.system live new (may_have owned caller) pages create.pool)
    (subst (λ (s : SystemConfig). IsSame new owned caller pages create.pool s live) c.system.ensures
    (subst (λ (l : List CellConfig). IsSame new owned caller pages create.pool c.system.result.now l) c.list.ensures.value
    (c.nothing_is_refused_that_is_accepted.ensures (may_have owned caller) pages create.pool))) in
    let P : CellConfig → Type 0 = IsToldOf seen create in
    subst P (sym same) (λ e. record { unlocked = (both.0 e).0; accepted = (both.0 e).1 }, λ h. both.1 (h.unlocked, h.accepted))
