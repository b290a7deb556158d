-- Where the cells of a plan stand: each fits after those before it.
use Rattle.std.proofs.Common.{◌≡◌, ℕ, ◌<◌, Some, slice_get, List, [], ◌∷◌, ◌++◌, zero, suc, subst, arith}
use Rattle.std.specs.List.{All, Contains}
use Rattle.std.proofs.lemmas.List.Elements.{Contains-append_left, Contains-append_right}
use Rattle.std.proofs.lemmas.Option.{same_Some, slice_get_within}
use Rattle.jh_num.proofs.Public.{Contains_head, Contains_tail}
use Rattle.jh_cellcfg.specs.declared.config.CellConfig.{CellConfig}
use Rattle.jh_cellcfg.specs.declared.config.SystemConfig.{SystemConfig}
use Rattle.jh_plan.specs.declared.demand.Demand.{Demand}
use Rattle.jh_plan.specs.Demands.{IsDemand}
use Rattle.jh_plan.specs.Fits.{Fits}
use Rattle.jh_plan.specs.Plans.{ArePlanned}

-- a cell of a plan, beside those before it
pub record Stands (system : SystemConfig) (earlier : List CellConfig) (demands : List Demand) (cells : List CellConfig) (number : ℕ) (cell : CellConfig) : Type 0 where
  pub before : List CellConfig
  pub demand : Demand
  pub wanted : Contains demands demand
  pub fits : Fits system.root before demand cell
  pub kept : (other : CellConfig) → Contains earlier other → Contains before other
  pub behind : (n : ℕ) (other : CellConfig) → n < number → slice_get cells n ≡ Some other → Contains before other

behind_more : (earlier before : List CellConfig) (c : CellConfig) (cs : List CellConfig) (number : ℕ) → ((other : CellConfig) → Contains (earlier ++ c ∷ []) other → Contains before other) → ((n : ℕ) (other : CellConfig) → n < number → slice_get cs n ≡ Some other → Contains before other) → (n : ℕ) (other : CellConfig) → n < suc number → slice_get (c ∷ cs) n ≡ Some other → Contains before other
behind_more earlier before c cs number kept behind zero other less at =
    let Among : CellConfig → Type 0 = λ o. Contains (c ∷ []) o in
    kept other (Contains-append_right earlier (c ∷ []) other (subst Among (same_Some c other at) (Contains_head c [])))
behind_more earlier before c cs number kept behind (suc n) other less at = behind n other (omega (arith, less)) at

pub stands_at : (system : SystemConfig) (earlier : List CellConfig) (demands : List Demand) (cells : List CellConfig) → ArePlanned system earlier demands cells → (number : ℕ) (cell : CellConfig) → slice_get cells number ≡ Some cell → Stands system earlier demands cells number cell
stands_at system earlier [] [] planned number cell at =
    let past = slice_get_within [] number cell at in
    absurd (omega (arith, past))
stands_at system earlier [] (c ∷ cs) planned number cell at = absurd planned
stands_at system earlier (d ∷ ds) [] planned number cell at = absurd planned
stands_at system earlier (d ∷ ds) (c ∷ cs) planned zero cell at =
    let P : CellConfig → Type 0 = λ x. Stands system earlier (d ∷ ds) (c ∷ cs) zero x in
    subst P (same_Some c cell at) (record {
      before = earlier;
      demand = d;
      wanted = Contains_head d ds;
      fits = planned.0.fits;
      kept = λ other among. among;
      behind = λ n other less there. absurd (omega (arith, less));
    })
stands_at system earlier (d ∷ ds) (c ∷ cs) planned (suc number) cell at =
    let r = stands_at system (earlier ++ c ∷ []) ds cs planned.1 number cell at in
    record {
      before = r.before;
      demand = r.demand;
      wanted = Contains_tail d ds r.demand r.wanted;
      fits = r.fits;
      kept = λ other among. r.kept other (Contains-append_left earlier (c ∷ []) other among);
      behind = behind_more earlier r.before c cs number r.kept r.behind;
    }

pub demand_good : (demands : List Demand) (demand : Demand) → All IsDemand demands → Contains demands demand → IsDemand demand
demand_good demands demand all (k, below, is) = subst IsDemand is (all k demand below)
