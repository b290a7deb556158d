-- A demand that a line tells is within its limits.
use Rattle.std.proofs.Common.{◌≡◌, ℕ, ◌<◌, ◌≤◌, ◌%◌, ◌^◌, Bool, true, false, cond, ◌&&◌, ◌==◌, nat_lt, nat_le, List, [], ◌∷◌, Option, Some, None, Result, Ok, Err, refl, sym, subst}
use Rattle.std.specs.Prelude.{IfSome, IfOk}
use Rattle.std.specs.Option.{option_map}
use Rattle.std.proofs.lemmas.Bool.{ltb-true, leb-true, eqb-true, and_parts}
use Rattle.jh_num.specs.declared.address.TheConstants.{PAGE_SIZE}
use Rattle.jh_script.specs.Numbers.{number_written}
use Rattle.jh_script.specs.Operations.{◌>>=◌}
use Rattle.jh_plan.specs.declared.demand.Demand.{Demand}
use Rattle.jh_plan.specs.declared.line.Figures.{Figures}
use Rattle.jh_plan.specs.declared.line.Line.{Line}
use Rattle.jh_plan.specs.Demands.{IsDemand, is_name, figures_by, figures_of, mark_of, named, demand_of, line_of_demand}
use Rattle.jh_plan.specs.Private.Lines.{IsGoodLine}

-- the figures are within their limits
record AreGood (figures : Figures) : Type 0 where
  some_cpus : 1 ≤ figures.cpus
  few_cpus : figures.cpus ≤ 15
  some_size : 0 < figures.size
  whole : figures.size % PAGE_SIZE ≡ 0

when : (test : Bool) (figures : Figures) → (test ≡ true → AreGood figures) → IfSome (cond test (Some figures) None) AreGood
when true figures h = h refl
when false figures h = tt

by_good : (id cpus size : ℕ) (loadable : Bool) → IfSome (figures_by id cpus size loadable) AreGood
unfolding figures_by
by_good id cpus size loadable =
    let small = nat_lt id (2 ^ 32) in
    let some = nat_lt 0 cpus in
    let few = nat_le cpus 15 in
    let large = nat_lt 0 size in
    let whole = (size % PAGE_SIZE) == 0 in
    when ((small && (some && few)) && (large && whole)) (record { id = id; cpus = cpus; size = size; loadable = loadable }) (λ e.
    let p = and_parts (small && (some && few)) (large && whole) e in
    let c = and_parts some few (and_parts small (some && few) p.0).1 in
    let s = and_parts large whole p.1 in
    record {
      some_cpus = ltb-true 0 cpus c.0;
      few_cpus = leb-true cpus 15 c.1;
      some_size = ltb-true 0 size s.0;
      whole = eqb-true (size % PAGE_SIZE) 0 s.1;
    })

next_good : {A : Type 0} (o : Option A) (f : A → Option Figures) → ((a : A) → IfSome (f a) AreGood) → IfSome (o >>= f) AreGood
next_good None f h = tt
next_good (Some a) f h = h a

figures_good : (words : List (List ℕ)) → IfSome (figures_of words) AreGood
unfolding figures_of
figures_good [] = tt
figures_good (id ∷ []) = tt
figures_good (id ∷ cpus ∷ []) = tt
figures_good (id ∷ cpus ∷ size ∷ more) =
    next_good (mark_of more) (λ l. number_written id >>= λ i. number_written cpus >>= λ c. number_written size >>= λ s. figures_by i c s l) (λ l.
    next_good (number_written id) (λ i. number_written cpus >>= λ c. number_written size >>= λ s. figures_by i c s l) (λ i.
    next_good (number_written cpus) (λ c. number_written size >>= λ s. figures_by i c s l) (λ c.
    next_good (number_written size) (λ s. figures_by i c s l) (λ s. by_good i c s l))))

named_good : (name : List ℕ) (test : Bool) → is_name name ≡ test → (o : Option Figures) → IfSome o AreGood → IfSome (cond test (option_map (named name) o) None) IsDemand
named_good name true e None good = tt
named_good name true e (Some f) good = record { name = e; some_cpus = good.some_cpus; few_cpus = good.few_cpus; some_size = good.some_size; whole = good.whole }
named_good name false e o good = tt

demand_good : (words : List (List ℕ)) → IfSome (demand_of words) IsDemand
unfolding demand_of
demand_good [] = tt
demand_good (name ∷ behind) = named_good name (is_name name) refl (figures_of behind) (figures_good behind)

line_good : (o : Option Demand) → IfSome o IsDemand → IsGoodLine (line_of_demand o)
unfolding line_of_demand
line_good None good = tt
line_good (Some demand) good = good

pub result_good : {E : Type 0} (r : Result Line E) (words : List (List ℕ)) → IfOk r (λ line. line ≡ line_of_demand (demand_of words)) → IfOk r IsGoodLine
result_good (Ok line) words is = subst IsGoodLine (sym is) (line_good (demand_of words) (demand_good words))
result_good (Err e) words is = tt
