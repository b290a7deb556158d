-- Beside 15 cells no CPU is free; beside fewer, what nothing else refuses is left to the pages.
use Rattle.std.proofs.Common.{◌≡◌, ℕ, ◌<◌, ◌&&◌, ◌==◌, not, Bool, false, List, length, Some, None, nat_lt, refl, sym, ap, ◌∙◌, arith}
use Rattle.std.specs.Prelude.{if◌then◌else◌}
use Rattle.jh_num.specs.Bits.{has_bit}
use Rattle.jh_num.specs.declared.error.TheConstants.{ENOMEM}
use Rattle.jh_cellcfg.specs.declared.config.CellConfig.{CellConfig}
use Rattle.jh_cellcfg.specs.declared.config.SystemConfig.{SystemConfig}
use Rattle.jh_check.specs.Refusals.{is_known, nobody, refusal_of}
use Rattle.jh_life.specs.CellsView.{CellsView}
use Rattle.jh_life.specs.Lives.{numbered_cells}
use Rattle.jh_shape.specs.Lives.{configs_of}
use Rattle.jh_shape.proofs.Public.{configs_joined, length_joined}
use Rattle.jh_life.specs.Verdict.{may_have, pages_with}
use Rattle.jh_life.proofs.VerdictLemmas.{refused_same, refused_kept, refused_left, same_cells, accepted_none, accepted_unknown, if_none_from, if_none_some, may_none}
use Rattle.jh_life.proofs.cells.Cells.verdict.Goals as goal
use Rattle.jh_life.proofs.cells.Cells.verdict.Goals.{After-refusal_without_cpus}

-- beside 15 cells
told_full : (c : After-refusal_without_cpus) → c.refusal_without_cpus.result ≡ refusal_of c.args.self.now.system (configs_of c.args.self.now.lives) c.args.new.now (may_have c.args.owned c.args.caller) (pages_with c.args.self.now c.args.new.now) c.args.pool
told_full c =
    let now = c.args.self.now in
    let new = c.args.new.now in
    let live = c.as_slice-live.result.now in
    let configs = c.self.inside.configs.items in
    let marks = c.self.inside.marks.items in
    let pages : ℕ = pages_with now new in
    let system : c.self.inside.system ≡ now.system = ap (λ (s : CellsView). s.system) c.self.view_is in
    let cells : live ≡ configs_of now.lives = c.as_slice-live.ensures.value ∙ sym (configs_joined configs marks c.self.invariant.even) ∙ ap (λ (s : CellsView). configs_of s.lives) c.self.view_is in
    let lives : length now.lives ≡ length configs = rw (← c.self.view_is) (length_joined configs marks c.self.invariant.even) in
    let len : length live ≡ length configs = ap (λ (l : List CellConfig). length l) c.as_slice-live.ensures.value in
    let full : length now.lives ≡ 15 = omega arith in
    c.refusal_without_cpus.ensures.value pages c.args.pool
    ∙ ap (λ (s : SystemConfig). refusal_of s live new nobody pages c.args.pool) system
    ∙ ap (λ (l : List CellConfig). refusal_of now.system l new nobody pages c.args.pool) cells
    ∙ refused_same now.system (configs_of now.lives) new nobody (may_have c.args.owned c.args.caller) pages pages c.args.pool
    (λ cpu. may_none c.args.owned c.args.caller cpu (c.requires full cpu)) refl

pub returns-then-live-eq-MAX_CELLS-clause-value : goal.returns-then-live-eq-MAX_CELLS-clause-value
returns-then-live-eq-MAX_CELLS-clause-value c = rw c.if-locked.false (told_full c)

pub returns-then-live-eq-MAX_CELLS-clause-unknown : goal.returns-then-live-eq-MAX_CELLS-clause-unknown
returns-then-live-eq-MAX_CELLS-clause-unknown c =
    accepted_unknown c.refusal_without_cpus.result c.args.self.now.system (configs_of c.args.self.now.lives) c.args.new.now (may_have c.args.owned c.args.caller) (pages_with c.args.self.now c.args.new.now) c.args.pool (told_full c)

pub returns-then-live-eq-MAX_CELLS-clause-room : goal.returns-then-live-eq-MAX_CELLS-clause-room
returns-then-live-eq-MAX_CELLS-clause-room c = if_none_some c.refusal_without_cpus.result (length c.args.self.now.lives < 15) c.refusal_without_cpus.ensures.some

-- beside fewer: what is refused before the pages
pub returns-in-Some-clause-value : goal.returns-in-Some-clause-value
returns-in-Some-clause-value c =
    let now = c.args.self.now in
    let new = c.args.new.now in
    let live = c.as_slice-live.result.now in
    let free : ℕ → Bool = has_bit c.without_bit-free.result in
    let system : c.self.inside.system ≡ now.system = ap (λ (s : CellsView). s.system) c.self.view_is in
    let cells : live ≡ configs_of now.lives = c.as_slice-live.ensures.value ∙ sym (configs_joined c.self.inside.configs.items c.self.inside.marks.items c.self.invariant.even) ∙ ap (λ (s : CellsView). configs_of s.lives) c.self.view_is in
    let kept : refusal_of c.self.inside.system live new free 0 0 ≡ refusal_of c.self.inside.system live new free (pages_with now new) c.args.pool =
    refused_kept c.self.inside.system live new free (pages_with now new) c.args.pool (sym c.in_ok-refusal.ensures ∙ c.in-Some.is) in
    rw c.if-locked.false
    (c.in_ok-refusal.ensures ∙ kept
    ∙ same_cells c.self.inside.system now.system live (configs_of now.lives) new free (may_have c.args.owned c.args.caller) (pages_with now new) c.args.pool system cells (λ k. c.without_bit-free.ensures k ∙ ap (λ (n : ℕ). has_bit c.args.owned k && not (k == n)) c.from.ensures))

-- what is left to them
pub returns-in-None-clause-value : goal.returns-in-None-clause-value
returns-in-None-clause-value c =
    let now = c.args.self.now in
    let new = c.args.new.now in
    let live = c.as_slice-live.result.now in
    let free : ℕ → Bool = has_bit c.without_bit-free.result in
    let system : c.self.inside.system ≡ now.system = ap (λ (s : CellsView). s.system) c.self.view_is in
    let cells : live ≡ configs_of now.lives = c.as_slice-live.ensures.value ∙ sym (configs_joined c.self.inside.configs.items c.self.inside.marks.items c.self.invariant.even) ∙ ap (λ (s : CellsView). configs_of s.lives) c.self.view_is in
    let before : refusal_of c.self.inside.system live new free 0 0 ≡ None = sym c.in_ok-refusal.ensures ∙ c.in-None.is in
    let whole = refused_left c.self.inside.system live new free (pages_with now new) c.args.pool before in
    rw c.if-locked.false
    (c.refusal_by_pages.ensures
    ∙ ap (λ n. if nat_lt c.args.pool n then Some ENOMEM else None) c.pages.ensures
    ∙ sym whole
    ∙ same_cells c.self.inside.system now.system live (configs_of now.lives) new free (may_have c.args.owned c.args.caller) (pages_with now new) c.args.pool system cells (λ k. c.without_bit-free.ensures k ∙ ap (λ (n : ℕ). has_bit c.args.owned k && not (k == n)) c.from.ensures))

pub returns-in-None-clause-unknown : goal.returns-in-None-clause-unknown
returns-in-None-clause-unknown c =
    let now = c.args.self.now in
    let new = c.args.new.now in
    let live = c.as_slice-live.result.now in
    let free : ℕ → Bool = has_bit c.without_bit-free.result in
    let system : c.self.inside.system ≡ now.system = ap (λ (s : CellsView). s.system) c.self.view_is in
    let cells : live ≡ configs_of now.lives = c.as_slice-live.ensures.value ∙ sym (configs_joined c.self.inside.configs.items c.self.inside.marks.items c.self.invariant.even) ∙ ap (λ (s : CellsView). configs_of s.lives) c.self.view_is in
    let before : refusal_of now.system (configs_of now.lives) new (may_have c.args.owned c.args.caller) 0 0 ≡ None =
    sym (same_cells c.self.inside.system now.system live (configs_of now.lives) new free (may_have c.args.owned c.args.caller) 0 0 system cells (λ k. c.without_bit-free.ensures k ∙ ap (λ (n : ℕ). has_bit c.args.owned k && not (k == n)) c.from.ensures))
    ∙ sym c.in_ok-refusal.ensures ∙ c.in-None.is in
    if_none_from c.refusal_by_pages.result (is_known (numbered_cells now) new ≡ false)
    (accepted_none now.system (configs_of now.lives) new (may_have c.args.owned c.args.caller) 0 0 before)

pub returns-in-None-clause-room : goal.returns-in-None-clause-room
returns-in-None-clause-room c =
    let now = c.args.self.now in
    let configs = c.self.inside.configs.items in
    let lives : length now.lives ≡ length configs = rw (← c.self.view_is) (length_joined configs c.self.inside.marks.items c.self.invariant.even) in
    let len : length c.as_slice-live.result.now ≡ length configs = ap (λ (l : List CellConfig). length l) c.as_slice-live.ensures.value in
    let few : length now.lives < 15 = omega arith in
    if_none_from c.refusal_by_pages.result (length now.lives < 15) few
