-- One CPU more.
use Rattle.std.proofs.Common.{◌≡◌, ℕ, ◌+◌, ◌==◌, List, Some, get_or, refl, sym, ap, ◌∙◌, arith}
use Rattle.std.specs.Prelude.{slice_get}
use Rattle.std.proofs.lemmas.Bool.{eq-eqb, ne_eqb}
use Rattle.std.proofs.lemmas.Option.{get_or_from_slice_get}
use Rattle.jh_num.specs.Below.{any_below}
use Rattle.jh_num.proofs.Public.{below_at, below_more, below_none}
use Rattle.jh_cpu.specs.declared.cpu.Cpu.{Cpu}
use Rattle.jh_cpu.specs.Changes.{opened}
use Rattle.jh_history.proofs.change.has_lower.Goals as goal

-- the owner of the CPU at a place of the list
owner_at : (cpus : List Cpu) (state : ℕ → Cpu) (k n : ℕ) → n ≡ k → slice_get cpus k ≡ Some (state k) → (get_or cpus n (opened 0)).owner ≡ (state k).owner
owner_at cpus state k n is at =
    ap (λ (m : ℕ). (get_or cpus m (opened 0)).owner) is ∙ ap (λ (c : Cpu). c.owner) (get_or_from_slice_get cpus k (state k) (opened 0) at)

pub loop-k-init : goal.loop-k-init
loop-k-init c = λ state h. (
  owner_at c.args.cpus.now state c.args.i c.from.result c.from.ensures (h c.args.i c.requires),
  below_none (λ k. (state k).owner == (get_or c.args.cpus.now c.from.result (opened 0)).owner) 0 refl,
)

pub returns-then-cpus-from : goal.returns-then-cpus-from
returns-then-cpus-from c = λ state h.
    let at = owner_at c.args.cpus.now state c.loop-k.k c.from-in-loop-k.result c.from-in-loop-k.ensures (h c.loop-k.k (omega arith)) in
    let here : (state c.loop-k.k).owner ≡ (state c.args.i).owner = sym at ∙ c.if-cpus-from.true ∙ (c.loop-k.invariant state h).0 in
    sym (below_at (λ k. (state k).owner == (state c.args.i).owner) c.args.i c.loop-k.k c.loop-k-test.true (eq-eqb (state c.loop-k.k).owner (state c.args.i).owner here))

pub loop-k-preserved : goal.loop-k-preserved
loop-k-preserved c = λ state h.
    let owner = (get_or c.args.cpus.now c.from.result (opened 0)).owner in
    let at = owner_at c.args.cpus.now state c.loop-k.k c.from-in-loop-k.result c.from-in-loop-k.ensures (h c.loop-k.k (omega arith)) in
    let so_far = c.loop-k.invariant state h in
    (so_far.0, below_more (λ k. (state k).owner == owner) c.loop-k.k (c.loop-k.k + 1) (omega arith) so_far.1 (ne_eqb (state c.loop-k.k).owner owner (λ e. c.if-cpus-from.false (at ∙ e))))

pub returns : goal.returns
returns c = λ state h.
    let end : c.loop-k.k ≡ c.args.i = omega arith in
    let so_far = c.loop-k.invariant state h in
    sym (ap (λ (n : ℕ). any_below (λ k. (state k).owner == (state c.args.i).owner) n) (sym end)
    ∙ ap (λ (x : ℕ). any_below (λ k. (state k).owner == x) c.loop-k.k) (sym so_far.0)
    ∙ so_far.1)
