-- The key tells whether the endpoint at the index is meant, and then both are changed.
use Rattle.std.proofs.Common.{◌<◌, ◌≤◌, length, arith, sym, ◌∙◌, ap, subst}
use Rattle.std.proofs.lemmas.List.{length-map}
use Rattle.jh_ivshmem.specs.Keys.{key_of, IsWholeEndpoint}
use Rattle.jh_ivshmem.proofs.LoopLemmas.{step_meant, step_other, at_end, sound_at, meant_at}
use Rattle.jh_ivshmem.proofs.ChangeLemmas.{after_sound}
use Rattle.jh_ivshmem.proofs.endpoints.change_each.Goals as goal
use Rattle.jh_ivshmem.proofs.endpoints.change_each.Goals.{then-is_meant, else-is_meant}

pub of-requires : goal.of-requires
of-requires c =
    let inside : c.loop-i.i < length c.loop-i.endpoints.items =
    omega (
      arith,
      c.loop-i.invariant.0.count,
      ap length c.requires.kept.keys,
      length-map c.args.endpoints.now.items key_of,
      c.args.keys.now.ok.0,
    ) in
    record {
      sound = subst IsWholeEndpoint (sym c.apply.ensures)
          (after_sound c.args.change c.index_mut-endpoint.result.now
          (sound_at c.loop-i.endpoints.items c.loop-i.keys.items c.loop-i.i c.index_mut-endpoint.result.now
          c.loop-i.invariant.0.kept inside c.index_mut-endpoint.ensures.value));
    }

pub loop-i-preserved : goal.loop-i-preserved
loop-i-preserved c =
    let inside : c.loop-i.i < length c.loop-i.endpoints.items =
    omega (
      arith,
      c.loop-i.invariant.0.count,
      ap length c.requires.kept.keys,
      length-map c.args.endpoints.now.items key_of,
      c.args.keys.now.ok.0,
    ) in
    elim c.if-is_meant.branch [
      | then-is_meant w ↦
          let e = w.index_mut-endpoint.result.now in
          let meant = sym (meant_at c.args.whom c.loop-i.endpoints.items c.loop-i.keys.items c.loop-i.i c.index.result.now
          w.index_mut-endpoint.result.now c.loop-i.invariant.0.kept inside c.index.ensures w.index_mut-endpoint.ensures.value)
          ∙ sym c.is_meant.ensures ∙ w.if-is_meant.true in
          let step = step_meant c.args.whom c.args.change c.args.endpoints.now.items c.loop-i.endpoints.items
          c.loop-i.keys.items c.loop-i.i w.index_mut-endpoint.result.now c.loop-i.invariant.0 inside
          w.index_mut-endpoint.ensures.value meant in
          rw (w.endpoints-is, w.keys-is, w.of.ensures, w.apply.ensures)
          (step, c.loop-i.invariant.1, c.loop-i.invariant.2)
      | else-is_meant w ↦
          let step = step_other c.args.whom c.args.change c.args.endpoints.now.items c.loop-i.endpoints.items
          c.loop-i.keys.items c.loop-i.i c.index.result.now c.loop-i.invariant.0 inside c.index.ensures
          (sym c.is_meant.ensures ∙ w.if-is_meant.false) in
          rw (w.endpoints-is, w.keys-is) (step, c.loop-i.invariant.1, c.loop-i.invariant.2)
    ]

pub returns-clause-list : goal.returns-clause-list
returns-clause-list c =
    let past : length c.args.endpoints.now.items ≤ c.loop-i.i =
    omega (arith, ap length c.requires.kept.keys, length-map c.args.endpoints.now.items key_of, c.args.keys.now.ok.0) in
    at_end c.args.whom c.args.change c.args.endpoints.now.items c.loop-i.endpoints.items c.loop-i.keys.items c.loop-i.i
    c.loop-i.invariant.0 past
