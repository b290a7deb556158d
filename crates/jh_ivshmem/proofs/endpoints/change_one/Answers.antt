-- The endpoint at the index of the device's key is changed, or none is.
use Rattle.std.proofs.Common.{◌∙◌, position, set, sym, ap, subst}
use Rattle.jh_ivshmem.specs.declared.change.Whom.TheVariants.{Device}
use Rattle.jh_ivshmem.specs.Keys.{IsWholeEndpoint, key_of}
use Rattle.jh_ivshmem.specs.Private.Keys.{AreInOrder, is_key_meant}
use Rattle.jh_ivshmem.proofs.ChangeLemmas.{after_sound}
use Rattle.jh_ivshmem.proofs.LoopLemmas.{device_at, change_found, change_none, sound_at}
use Rattle.jh_ivshmem.proofs.OrderLemmas.{keys_in_order}
use Rattle.jh_ivshmem.proofs.endpoints.change_one.Goals as goal

pub key_index-requires : goal.key_index-requires
key_index-requires c =
    subst AreInOrder (sym c.deref.ensures.value) (keys_in_order c.args.endpoints.now.items c.args.keys.now.items c.requires.kept)

pub of-requires : goal.of-requires
of-requires c =
    let es = c.args.endpoints.now.items in
    let ks = c.args.keys.now.items in
    let e = c.index_mut-endpoint.result.now in
    let is = c.in-Some.ensures ∙ ap (position (is_key_meant (Device c.args.cell c.args.device))) c.deref.ensures.value in
    let at = device_at c.args.cell c.args.device es ks c.in-Some.i e c.requires.kept is c.index_mut-endpoint.ensures.value in
    record {
      sound = subst IsWholeEndpoint (sym c.apply.ensures)
          (after_sound c.args.change e (sound_at es ks c.in-Some.i e c.requires.kept at.0 c.index_mut-endpoint.ensures.value));
    }

pub returns-in-Some-clause-list : goal.returns-in-Some-clause-list
returns-in-Some-clause-list c =
    (change_found c.args.cell c.args.device c.args.change c.args.endpoints.now.items
    (set c.args.endpoints.now.items c.in-Some.i c.apply.new.self) c.args.keys.now.items (set c.args.keys.now.items c.in-Some.i c.of.result) c.in-Some.i
    c.index_mut-endpoint.result.now c.requires.kept
    (c.in-Some.ensures ∙ ap (position (is_key_meant (Device c.args.cell c.args.device))) c.deref.ensures.value)
    c.index_mut-endpoint.ensures.value (ap (set c.args.endpoints.now.items c.in-Some.i) c.apply.ensures)
    (ap (set c.args.keys.now.items c.in-Some.i) (c.of.ensures ∙ ap key_of c.apply.ensures))).list

pub returns-in-Some-clause-kept : goal.returns-in-Some-clause-kept
returns-in-Some-clause-kept c =
    (change_found c.args.cell c.args.device c.args.change c.args.endpoints.now.items
    (set c.args.endpoints.now.items c.in-Some.i c.apply.new.self) c.args.keys.now.items (set c.args.keys.now.items c.in-Some.i c.of.result) c.in-Some.i
    c.index_mut-endpoint.result.now c.requires.kept
    (c.in-Some.ensures ∙ ap (position (is_key_meant (Device c.args.cell c.args.device))) c.deref.ensures.value)
    c.index_mut-endpoint.ensures.value (ap (set c.args.endpoints.now.items c.in-Some.i) c.apply.ensures)
    (ap (set c.args.keys.now.items c.in-Some.i) (c.of.ensures ∙ ap key_of c.apply.ensures))).kept

pub returns-in-None-clause-list : goal.returns-in-None-clause-list
returns-in-None-clause-list c =
    (change_none c.args.cell c.args.device c.args.change c.args.endpoints.now.items c.args.keys.now.items c.requires.kept
    (c.in-None.ensures ∙ ap (position (is_key_meant (Device c.args.cell c.args.device))) c.deref.ensures.value)).list
