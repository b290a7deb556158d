-- The endpoint and the key at the index of the device's key are dropped, or nothing is.
use Rattle.std.proofs.Common.{◌∙◌, position, sym, ap, subst}
use Rattle.jh_ivshmem.specs.declared.change.Whom.TheVariants.{Device}
use Rattle.jh_ivshmem.specs.Private.Keys.{AreInOrder, is_key_meant}
use Rattle.jh_ivshmem.proofs.LeaveLemmas.{leaves, nothing_leaves}
use Rattle.jh_ivshmem.proofs.OrderLemmas.{keys_in_order}
use Rattle.jh_ivshmem.proofs.endpoints.drop_endpoint.Goals as goal

pub key_index-requires : goal.key_index-requires
key_index-requires c =
    subst AreInOrder (sym c.deref.ensures.value) (keys_in_order c.args.endpoints.now.items c.args.keys.now.items c.requires.kept)

pub returns-in-Some-clause-list : goal.returns-in-Some-clause-list
returns-in-Some-clause-list c =
    c.remove.ensures.items
    ∙ (leaves c.args.cell c.args.device c.args.endpoints.now.items c.args.keys.now.items c.in-Some.i c.requires.kept
    (c.in-Some.ensures ∙ ap (position (is_key_meant (Device c.args.cell c.args.device))) c.deref.ensures.value)).list

pub returns-in-Some-clause-kept : goal.returns-in-Some-clause-kept
returns-in-Some-clause-kept c = rw (c.remove.ensures.items, c.remove-in-Some.ensures.items)
    (leaves c.args.cell c.args.device c.args.endpoints.now.items c.args.keys.now.items c.in-Some.i c.requires.kept
    (c.in-Some.ensures ∙ ap (position (is_key_meant (Device c.args.cell c.args.device))) c.deref.ensures.value)).kept

pub returns-in-None-clause-list : goal.returns-in-None-clause-list
returns-in-None-clause-list c =
    nothing_leaves c.args.cell c.args.device c.args.endpoints.now.items c.args.keys.now.items c.requires.kept
    (c.in-None.ensures ∙ ap (position (is_key_meant (Device c.args.cell c.args.device))) c.deref.ensures.value)
