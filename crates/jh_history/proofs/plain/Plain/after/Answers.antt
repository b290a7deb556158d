-- One entry more.
use Rattle.std.proofs.Common.{◌≡◌, ◌<◌, List, Some, None, get_or, sym, subst, length, take, arith}
use Rattle.std.proofs.lemmas.List.{take_all}
use Rattle.jh_script.specs.declared.image.Image.{Image}
use Rattle.jh_history.specs.declared.entry.Entry.{Entry}
use Rattle.jh_history.specs.declared.entry.Act.TheVariants.{Read}
use Rattle.jh_history.specs.Facts.{Facts}
use Rattle.jh_history.specs.Due.{due_at}
use Rattle.jh_history.specs.History.{facts}
use Rattle.jh_history.specs.Sound.{IsSound}
use Rattle.jh_history.specs.Private.PlainView.{Represents}
use Rattle.jh_history.proofs.FactsLemmas.{facts_nil, facts_next}
use Rattle.jh_history.proofs.FollowLemmas.{may_follow}
use Rattle.jh_history.proofs.LegalLemmas.{due_index}
use Rattle.jh_history.proofs.WellFormedLemmas.{due_at_well_formed}
use Rattle.jh_history.proofs.plain.Plain.after.Goals as goal

abbrev any_entry : Entry
any_entry = record { cpu = 0; cell = 0; act = Read 0 0 None }

pub loop-entry-init : goal.loop-entry-init
loop-entry-init c = rw facts_nil (record { stands = c.in_ok-plain.ensures; sound = c.legal_journals_are_sound.ensures.start c.args.image.now c.args.form c.requires.admitted })

pub follow-requires-clause-well_formed : goal.follow-requires-clause-well_formed
follow-requires-clause-well_formed c =
    let lt : c.loop-entry.entry-index < length c.args.entries.now = omega arith in
    due_at_well_formed c.args.image.now (facts c.args.image.now c.args.form (take c.loop-entry.entry-index c.args.entries.now)) _ _ c.requires.admitted (due_index c.args.image.now c.args.form c.args.entries.now c.loop-entry.entry-index _ c.requires.legal lt)

pub follow-requires-clause-due : goal.follow-requires-clause-due
follow-requires-clause-due c =
    let lt : c.loop-entry.entry-index < length c.args.entries.now = omega arith in
    let f = facts c.args.image.now c.args.form (take c.loop-entry.entry-index c.args.entries.now) in
    let stands = c.loop-entry.invariant.stands in
    record {
      facts = f;
      sound = subst (λ (x : Image). IsSound x f) stands.same c.loop-entry.invariant.sound;
      due = subst (λ (x : Image). due_at x f (get_or c.args.entries.now c.loop-entry.entry-index any_entry).cpu ≡ Some (get_or c.args.entries.now c.loop-entry.entry-index any_entry)) stands.same (due_index c.args.image.now c.args.form c.args.entries.now c.loop-entry.entry-index any_entry c.requires.legal lt);
      cells = stands.cells;
      call = stands.call;
    }

pub follow-requires-clause-may : goal.follow-requires-clause-may
follow-requires-clause-may c =
    let lt : c.loop-entry.entry-index < length c.args.entries.now = omega arith in
    let i = c.args.image.now in
    let f = facts i c.args.form (take c.loop-entry.entry-index c.args.entries.now) in
    let due = due_index i c.args.form c.args.entries.now c.loop-entry.entry-index _ c.requires.legal lt in
    let sound = c.loop-entry.invariant.sound in
    may_follow i f c.loop-entry.plain (get_or c.args.entries.now c.loop-entry.entry-index any_entry) c.loop-entry.invariant.stands
    (λ id value found. c.devices_may_change.ensures.word i f id value found sound)
    (c.devices_may_change.ensures.commit i f (get_or c.args.entries.now c.loop-entry.entry-index any_entry) (record { sound = sound; due = due }))
    (c.devices_may_change.ensures.interrupt i f (get_or c.args.entries.now c.loop-entry.entry-index any_entry) (record { sound = sound; due = due }))

pub loop-entry-preserved : goal.loop-entry-preserved
loop-entry-preserved c =
    let lt : c.loop-entry.entry-index < length c.args.entries.now = omega arith in
    let f = facts c.args.image.now c.args.form (take c.loop-entry.entry-index c.args.entries.now) in
    let next = sym (facts_next c.args.image.now c.args.form c.args.entries.now c.loop-entry.entry-index _ lt) in
    record {
      stands = subst (λ (g : Facts). Represents c.follow.new.self c.args.image.now g) next (c.in_ok-follow.ensures c.args.image.now f c.loop-entry.invariant.stands);
      sound = subst (λ (g : Facts). IsSound c.args.image.now g) next (c.legal_journals_are_sound.ensures.after c.args.image.now f _ (record { sound = c.loop-entry.invariant.sound; due = due_index c.args.image.now c.args.form c.args.entries.now c.loop-entry.entry-index _ c.requires.legal lt }));
    }

pub returns : goal.returns
returns c = subst (λ (entries : List Entry). Represents c.loop-entry.plain c.args.image.now (facts c.args.image.now c.args.form entries)) (take_all c.loop-entry.entry-index c.args.entries.now c.loop-entry-test.false) c.loop-entry.invariant.stands
