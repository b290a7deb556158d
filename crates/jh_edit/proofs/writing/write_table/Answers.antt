-- What is wanted of the slots may be written.
use Rattle.std.proofs.Common.{◌≡◌, ◌+◌, ◌-◌, ◌*◌, ◌∙◌, ap, sym}
use Rattle.jh_num.specs.Levels.{slot_size}
use Rattle.jh_frames.specs.Memory.{byte_at, word_in}
use Rattle.jh_shape.specs.declared.want.Want.{Want}
use Rattle.jh_shape.specs.Claims.{claims_of}
use Rattle.jh_shape.specs.Shapes.{want_of}
use Rattle.jh_edit.specs.Private.Slots.{want_at}
use Rattle.jh_edit.specs.Private.Written.{word_after}
use Rattle.jh_edit.proofs.CountingLemmas.{first_slot, want_there}
use Rattle.jh_edit.proofs.WritingLemmas.{slot_there, writable_of}
use Rattle.jh_edit.proofs.writing.write_table.Goals as goal

pub wants-requires-clause-slot : goal.wants-requires-clause-slot
wants-requires-clause-slot c = (first_slot c.args.left c.args.start c.requires.some c.requires.left c.requires.start).slot

pub wants-requires-clause-whole : goal.wants-requires-clause-whole
wants-requires-clause-whole c = (first_slot c.args.left c.args.start c.requires.some c.requires.left c.requires.start).whole

pub write_each-requires-clause-writable : goal.write_each-requires-clause-writable
write_each-requires-clause-writable c = λ slot lt.
    let level = 4 - c.args.left in
    let claims = claims_of c.args.t.now in
    let there : want_at c.wants.new.wants slot ≡ want_of claims level (c.args.start + slot * slot_size level) = want_there c.wants.new.wants slot (want_of claims level (c.args.start + slot * slot_size level)) (c.wants.ensures slot lt) in
    writable_of level (want_at c.wants.new.wants slot) (λ out rights device is.
    c.a_wanted_leaf_may_be_written.ensures claims level (c.args.start + slot * slot_size level) out rights device c.requires.sound (slot_there c.args.left c.args.start slot c.requires.some c.requires.left c.requires.start lt) (sym there ∙ is))

pub returns-clause-words : goal.returns-clause-words
returns-clause-words c = λ slot lt.
    let level = 4 - c.args.left in
    let claims = claims_of c.args.t.now in
    let there : want_at c.wants.new.wants slot ≡ want_of claims level (c.args.start + slot * slot_size level) = want_there c.wants.new.wants slot (want_of claims level (c.args.start + slot * slot_size level)) (c.wants.ensures slot lt) in
    c.write_each.ensures.words slot lt ∙ ap (λ (w : Want). word_after c.args.how level w (word_in (byte_at c.args.f.now) (c.args.page + 8 * slot))) there
