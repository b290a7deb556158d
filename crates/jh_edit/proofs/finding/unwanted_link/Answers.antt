-- One slot more names no table where none is wanted.
use Rattle.std.proofs.Common.{◌≡◌, false, subst, ⊎_elim, arith, refl}
use Rattle.std.proofs.lemmas.Bool.{cases_lt}
use Rattle.jh_desc.specs.declared.descriptor.Descriptor.TheVariants.{Table}
use Rattle.jh_frames.specs.Memory.{byte_at, word_in}
use Rattle.jh_shape.specs.Laws.{is_to_table}
use Rattle.jh_edit.specs.Private.Slots.{want_at}
use Rattle.jh_edit.specs.Private.Finding.{read_in}
use Rattle.jh_edit.proofs.finding.unwanted_link.Goals as goal

pub loop-slot-preserved : goal.loop-slot-preserved
loop-slot-preserved c = λ slot next lt other leads.
    ⊎_elim
    (λ less. c.loop-slot.invariant slot next less other leads)
    (λ more.
    let same : slot ≡ c.loop-slot.slot = omega arith in
    c.in_default.ensures.none refl (subst (λ s. is_to_table (want_at c.args.wants.now s) ≡ false) same other) next (subst (λ s. read_in (word_in (byte_at c.args.f.now)) c.args.node s ≡ Table next) same leads))
    (cases_lt slot c.loop-slot.slot)

pub returns-clause-none : goal.returns-clause-none
returns-clause-none c = λ none slot next lt other leads.
    let test = c.loop-slot-test.false in
    let last = c.loop-slot.auto.slot-end in
    c.loop-slot.invariant slot next (omega arith) other leads
