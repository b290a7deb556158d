-- One slot more names no table.
use Rattle.std.proofs.Common.{◌≡◌, ◌+◌, ◌-◌, ◌*◌, ◌∙◌, subst, ⊎_elim, arith}
use Rattle.std.proofs.lemmas.Bool.{cases_lt}
use Rattle.jh_num.specs.declared.level.TheConstants.{LAST_LEVEL}
use Rattle.jh_desc.specs.declared.descriptor.Descriptor.TheVariants.{Table}
use Rattle.jh_desc.specs.Descriptors.{read_of}
use Rattle.jh_frames.specs.Memory.{byte_at, word_in}
use Rattle.jh_edit.proofs.finding.first_link.Goals as goal

pub loop-slot-preserved : goal.loop-slot-preserved
loop-slot-preserved c = λ slot next lt leads.
    ⊎_elim
    (λ less. c.loop-slot.invariant slot next less leads)
    (λ more.
    let same : slot ≡ c.loop-slot.slot = omega arith in
    c.in_default.not-Table next (c.descriptor.ensures.value ∙ subst (λ s. read_of (word_in (byte_at c.args.f.now) (c.args.page + 8 * s)) (LAST_LEVEL - c.args.below) ≡ Table next) same leads))
    (cases_lt slot c.loop-slot.slot)

pub returns-clause-none : goal.returns-clause-none
returns-clause-none c = λ none slot next lt leads.
    let test = c.loop-slot-test.false in
    let last = c.loop-slot.auto.slot-end in
    c.loop-slot.invariant slot next (omega arith) leads
