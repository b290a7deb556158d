-- What isn't a section of the one device can't be one at the same offset of a linked one.
use Rattle.std.proofs.Common.{◌∙◌, sym}
use Rattle.jh_check.proofs.SectionLemmas.{no_section}
use Rattle.jh_check.proofs.devices.has_section.Goals as goal

pub returns-else-is_section : goal.returns-else-is_section
returns-else-is_section c =
    c.if-is_section.false ∙ sym (no_section c.args.item c.args.other_item c.args.one.now c.args.others.now (sym c.is_section.ensures ∙ c.if-is_section.false))
