-- One level.
use Rattle.std.proofs.Common.{◌≡◌, ◌-◌, ◌∙◌, ap, subst, refl, arith}
use Rattle.jh_num.specs.Counted.{Counted}
use Rattle.jh_desc.specs.Descriptors.{read_of}
use Rattle.jh_frames.specs.Memory.{byte_at, word_in}
use Rattle.jh_walk.specs.Private.Onwards.{onward_of, reads_on}
use Rattle.jh_walk.specs.Walks.{all_counted, probes_of, descriptor_at}
use Rattle.jh_walk.proofs.WalkLemmas.{step_found, step_reads}
use Rattle.jh_walk.proofs.walking.step.Goals as goal

pub returns-clause-value : goal.returns-clause-value
returns-clause-value c = step_found (word_in (byte_at c.args.f.now)) c.args.left c.args.table c.args.ipa (4 - c.args.left) c.descriptor_word-word.result c.lead.result (omega arith) refl c.descriptor_word-word.ensures.word c.lead.ensures.value

pub returns-clause-probes : goal.returns-clause-probes
returns-clause-probes c =
    let same : c.lead.result ≡ onward_of (4 - c.args.left) c.args.ipa (read_of (word_in (byte_at c.args.f.now) (descriptor_at (4 - c.args.left) c.args.table c.args.ipa)) (4 - c.args.left)) =
    subst (λ word. c.lead.result ≡ onward_of (4 - c.args.left) c.args.ipa (read_of word (4 - c.args.left))) c.descriptor_word-word.ensures.word c.lead.ensures.value in
    ap (λ (s : Counted). all_counted s (reads_on (λ next. probes_of (word_in (byte_at c.args.f.now)) (c.args.left - 1) next c.args.ipa) c.lead.result)) c.descriptor_word-word.ensures.steps
    ∙ ap (all_counted c.args.steps.now) (step_reads (word_in (byte_at c.args.f.now)) c.args.left c.args.table c.args.ipa (4 - c.args.left) (word_in (byte_at c.args.f.now) (descriptor_at (4 - c.args.left) c.args.table c.args.ipa)) c.lead.result (omega arith) refl refl same)
