-- The addresses are small, and the image is admitted.
use Rattle.std.proofs.Common.{rules, sym, subst}
use Rattle.jh_script.specs.declared.image.Image.{Image}
use Rattle.jh_history.specs.Admitted.{IsAdmitted}
use Rattle.jh_talk.specs.Private.Sides.{AreNumbers}
use Rattle.jh_talk.proofs.AddressLemmas.{addresses_of}
use Rattle.jh_talk.proofs.ImageLemmas.{talk_admitted}
use Rattle.jh_talk.proofs.image.talk_image.Goals as goal

pub image_of-requires-clause-addresses : goal.image_of-requires-clause-addresses
image_of-requires-clause-addresses c = addresses_of c.args.system.now c.args.cell.now c.in_ok-talk.talk c.in_ok-talk.ensures.talk

pub returns-clause-admitted : goal.returns-clause-admitted
returns-clause-admitted c =
    let sends : AreNumbers c.args.messages.now.sends = search rules in
    let replies : AreNumbers c.args.messages.now.replies = search rules in
    subst (λ (image : Image). IsAdmitted image) (sym c.in_ok-image.ensures)
    (talk_admitted c.args.system.now c.args.cell.now c.args.messages.now c.in_ok-talk.talk c.requires.system c.in_ok-talk.ensures.talk c.requires.few_sends c.requires.few_replies sends replies)
