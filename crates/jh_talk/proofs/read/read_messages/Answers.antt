-- A blank line is passed, a message joins the others of its side, and a bad line decides for the text.
use Rattle.std.proofs.Common.{◌≡◌, ◌-◌, ◌<◌, [], ◌∷◌, ◌++◌, length, rules, arith, sym}
use Rattle.jh_script.specs.Programs.{line_number}
use Rattle.jh_talk.specs.declared.line.Line.TheVariants.{Blank, Send, Reply, Syntax}
use Rattle.jh_talk.specs.Messages.{lines_of, sends_of, replies_of}
use Rattle.jh_talk.specs.Limits.{most_messages}
use Rattle.jh_talk.proofs.ReadLemmas.{sends_too_many, replies_too_many, messages_syntax, messages_done, blank_fault, passed, joined, blank_no_send, blank_no_reply, send_fault, reply_fault, send_sends, send_no_reply, reply_replies, reply_no_send, one_more_few}
use Rattle.jh_talk.proofs.read.read_messages.Goals as goal

pub returns-then-len-eq-MAX_MESSAGES-clause-exact : goal.returns-then-len-eq-MAX_MESSAGES-clause-exact
returns-then-len-eq-MAX_MESSAGES-clause-exact c = λ room.
    let lines : lines_of c.loop-line.rest.now ≡ Send c.in-Send.value ∷ lines_of c.in-Some.after.now = search rules in
    let full : length c.loop-line.sends ≡ most_messages = search rules in
    sym (sends_too_many c.args.text.now c.loop-line.number (most_messages - length c.loop-line.replies) c.loop-line.sends (lines_of c.loop-line.rest.now) (lines_of c.in-Some.after.now) c.in-Send.value c.loop-line.invariant.faults lines full)

pub returns-then-len-eq-MAX_MESSAGES-2-clause-exact : goal.returns-then-len-eq-MAX_MESSAGES-2-clause-exact
returns-then-len-eq-MAX_MESSAGES-2-clause-exact c = λ room.
    let lines : lines_of c.loop-line.rest.now ≡ Reply c.in-Reply.value ∷ lines_of c.in-Some.after.now = search rules in
    let full : length c.loop-line.replies ≡ most_messages = search rules in
    sym (replies_too_many c.args.text.now c.loop-line.number (most_messages - length c.loop-line.sends) c.loop-line.replies (lines_of c.loop-line.rest.now) (lines_of c.in-Some.after.now) c.in-Reply.value c.loop-line.invariant.faults lines full)

pub returns-in-Syntax-clause-exact : goal.returns-in-Syntax-clause-exact
returns-in-Syntax-clause-exact c = λ room.
    let lines : lines_of c.loop-line.rest.now ≡ Syntax ∷ lines_of c.in-Some.after.now = search rules in
    let number : c.saturating_add-number.result ≡ line_number c.loop-line.number = search rules in
    sym (messages_syntax c.args.text.now c.loop-line.number c.saturating_add-number.result _ _ (lines_of c.loop-line.rest.now) (lines_of c.in-Some.after.now) c.loop-line.invariant.faults lines number)

pub loop-line-preserved-in-Blank : goal.loop-line-preserved-in-Blank
loop-line-preserved-in-Blank c =
    let rest = lines_of c.loop-line.rest.now in
    let after = lines_of c.in-Some.after.now in
    let lines : rest ≡ Blank ∷ after = search rules in
    let number : c.saturating_add-number.result ≡ line_number c.loop-line.number = search rules in
    let before = c.loop-line.invariant in
    record {
      faults = blank_fault c.args.text.now c.loop-line.number c.saturating_add-number.result _ _ rest after before.faults lines number;
      sent = passed sends_of (sends_of (lines_of c.args.text.now)) c.loop-line.sends Blank rest after (blank_no_send after) before.sent lines;
      replied = passed replies_of (replies_of (lines_of c.args.text.now)) c.loop-line.replies Blank rest after (blank_no_reply after) before.replied lines;
      few_sends = before.few_sends;
      few_replies = before.few_replies;
    }

pub loop-line-preserved-in_ok-push-in-Send : goal.loop-line-preserved-in_ok-push-in-Send
loop-line-preserved-in_ok-push-in-Send c =
    let value = c.in-Send.value in
    let rest = lines_of c.loop-line.rest.now in
    let after = lines_of c.in-Some.after.now in
    let lines : rest ≡ Send value ∷ after = search rules in
    let number : c.saturating_add-number.result ≡ line_number c.loop-line.number = search rules in
    let push : c.push.new.self ≡ c.loop-line.sends ++ value ∷ [] = search rules in
    let before = c.loop-line.invariant in
    let few : length c.loop-line.sends < most_messages = omega arith in
    record {
      faults = send_fault c.args.text.now c.loop-line.number c.saturating_add-number.result (most_messages - length c.loop-line.replies) c.loop-line.sends c.push.new.self rest after value before.faults lines number few push;
      sent = joined sends_of (sends_of (lines_of c.args.text.now)) c.loop-line.sends c.push.new.self value (Send value) rest after (send_sends value after) before.sent lines push;
      replied = passed replies_of (replies_of (lines_of c.args.text.now)) c.loop-line.replies (Send value) rest after (send_no_reply value after) before.replied lines;
      few_sends = omega (arith, one_more_few c.loop-line.sends c.push.new.self value push few);
      few_replies = before.few_replies;
    }

pub loop-line-preserved : goal.loop-line-preserved
loop-line-preserved c =
    let value = c.in-Reply.value in
    let rest = lines_of c.loop-line.rest.now in
    let after = lines_of c.in-Some.after.now in
    let lines : rest ≡ Reply value ∷ after = search rules in
    let number : c.saturating_add-number.result ≡ line_number c.loop-line.number = search rules in
    let push : c.push-in-Reply.new.self ≡ c.loop-line.replies ++ value ∷ [] = search rules in
    let before = c.loop-line.invariant in
    let few : length c.loop-line.replies < most_messages = omega arith in
    record {
      faults = reply_fault c.args.text.now c.loop-line.number c.saturating_add-number.result (most_messages - length c.loop-line.sends) c.loop-line.replies c.push-in-Reply.new.self rest after value before.faults lines number few push;
      sent = passed sends_of (sends_of (lines_of c.args.text.now)) c.loop-line.sends (Reply value) rest after (reply_no_send value after) before.sent lines;
      replied = joined replies_of (replies_of (lines_of c.args.text.now)) c.loop-line.replies c.push-in-Reply.new.self value (Reply value) rest after (reply_replies value after) before.replied lines push;
      few_sends = before.few_sends;
      few_replies = omega (arith, one_more_few c.loop-line.replies c.push-in-Reply.new.self value push few);
    }

pub returns-clause-exact : goal.returns-clause-exact
returns-clause-exact c = λ room.
    let lines : lines_of c.loop-line.rest.now ≡ [] = search rules in
    let before = c.loop-line.invariant in
    sym (messages_done c.args.text.now c.loop-line.number _ _ c.loop-line.sends c.loop-line.replies (lines_of c.loop-line.rest.now) before.faults before.sent before.replied lines)
