-- What the sink takes from the front of the rest makes the front that was sent longer.
use Rattle.std.proofs.Common.{◌≤◌, ◌+◌, ◌-◌, ℕ, List, length, take, drop, ap, ◌∙◌, length-drop, length-take, arith, Option}
use Rattle.std.proofs.lemmas.List.{take_rest}
use Rattle.std.specs.Io.KnownBytes.{append_known}
use Rattle.jh_outside.specs.Writes.{Appended}
use Rattle.jh_outside.proofs.CallerLemmas.{front_further}
use Rattle.jh_outside.proofs.whole.write_all.Goals as goal

within_rest : (text : List ℕ) (sent count : ℕ) → sent ≤ length text → count ≤ length (take (length text - sent) (drop sent text)) → sent + count ≤ length text
within_rest text sent count h k = omega (arith, length-take (length text - sent) (drop sent text), length-drop sent text)

of_rest : (a b : Option (List ℕ)) (text : List ℕ) (sent count : ℕ) → Appended a b (take count (take (length text - sent) (drop sent text))) → Appended a b (take count (drop sent text))
of_rest a b text sent count h = h ∙ ap (λ rest. append_known a (take count rest)) (take_rest text sent)

pub loop-sent-preserved : goal.loop-sent-preserved
loop-sent-preserved g c = (
  within_rest _ _ _ c.loop-sent.invariant.0 c.in_ok-sent.ensures.within,
  front_further _ _ _ _ _ _ c.loop-sent.invariant.1 (of_rest _ _ c.args.text.now c.loop-sent.sent _ c.in_ok-sent.ensures.appended),
  omega (arith, c.loop-sent.invariant.2, c.in_ok-sent.ensures.never_falls),
)
