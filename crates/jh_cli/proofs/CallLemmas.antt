-- What a call is, by what was told and what was sent.
use Rattle.std.proofs.Common.{◌≡◌, ◌≢◌, Option, Result, Ok, Err, inl, inr, refl, sym, ◌∙◌, ap, arith}
use Rattle.jh_outside.specs.Count.{Rose}
use Rattle.jh_outside.specs.declared.files.Files as files_told
use Rattle.jh_outside.specs.declared.sink.Sink as sink_told
use Rattle.jh_cli.specs.declared.status.Status.{Status}
use Rattle.jh_cli.specs.declared.status.Status.TheVariants.{ReadFault, WriteFault, NoMemory}
use Rattle.jh_cli.specs.declared.ending.Ending.{Ending}
use Rattle.jh_cli.specs.declared.ending.CallFault.{CallFault}
use Rattle.jh_cli.specs.declared.ending.CallFault.TheVariants as stop
use Rattle.jh_cli.specs.Words.{Request}
use Rattle.jh_cli.specs.Lines.{exit_number}
use Rattle.jh_image.specs.Files.{Contents}
use Rattle.jh_cli.specs.Reading.{Reply, IsCountedFault}
use Rattle.jh_cli.specs.Private.Endings.{reply_of, OnEnding}
use Rattle.jh_cli.specs.Order.{AsksFor}
use Rattle.jh_cli.specs.Outcome.{Outcome, Sent}
use Rattle.jh_cli.specs.Complete.{AreGood, MayEndWith}
use Rattle.jh_cli.specs.Call.{IsReplyTo, IsCall}
use Rattle.jh_cli.proofs.GoodLemmas.{answered_or_rose, unread, reply_read, IsAnswered}
use Rattle.jh_cli.proofs.OrderLemmas.{call_keeps}
use Rattle.jh_cli.proofs.StatusLemmas.{outcome_other}

-- good words and files are answered
abbrev pub GoodAreAnswered : Type 0
GoodAreAnswered = (contents : Contents) (request : Option Request) (reply : Reply) (good : AreGood contents request) → Outcome contents request reply → IsAnswered (MayEndWith contents request good) reply

-- two statuses with different numbers
differ : (status one other : Status) → status ≡ one → status ≡ other → exit_number one ≢ exit_number other → ⊥
differ status one other is also apart = apart (ap exit_number (sym is ∙ also))

module _ {S K : Type 0} (files : files_told.Ghosts S) (sink : sink_told.Ghosts K) where
  -- what was told was sent, or a proper front of it
  told_call : GoodAreAnswered → (request : Option Request) (s t : S) (k l : K) (reply : Reply) (status : Status) → IsReplyTo files request s t reply
      → Sent (sink.written k) (sink.written l) reply status → (status ≡ WriteFault → reply.status ≢ WriteFault → Rose (sink.faults k) (sink.faults l))
      → IsCall files sink request s t k l status
  told_call answered request s t k l reply status says sent fault =
      let rose : status ≡ WriteFault → Rose (sink.faults k) (sink.faults l) = λ is. fault is (outcome_other (files.contents s) request reply says.outcome) in
      record {
        ends = inr (reply, says, sent);
        read_fault = unread (files.faults s) (files.faults t) (files.failed t) (sink.written k) (sink.written l) reply status says.counted sent;
        write_fault = rose;
        unfailed = λ read wrote wanted. call_keeps files (files.contents s) request s t reply says.read (reply_read (sink.written k) (sink.written l) reply status sent read wrote);
        complete = λ good. answered_or_rose (MayEndWith (files.contents s) request good) (files.faults s) (files.faults t) (sink.faults k) (sink.faults l) (files.failed t) (sink.written k) (sink.written l) reply status
            (answered (files.contents s) request reply good says.outcome) says.counted sent rose;
      }

  -- memory was wanted, and nothing is written
  no_call : (request : Option Request) (s t : S) (k l : K) (status : Status) → status ≡ NoMemory → sink.written l ≡ sink.written k → IsCall files sink request s t k l status
  no_call request s t k l status is same = record {
    ends = inl (is, same);
    read_fault = λ also. absurd (differ status NoMemory ReadFault is also (omega arith));
    write_fault = λ also. absurd (differ status NoMemory WriteFault is also (omega arith));
    unfailed = λ read wrote wanted. absurd (wanted is);
    complete = λ good. inr (inl is);
  }

  -- what a command told, or where it ended, was sent
  pub finished_call : GoodAreAnswered → (request : Option Request) (s t : S) (k l : K) (r : Result Ending CallFault) (status : Status)
      → OnEnding r (Outcome (files.contents s) request) → OnEnding r (IsCountedFault (files.faults s) (files.faults t) (files.failed t)) → OnEnding r (AsksFor files s t (files.contents s) request)
      → OnEnding r (λ reply. Sent (sink.written k) (sink.written l) reply status) → OnEnding r (λ reply. status ≡ WriteFault → reply.status ≢ WriteFault → Rose (sink.faults k) (sink.faults l))
      → (r ≡ Err stop.NoMemory → (status ≡ NoMemory) × (sink.written l ≡ sink.written k))
      → IsCall files sink request s t k l status
  finished_call answered request s t k l (Ok ending) status outcome counted read sent fault memory =
      told_call answered request s t k l (reply_of ending) status (record { outcome = outcome; read = read; counted = counted }) sent fault
  finished_call answered request s t k l (Err (stop.Ended ending)) status outcome counted read sent fault memory =
      told_call answered request s t k l (reply_of ending) status (record { outcome = outcome; read = read; counted = counted }) sent fault
  finished_call answered request s t k l (Err stop.NoMemory) status outcome counted read sent fault memory =
      let wanted = memory refl in
      no_call request s t k l status wanted.0 wanted.1
