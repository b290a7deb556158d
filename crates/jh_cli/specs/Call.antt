-- What a call says of its status, of the files that it reads and of the sink. Each call of the program has this one
-- definition (`IsCall`) as its contract, so it holds of all of them alike.
use Rattle.std.specs.Prelude.{◌≡◌, ◌≢◌, ◌⊎◌, Option}
use Rattle.jh_outside.specs.Count.{Rose}
use Rattle.jh_outside.specs.declared.files.Files as files_told
use Rattle.jh_outside.specs.declared.sink.Sink as sink_told
use Rattle.jh_outside.specs.Writes.{Appended}
use Rattle.jh_cli.specs.Words.{Request}
use Rattle.jh_cli.specs.Lines.{fault_line}
use Rattle.jh_cli.specs.Reading.{Reply, IsCountedFault}
use Rattle.jh_cli.specs.Order.{AsksFor}
use Rattle.jh_cli.specs.Outcome.{Outcome, Sent}
use Rattle.jh_cli.specs.Complete.{AreGood, MayEndWith}
use Rattle.jh_cli.specs.declared.status.Status.{Status}
use Rattle.jh_cli.specs.declared.status.Status.TheVariants.{ReadFault, WriteFault, NoMemory}

-- `S` are the states of the files, and `files` is what they tell
module _ {S : Type 0} (files : files_told.Ghosts S) where
  -- the reply is an outcome of the request; the files that the request names, and those that a board lists, are read for
  -- it in their order, each once and no other, up to the one where the call ends; and that a file can't be read is told
  -- only where the count rose, of the read that failed
  pub record IsReplyTo (request : Option Request) (s t : S) (reply : Reply) : Type 0 where
    pub outcome : Outcome (files.contents s) request reply
    pub read : AsksFor files s t (files.contents s) request reply
    pub counted : IsCountedFault (files.faults s) (files.faults t) (files.failed t) reply

-- `K` are the states of the sink, and `sink` is what it tells
module _ {S K : Type 0} (files : files_told.Ghosts S) (sink : sink_told.Ghosts K) where
  -- the call ends with a reply that was sent, whole or a proper front of it, or with want of memory and nothing written
  abbrev pub Ends : Option Request → S → S → K → K → Status → Type 0
  Ends request s t k l status =
      ((status ≡ NoMemory) × (sink.written l ≡ sink.written k))
      ⊎ ((reply : Reply) × IsReplyTo files request s t reply × Sent (sink.written k) (sink.written l) reply status)

  -- what a call with this request is: it takes the files from `s` to `t` and the sink from `k` to `l`
  pub record IsCall (request : Option Request) (s t : S) (k l : K) (status : Status) : Type 0 where
    -- the status, and what was appended, are those of an outcome of the request
    pub ends : Ends request s t k l status
    -- a fault of reading or writing comes only where its count rose in this call, and that of reading with the line of the
    -- read that failed
    pub read_fault : status ≡ ReadFault → Rose (files.faults s) (files.faults t) × Appended (sink.written k) (sink.written l) (fault_line (files.failed t))
    pub write_fault : status ≡ WriteFault → Rose (sink.faults k) (sink.faults l)
    -- with any other status but want of memory the name of the failed read is what it was
    pub unfailed : status ≢ ReadFault → status ≢ WriteFault → status ≢ NoMemory → files.failed t ≡ files.failed s
    -- good words and files give the command's answer or want of memory, unless a count rose in this call
    pub complete : (good : AreGood (files.contents s) request)
        → MayEndWith (files.contents s) request good status
        ⊎ (status ≡ NoMemory) ⊎ Rose (files.faults s) (files.faults t) ⊎ Rose (sink.faults k) (sink.faults l)
