-- The journal's text has a fault, and the call ends there.
use Rattle.std.proofs.Common.{ℕ, List, Err, refl, subst}
use Rattle.jh_text.specs.declared.fault.JournalFault.TheVariants.{NoMemory}
use Rattle.jh_text.specs.FaultText.{journal_fault_text}
use Rattle.jh_cli.specs.Lines.{refusal_line}
use Rattle.jh_cli.proofs.OrderLemmas.{refuses_one}
use Rattle.jh_cli.proofs.JournalLemmas.{IsTrueFault, is_fault, ends_there, no_fault_there}
use Rattle.jh_cli.proofs.audit.judge.Goals as goal

pub returns : goal.returns
returns g c =
    let text = c.in_ok-bytes.bytes in
    let fault = c.in-Err.fault in
    let first : IsTrueFault text fault =
    subst (λ (t : List ℕ). IsTrueFault t fault) c.as_slice.ensures.value (is_fault c.as_slice.result.now fault (Err fault) (Err NoMemory) refl refl c.in-Err.ensures.line c.in-Err.ensures.too_long) in
    record {
      ok = tt;
      err = ends_there (g.F.Files.contents c.args.files.now) c.args.name.now text fault first c.in_ok-bytes.ensures.ok c.in_ok-bytes.ensures.within c.unread.result c.unread.ensures.told c.unread.ensures.memory;
      counted = no_fault_there (g.F.Files.faults c.args.files.now) (g.F.Files.faults c.read_below.new.files) (g.F.Files.failed c.read_below.new.files) c.args.name.now fault c.unread.result c.unread.ensures.told;
      asked = tt;
      asked_until = refuses_one g.F.Files c.args.name.now (refusal_line c.args.name.now (journal_fault_text fault)) c.args.files.now c.read_below.new.files c.unread.result c.in_ok-bytes.ensures.asked c.unread.ensures.told;
    }
