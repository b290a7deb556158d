-- The system is admitted, or isn't.
use Rattle.jh_num.proofs.Public.{passed_up}
use Rattle.jh_image.specs.Causes.{OnRefused, HasCause}
use Rattle.jh_image.specs.Images.{with_listing}
use Rattle.jh_image.specs.Private.Causes.{IsUnadmitted}
use Rattle.jh_image.proofs.StopLemmas.{on_refused, system_read, unsound_stops}
use Rattle.jh_image.proofs.image.read_admitted.Goals as goal

pub returns-in_err-check_system-clause-err : goal.returns-in_err-check_system-clause-err
returns-in_err-check_system-clause-err g c =
    let contents = g.F.Files.contents c.args.files.now in
    let board = c.args.board.now in
    let listing = c.args.listing.now in
    let unsound = rw c.as_str.ensures at c.in_err-check_system.ensures.err in
    passed_up c.from_residual-in_err-check_system.result c.in_err-check_system.field-0.0 (λ e. OnRefused (HasCause contents board (with_listing listing)) e) c.from_residual-in_err-check_system.ensures.1
    (on_refused (IsUnadmitted board listing.system c.in_ok-system.system) (HasCause contents board (with_listing listing)) c.in_err-check_system.field-0.0
    (unsound_stops contents board listing c.in_ok-system.system c.in_ok-system.ensures.ok) unsound)

pub returns-clause-ok : goal.returns-clause-ok
returns-clause-ok g c =
    system_read (g.F.Files.contents c.args.files.now) c.args.board.now c.args.listing.now c.in_ok-system.system c.requires c.in_ok-system.ensures.ok c.in_ok-check_system.ensures.ok
