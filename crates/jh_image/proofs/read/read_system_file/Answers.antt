-- The system's file can't be read, is too large, or has a fault.
use Rattle.std.proofs.Common.{sym, subst, [], ◌∷◌, rules, arith}
use Rattle.std.proofs.lemmas.Grind.{common_steps}
use Rattle.jh_num.proofs.Public.{passed_up}
use Rattle.jh_outside.specs.Trail.{Asks}
use Rattle.jh_image.specs.declared.fault.ImageCause.TheVariants.{System}
use Rattle.jh_image.specs.Order.{last_ask}
use Rattle.jh_image.specs.Images.{IsNextFile, with_listing, the_system}
use Rattle.jh_image.specs.Causes.{OnRefused, HasCause}
use Rattle.jh_image.specs.Private.Causes.{IsFileRefusal, IsRefusal}
use Rattle.jh_image.proofs.StopLemmas.{on_refusal, on_refused, unread_stops, system_stops}
use Rattle.jh_image.proofs.read.read_system_file.Goals as goal

pub returns-clause-asked_until : goal.returns-clause-asked_until
returns-clause-asked_until g c =
    let name = c.args.listing.now.system in
    let asked = rw c.as_str-name.ensures at c.in_ok-bytes.ensures.asked in
    on_refusal (λ _ cause. Asks g.F.Files c.args.files.now (last_ask cause name ∷ []) c.read_file.new.files) c.as_str-name.result.now (System c.in-Err.fault) c.refused.result c.refused.ensures asked

pub returns-in_err-bytes-clause-err : goal.returns-in_err-bytes-clause-err
returns-in_err-bytes-clause-err g c =
    let contents = g.F.Files.contents c.args.files.now in
    let board = c.args.board.now in
    let name = c.as_str-name.result.now in
    let next : IsNextFile board (with_listing c.args.listing.now) name = subst (λ n. IsNextFile board (with_listing c.args.listing.now) n) (sym c.as_str-name.ensures) (the_system c.args.listing.now) in
    passed_up c.from_residual.result c.in_err-bytes.field-0.0 (λ e. OnRefused (HasCause contents board (with_listing c.args.listing.now)) e) c.from_residual.ensures.1
    (on_refused (IsFileRefusal contents name) (HasCause contents board (with_listing c.args.listing.now)) c.in_err-bytes.field-0.0 (unread_stops contents board name (with_listing c.args.listing.now) next) c.in_err-bytes.ensures.err)

pub returns-clause-err : goal.returns-clause-err
returns-clause-err g c =
    let contents = g.F.Files.contents c.args.files.now in
    let board = c.args.board.now in
    let listing = c.args.listing.now in
    let has = rw c.as_str-name.ensures at c.in_ok-bytes.ensures.ok in
    let refused = rw c.as_str-name.ensures at c.refused.ensures in
    on_refused (IsRefusal listing.system (System c.in-Err.fault)) (HasCause contents board (with_listing c.args.listing.now)) c.refused.result
    (system_stops contents board _ listing c.in-Err.fault has (first_of (search rules, grind (arith, common_steps)))) refused
