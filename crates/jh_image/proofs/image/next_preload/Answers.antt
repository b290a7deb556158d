-- The preload's file can't be read, is too large, or has a fault.
use Rattle.std.proofs.Common.{[], ◌∷◌, rules, arith}
use Rattle.std.proofs.lemmas.Grind.{common_steps}
use Rattle.jh_num.proofs.Public.{passed_up}
use Rattle.jh_outside.specs.Trail.{Asks}
use Rattle.jh_image.specs.declared.fault.ImageCause.TheVariants.{Preload as BadPreload}
use Rattle.jh_image.specs.Order.{last_ask}
use Rattle.jh_image.specs.Causes.{OnRefused}
use Rattle.jh_image.specs.Private.Causes.{IsFileRefusal, IsPreloadCause}
use Rattle.jh_image.proofs.StopLemmas.{on_refusal, on_refused, unread_preload, faulty_preload}
use Rattle.jh_image.proofs.image.next_preload.Goals as goal

pub returns-then-not-is_faultless-clause-asked_until : goal.returns-then-not-is_faultless-clause-asked_until
returns-then-not-is_faultless-clause-asked_until g c =
    on_refusal (λ _ cause. Asks g.F.Files c.args.files.now (last_ask cause c.args.file.now.file ∷ []) c.read_preload.new.files) c.args.board.now (BadPreload _) c.refused.result c.refused.ensures c.in_ok-preload.ensures.asked

pub returns-in_err-preload-clause-err : goal.returns-in_err-preload-clause-err
returns-in_err-preload-clause-err g c =
    let contents = g.F.Files.contents c.args.files.now in
    let board = c.args.board.now in
    let system = c.args.system.now in
    let preloads = c.args.preloads.now in
    let file = c.args.file.now in
    passed_up c.from_residual.result c.in_err-preload.field-0.0 (λ e. OnRefused (IsPreloadCause contents board system preloads file) e) c.from_residual.ensures.1
    (on_refused (IsFileRefusal contents file.file) (IsPreloadCause contents board system preloads file) c.in_err-preload.field-0.0 (unread_preload contents board system preloads file) c.in_err-preload.ensures.err)

pub returns-then-not-is_faultless-clause-err : goal.returns-then-not-is_faultless-clause-err
returns-then-not-is_faultless-clause-err g c =
    let contents = g.F.Files.contents c.args.files.now in
    let board = c.args.board.now in
    let system = c.args.system.now in
    let preloads = c.args.preloads.now in
    on_refusal (IsPreloadCause contents board system preloads c.args.file.now) board (BadPreload _) c.refused.result c.refused.ensures
    (faulty_preload contents board system preloads c.args.file.now c.in_ok-preload.preload _ c.in_ok-preload.ensures.ok (first_of (search rules, grind (arith, common_steps))) (first_of (search rules, grind (arith, common_steps))))
