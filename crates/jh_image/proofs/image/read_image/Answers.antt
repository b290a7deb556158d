-- Which files were read, and where the reading stops.
use Rattle.std.proofs.Common.{◌≡◌, [], ◌∷◌, map, sym, ◌∙◌, subst}
use Rattle.jh_num.proofs.Public.{passed_up}
use Rattle.jh_outside.specs.Trail.{Asks, no_ask}
use Rattle.jh_image.specs.Images.{nothing, with_listing, the_board, the_system, ReadsTo, nothing_read}
use Rattle.jh_image.specs.Causes.{HasCause, OnRefused}
use Rattle.jh_image.specs.Order.{last_ask, preload_name, AsksBoardUntil}
use Rattle.jh_image.specs.Private.Order.{AsksOnUntil}
use Rattle.jh_image.proofs.OrderLemmas.{stops_at, stops_behind, until_answers, to_the_system, to_the_preloads, to_the_programs}
use Rattle.jh_image.proofs.StopLemmas.{on_refused, on_both, board_read}
use Rattle.jh_image.proofs.image.read_image.Goals as goal

pub read_admitted-requires : goal.read_admitted-requires
read_admitted-requires g c =
    let contents = g.F.Files.contents c.args.files.now in
    let board = c.args.name.now in
    let listing = c.in_ok-listing.listing in
    subst (λ told. ReadsTo told board (with_listing listing)) (sym c.read_listing.ensures.kept) (board_read contents board listing c.in_ok-listing.ensures.ok)

pub returns-in_err-listing-clause-asked_until : goal.returns-in_err-listing-clause-asked_until
returns-in_err-listing-clause-asked_until g c =
    let files = g.F.Files in
    let contents = g.F.Files.contents c.args.files.now in
    let board = c.args.name.now in
    let s = c.args.files.now in
    let u = c.read_listing.new.files in
    let until : OnRefused (λ file cause. AsksBoardUntil files contents board file cause s u) c.in_err-listing.field-0.0 =
    on_both (HasCause contents board nothing) (λ _ cause. Asks files s (last_ask cause board ∷ []) u) (λ file cause. AsksBoardUntil files contents board file cause s u) c.in_err-listing.field-0.0
    (λ file cause stops asked. stops_at files contents board s s u nothing board file cause nothing_read the_board (no_ask s) stops asked) c.in_err-listing.ensures.err c.in_err-listing.ensures.asked_until in
    passed_up c.from_residual.result c.in_err-listing.field-0.0 (λ e. OnRefused (λ file cause. AsksBoardUntil files contents board file cause s u) e) c.from_residual.ensures.1 until

pub returns-in_err-listing-clause-answers : goal.returns-in_err-listing-clause-answers
returns-in_err-listing-clause-answers g c =
    let files = g.F.Files in
    let contents = g.F.Files.contents c.args.files.now in
    let board = c.args.name.now in
    let s = c.args.files.now in
    let u = c.read_listing.new.files in
    let until : OnRefused (λ file cause. AsksBoardUntil files contents board file cause s u) c.in_err-listing.field-0.0 =
    on_both (HasCause contents board nothing) (λ _ cause. Asks files s (last_ask cause board ∷ []) u) (λ file cause. AsksBoardUntil files contents board file cause s u) c.in_err-listing.field-0.0
    (λ file cause stops asked. stops_at files contents board s s u nothing board file cause nothing_read the_board (no_ask s) stops asked) c.in_err-listing.ensures.err c.in_err-listing.ensures.asked_until in
    until_answers files contents board s u c.from_residual.result c.in_err-listing.field-0.0 c.from_residual.ensures.1 until

pub returns-in_err-system-clause-asked_until : goal.returns-in_err-system-clause-asked_until
returns-in_err-system-clause-asked_until g c =
    let files = g.F.Files in
    let contents = g.F.Files.contents c.args.files.now in
    let board = c.args.name.now in
    let s = c.args.files.now in
    let listing = c.in_ok-listing.listing in
    let t = c.read_listing.new.files in
    let u = c.read_admitted.new.files in
    let read = board_read contents board listing c.in_ok-listing.ensures.ok in
    let why : OnRefused (HasCause contents board (with_listing listing)) c.in_err-system.field-0.0 = rw c.read_listing.ensures.kept at c.in_err-system.ensures.err in
    let until : OnRefused (λ file cause. AsksBoardUntil files contents board file cause s u) c.in_err-system.field-0.0 =
    on_both (HasCause contents board (with_listing listing)) (λ _ cause. Asks files t (last_ask cause listing.system ∷ []) u) (λ file cause. AsksBoardUntil files contents board file cause s u) c.in_err-system.field-0.0
    (λ file cause stops asked. stops_at files contents board s t u (with_listing listing) listing.system file cause read (the_system listing) c.in_ok-listing.ensures.asked stops asked) why c.in_err-system.ensures.asked_until in
    passed_up c.from_residual-in_err-system.result c.in_err-system.field-0.0 (λ e. OnRefused (λ file cause. AsksBoardUntil files contents board file cause s u) e) c.from_residual-in_err-system.ensures.1 until

pub returns-in_err-system-clause-answers : goal.returns-in_err-system-clause-answers
returns-in_err-system-clause-answers g c =
    let files = g.F.Files in
    let contents = g.F.Files.contents c.args.files.now in
    let board = c.args.name.now in
    let s = c.args.files.now in
    let listing = c.in_ok-listing.listing in
    let t = c.read_listing.new.files in
    let u = c.read_admitted.new.files in
    let read = board_read contents board listing c.in_ok-listing.ensures.ok in
    let why : OnRefused (HasCause contents board (with_listing listing)) c.in_err-system.field-0.0 = rw c.read_listing.ensures.kept at c.in_err-system.ensures.err in
    let until : OnRefused (λ file cause. AsksBoardUntil files contents board file cause s u) c.in_err-system.field-0.0 =
    on_both (HasCause contents board (with_listing listing)) (λ _ cause. Asks files t (last_ask cause listing.system ∷ []) u) (λ file cause. AsksBoardUntil files contents board file cause s u) c.in_err-system.field-0.0
    (λ file cause stops asked. stops_at files contents board s t u (with_listing listing) listing.system file cause read (the_system listing) c.in_ok-listing.ensures.asked stops asked) why c.in_err-system.ensures.asked_until in
    until_answers files contents board s u c.from_residual-in_err-system.result c.in_err-system.field-0.0 c.from_residual-in_err-system.ensures.1 until

pub returns-in_err-preloads-clause-asked_until : goal.returns-in_err-preloads-clause-asked_until
returns-in_err-preloads-clause-asked_until g c =
    let files = g.F.Files in
    let contents = g.F.Files.contents c.args.files.now in
    let board = c.args.name.now in
    let s = c.args.files.now in
    let listing = c.in_ok-listing.listing in
    let t = c.read_admitted.new.files in
    let u = c.read_preloads.new.files in
    let before = board ∷ listing.system ∷ [] in
    let first = to_the_system files contents board listing s c.read_listing.new.files c.read_admitted.new.files c.in_ok-listing.ensures.asked c.in_ok-system.ensures.asked in
    let same : g.F.Files.contents t ≡ contents = c.read_admitted.ensures.kept ∙ c.read_listing.ensures.kept in
    let on : OnRefused (λ file cause. AsksOnUntil files contents board before file cause t u) c.in_err-preloads.field-0.0 = rw same at c.in_err-preloads.ensures.asked_until in
    let until : OnRefused (λ file cause. AsksBoardUntil files contents board file cause s u) c.in_err-preloads.field-0.0 =
    on_refused (λ file cause. AsksOnUntil files contents board before file cause t u) (λ file cause. AsksBoardUntil files contents board file cause s u) c.in_err-preloads.field-0.0
    (stops_behind files contents board before s t u first) on in
    passed_up c.from_residual-in_err-preloads.result c.in_err-preloads.field-0.0 (λ e. OnRefused (λ file cause. AsksBoardUntil files contents board file cause s u) e) c.from_residual-in_err-preloads.ensures.1 until

pub returns-in_err-preloads-clause-answers : goal.returns-in_err-preloads-clause-answers
returns-in_err-preloads-clause-answers g c =
    let files = g.F.Files in
    let contents = g.F.Files.contents c.args.files.now in
    let board = c.args.name.now in
    let s = c.args.files.now in
    let listing = c.in_ok-listing.listing in
    let t = c.read_admitted.new.files in
    let u = c.read_preloads.new.files in
    let before = board ∷ listing.system ∷ [] in
    let first = to_the_system files contents board listing s c.read_listing.new.files c.read_admitted.new.files c.in_ok-listing.ensures.asked c.in_ok-system.ensures.asked in
    let same : g.F.Files.contents t ≡ contents = c.read_admitted.ensures.kept ∙ c.read_listing.ensures.kept in
    let on : OnRefused (λ file cause. AsksOnUntil files contents board before file cause t u) c.in_err-preloads.field-0.0 = rw same at c.in_err-preloads.ensures.asked_until in
    let until : OnRefused (λ file cause. AsksBoardUntil files contents board file cause s u) c.in_err-preloads.field-0.0 =
    on_refused (λ file cause. AsksOnUntil files contents board before file cause t u) (λ file cause. AsksBoardUntil files contents board file cause s u) c.in_err-preloads.field-0.0
    (stops_behind files contents board before s t u first) on in
    until_answers files contents board s u c.from_residual-in_err-preloads.result c.in_err-preloads.field-0.0 c.from_residual-in_err-preloads.ensures.1 until

pub returns-in_err-programs-clause-asked_until : goal.returns-in_err-programs-clause-asked_until
returns-in_err-programs-clause-asked_until g c =
    let files = g.F.Files in
    let contents = g.F.Files.contents c.args.files.now in
    let board = c.args.name.now in
    let s = c.args.files.now in
    let listing = c.in_ok-listing.listing in
    let t = c.read_preloads.new.files in
    let u = c.read_programs.new.files in
    let before = board ∷ listing.system ∷ map preload_name listing.preloads in
    let first = to_the_system files contents board listing s c.read_listing.new.files c.read_admitted.new.files c.in_ok-listing.ensures.asked c.in_ok-system.ensures.asked in
    let loaded = to_the_preloads files contents board listing s c.read_admitted.new.files t first c.in_ok-preloads.ensures.asked in
    let same : g.F.Files.contents t ≡ contents = c.read_preloads.ensures.kept ∙ c.read_admitted.ensures.kept ∙ c.read_listing.ensures.kept in
    let on : OnRefused (λ file cause. AsksOnUntil files contents board before file cause t u) c.in_err-programs.field-0.0 = rw same at c.in_err-programs.ensures.asked_until in
    let until : OnRefused (λ file cause. AsksBoardUntil files contents board file cause s u) c.in_err-programs.field-0.0 =
    on_refused (λ file cause. AsksOnUntil files contents board before file cause t u) (λ file cause. AsksBoardUntil files contents board file cause s u) c.in_err-programs.field-0.0
    (stops_behind files contents board before s t u loaded) on in
    passed_up c.from_residual-in_err-programs.result c.in_err-programs.field-0.0 (λ e. OnRefused (λ file cause. AsksBoardUntil files contents board file cause s u) e) c.from_residual-in_err-programs.ensures.1 until

pub returns-in_err-programs-clause-answers : goal.returns-in_err-programs-clause-answers
returns-in_err-programs-clause-answers g c =
    let files = g.F.Files in
    let contents = g.F.Files.contents c.args.files.now in
    let board = c.args.name.now in
    let s = c.args.files.now in
    let listing = c.in_ok-listing.listing in
    let t = c.read_preloads.new.files in
    let u = c.read_programs.new.files in
    let before = board ∷ listing.system ∷ map preload_name listing.preloads in
    let first = to_the_system files contents board listing s c.read_listing.new.files c.read_admitted.new.files c.in_ok-listing.ensures.asked c.in_ok-system.ensures.asked in
    let loaded = to_the_preloads files contents board listing s c.read_admitted.new.files t first c.in_ok-preloads.ensures.asked in
    let same : g.F.Files.contents t ≡ contents = c.read_preloads.ensures.kept ∙ c.read_admitted.ensures.kept ∙ c.read_listing.ensures.kept in
    let on : OnRefused (λ file cause. AsksOnUntil files contents board before file cause t u) c.in_err-programs.field-0.0 = rw same at c.in_err-programs.ensures.asked_until in
    let until : OnRefused (λ file cause. AsksBoardUntil files contents board file cause s u) c.in_err-programs.field-0.0 =
    on_refused (λ file cause. AsksOnUntil files contents board before file cause t u) (λ file cause. AsksBoardUntil files contents board file cause s u) c.in_err-programs.field-0.0
    (stops_behind files contents board before s t u loaded) on in
    until_answers files contents board s u c.from_residual-in_err-programs.result c.in_err-programs.field-0.0 c.from_residual-in_err-programs.ensures.1 until

pub returns-clause-asked : goal.returns-clause-asked
returns-clause-asked g c =
    let files = g.F.Files in
    let contents = g.F.Files.contents c.args.files.now in
    let board = c.args.name.now in
    let listing = c.in_ok-listing.listing in
    let lists = c.in_ok-listing.ensures.ok in
    let s = c.args.files.now in
    let u = c.read_programs.new.files in
    let first = to_the_system files contents board listing s c.read_listing.new.files c.read_admitted.new.files c.in_ok-listing.ensures.asked c.in_ok-system.ensures.asked in
    let loaded = to_the_preloads files contents board listing s c.read_admitted.new.files c.read_preloads.new.files first c.in_ok-preloads.ensures.asked in
    record { listing = listing; lists = lists; all = to_the_programs files contents board listing s c.read_preloads.new.files u loaded c.in_ok-programs.ensures.asked }
