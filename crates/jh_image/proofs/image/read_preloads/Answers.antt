-- The loop over the preloads' files.
use Rattle.std.proofs.Common.{◌≡◌, ℕ, ◌+◌, ◌<◌, ◌≤◌, List, [], ◌∷◌, length, get_or, take, map, refl, sym, subst, arith}
use Rattle.std.proofs.lemmas.List.{take_all}
use Rattle.jh_num.proofs.Public.{passed_up}
use Rattle.jh_outside.specs.Trail.{Asks, no_ask, AsksAll}
use Rattle.jh_image.specs.Order.{last_ask, preload_name}
use Rattle.jh_outside.proofs.Public.{loop_more}
use Rattle.jh_image.specs.declared.fault.ImageCause.{ImageCause}
use Rattle.jh_image.specs.Images.{with_system, so_far_of, a_preload, IsNextPreload}
use Rattle.jh_image.specs.Causes.{OnRefused}
use Rattle.jh_image.specs.Private.Causes.{IsPreloadCause}
use Rattle.jh_image.specs.Private.Order.{AsksOnUntil}
use Rattle.jh_image.proofs.StopLemmas.{on_both, preload_stops}
use Rattle.jh_image.proofs.OrderLemmas.{read_with_preloads, stops_on_at}
use Rattle.jh_image.proofs.LoadLemmas.{LoadedSoFar, loaded_start, loaded_next, loaded_more, loaded_all}
use Rattle.jh_image.proofs.image.read_preloads.Goals as goal

pub loop-file-init : goal.loop-file-init
loop-file-init g c = record {
  kept = refl;
  rises = omega arith;
  asked = no_ask c.args.files.now;
  so_far = rw c.new-preloads.ensures (loaded_start (g.F.Files.contents c.args.files.now) c.args.board.now c.args.listing.now c.args.system.now c.requires.read);
}

pub loop-file-preserved : goal.loop-file-preserved
loop-file-preserved g c =
    let contents = g.F.Files.contents c.args.files.now in
    let board = c.args.board.now in
    let system = c.args.system.now in
    let listing = c.args.listing.now in
    let i = c.loop-file.file-index in
    let file = c.file-item.result in
    let lt : i < length listing.preloads = rw c.as_slice-items.ensures.value at c.loop-file-test.true in
    let is : file ≡ get_or listing.preloads i file = rw c.as_slice-items.ensures.value at c.file-item.is in
    let of = rw c.loop-file.invariant.kept at c.in_ok-preload.ensures.ok in
    let fit = rw c.as_slice.ensures.value at c.in_ok-preload.ensures.faultless in
    record {
      kept = cc;
      rises = omega arith;
      asked = loop_more preload_name g.F.Files c.args.files.now c.loop-file.files c.next_preload.new.files listing.preloads i file lt is c.loop-file.invariant.asked c.in_ok-preload.ensures.asked;
      so_far = subst (λ ps. LoadedSoFar contents board listing system (i + 1) ps) (sym c.in_ok-push.ensures.ok) (loaded_more contents board listing system i file c.loop-file.preloads c.in_ok-preload.preload lt is of fit c.loop-file.invariant.so_far);
    }

pub returns-in_err-preload-clause-asked_until : goal.returns-in_err-preload-clause-asked_until
returns-in_err-preload-clause-asked_until g c =
    let files = g.F.Files in
    let contents = g.F.Files.contents c.args.files.now in
    let board = c.args.board.now in
    let system = c.args.system.now in
    let listing = c.args.listing.now in
    let preloads = c.loop-file.preloads in
    let so_far = so_far_of listing system preloads [] in
    let i = c.loop-file.file-index in
    let file = c.file-item.result in
    let lt : i < length listing.preloads = rw c.as_slice-items.ensures.value at c.loop-file-test.true in
    let is : file ≡ get_or listing.preloads i file = rw c.as_slice-items.ensures.value at c.file-item.is in
    let loaded = c.loop-file.invariant.so_far in
    let next : IsNextPreload so_far file = loaded_next contents board listing system i file preloads lt is loaded in
    let s = c.args.files.now in
    let t = c.loop-file.files in
    let u = c.next_preload.new.files in
    let before = board ∷ listing.system ∷ [] in
    let At : List ℕ → ImageCause → Type 0 = λ named cause. AsksOnUntil files contents board before named cause s u in
    let unread : OnRefused (IsPreloadCause contents board system preloads file) c.in_err-preload.field-0.0 = rw (c.loop-file.invariant.kept, c.as_slice.ensures.value) at c.in_err-preload.ensures.err in
    passed_up c.from_residual.result c.in_err-preload.field-0.0 (λ e. OnRefused At e) c.from_residual.ensures.1
    (on_both (IsPreloadCause contents board system preloads file) (λ _ cause. Asks files t (last_ask cause file.file ∷ []) u) At c.in_err-preload.field-0.0
    (λ named cause why asked. stops_on_at files contents board before (map preload_name (take i listing.preloads)) s t u (with_system so_far) file.file named cause loaded.read (a_preload so_far file next)
    (read_with_preloads board listing system preloads i loaded.count_is) c.loop-file.invariant.asked (preload_stops contents board so_far file next named cause why) asked)
    unread c.in_err-preload.ensures.asked_until)

pub returns-clause-asked : goal.returns-clause-asked
returns-clause-asked g c =
    let files = c.args.listing.now.preloads in
    let le : length files ≤ c.loop-file.file-index = rw c.as_slice-items.ensures.value at c.loop-file-test.false in
    subst (λ fs. AsksAll g.F.Files (map preload_name fs) c.args.files.now c.loop-file.files) (take_all c.loop-file.file-index files le) c.loop-file.invariant.asked

pub returns-clause-all : goal.returns-clause-all
returns-clause-all g c =
    let listing = c.args.listing.now in
    let le : length listing.preloads ≤ c.loop-file.file-index = rw c.as_slice-items.ensures.value at c.loop-file-test.false in
    loaded_all (g.F.Files.contents c.args.files.now) c.args.board.now listing c.args.system.now c.loop-file.file-index c.loop-file.preloads le c.loop-file.invariant.so_far
