-- The loop over the programs' files.
use Rattle.std.proofs.Common.{◌≡◌, ℕ, ◌+◌, ◌<◌, ◌≤◌, List, [], ◌∷◌, length, get_or, take, map, refl, sym, subst, arith}
use Rattle.std.proofs.lemmas.List.{take_all}
use Rattle.jh_num.proofs.Public.{passed_up}
use Rattle.jh_outside.specs.Trail.{Asks, no_ask, AsksAll}
use Rattle.jh_outside.proofs.Public.{loop_more}
use Rattle.jh_image.specs.declared.fault.ImageCause.{ImageCause}
use Rattle.jh_image.specs.Images.{with_system, so_far_of, a_program, IsNextProgram}
use Rattle.jh_image.specs.Causes.{OnRefused}
use Rattle.jh_image.specs.Order.{last_ask, preload_name, program_name}
use Rattle.jh_image.specs.Private.Causes.{IsProgramCause}
use Rattle.jh_image.specs.Private.Order.{AsksOnUntil}
use Rattle.jh_image.proofs.StopLemmas.{on_both, program_stops}
use Rattle.jh_image.proofs.OrderLemmas.{read_with_programs, stops_on_at}
use Rattle.jh_image.proofs.LoadLemmas.{ProgramsSoFar, programs_start, programs_more, programs_next, programs_all, programs_owned}
use Rattle.jh_image.proofs.image.read_programs.Goals as goal

pub loop-file-init : goal.loop-file-init
loop-file-init g c = record {
  kept = refl;
  rises = omega arith;
  asked = no_ask c.args.files.now;
  so_far = rw c.new-programs.ensures (programs_start (g.F.Files.contents c.args.files.now) c.args.board.now c.args.listing.now c.args.system.now c.args.preloads.now c.requires.read);
}

pub loop-file-preserved : goal.loop-file-preserved
loop-file-preserved g c =
    let contents = g.F.Files.contents c.args.files.now in
    let board = c.args.board.now in
    let listing = c.args.listing.now in
    let system = c.args.system.now in
    let preloads = c.args.preloads.now in
    let i = c.loop-file.file-index in
    let file = c.file-item.result in
    let lt : i < length listing.programs = rw c.as_slice-items.ensures.value at c.loop-file-test.true in
    let is : file ≡ get_or listing.programs i file = rw c.as_slice-items.ensures.value at c.file-item.is in
    let of = rw c.loop-file.invariant.kept at c.in_ok-program.ensures.ok in
    record {
      kept = cc;
      rises = omega arith;
      asked = loop_more program_name g.F.Files c.args.files.now c.loop-file.files c.read_program_file.new.files listing.programs i file lt is c.loop-file.invariant.asked c.in_ok-program.ensures.asked;
      so_far = subst (λ ps. ProgramsSoFar contents board listing system preloads (i + 1) ps) (sym c.in_ok-push.ensures.ok) (programs_more contents board listing system preloads i file c.loop-file.programs c.in_ok-program.program c.requires.all lt is of c.in_ok-program.ensures.sound c.loop-file.invariant.so_far);
    }

pub returns-clause-owned : goal.returns-clause-owned
returns-clause-owned g c =
    let listing = c.args.listing.now in
    let le : length listing.programs ≤ c.loop-file.file-index = rw c.as_slice-items.ensures.value at c.loop-file-test.false in
    programs_owned (g.F.Files.contents c.args.files.now) c.args.board.now listing c.args.system.now c.args.preloads.now c.loop-file.file-index c.loop-file.programs le c.requires.distinct c.loop-file.invariant.so_far

pub returns-in_err-program-clause-asked_until : goal.returns-in_err-program-clause-asked_until
returns-in_err-program-clause-asked_until g c =
    let files = g.F.Files in
    let contents = g.F.Files.contents c.args.files.now in
    let board = c.args.board.now in
    let system = c.args.system.now in
    let listing = c.args.listing.now in
    let preloads = c.args.preloads.now in
    let programs = c.loop-file.programs in
    let so_far = so_far_of listing system preloads programs in
    let i = c.loop-file.file-index in
    let file = c.file-item.result in
    let lt : i < length listing.programs = rw c.as_slice-items.ensures.value at c.loop-file-test.true in
    let is : file ≡ get_or listing.programs i file = rw c.as_slice-items.ensures.value at c.file-item.is in
    let loaded = c.loop-file.invariant.so_far in
    let next : IsNextProgram so_far file = programs_next contents board listing system preloads i file programs c.requires.all lt is loaded in
    let s = c.args.files.now in
    let t = c.loop-file.files in
    let u = c.read_program_file.new.files in
    let before = board ∷ listing.system ∷ map preload_name listing.preloads in
    let At : List ℕ → ImageCause → Type 0 = λ named cause. AsksOnUntil files contents board before named cause s u in
    let unread : OnRefused (IsProgramCause contents file.file) c.in_err-program.field-0.0 = rw c.loop-file.invariant.kept at c.in_err-program.ensures.err in
    passed_up c.from_residual.result c.in_err-program.field-0.0 (λ e. OnRefused At e) c.from_residual.ensures.1
    (on_both (IsProgramCause contents file.file) (λ _ cause. Asks files t (last_ask cause file.file ∷ []) u) At c.in_err-program.field-0.0
    (λ named cause why asked. stops_on_at files contents board before (map program_name (take i listing.programs)) s t u (with_system so_far) file.file named cause loaded.read (a_program so_far file next)
    (read_with_programs board listing system preloads programs i c.requires.all loaded.count_is) c.loop-file.invariant.asked (program_stops contents board so_far file next named cause why) asked)
    unread c.in_err-program.ensures.asked_until)

pub returns-clause-asked : goal.returns-clause-asked
returns-clause-asked g c =
    let files = c.args.listing.now.programs in
    let le : length files ≤ c.loop-file.file-index = rw c.as_slice-items.ensures.value at c.loop-file-test.false in
    subst (λ fs. AsksAll g.F.Files (map program_name fs) c.args.files.now c.loop-file.files) (take_all c.loop-file.file-index files le) c.loop-file.invariant.asked

pub returns-clause-complete : goal.returns-clause-complete
returns-clause-complete g c =
    let listing = c.args.listing.now in
    let le : length listing.programs ≤ c.loop-file.file-index = rw c.as_slice-items.ensures.value at c.loop-file-test.false in
    programs_all (g.F.Files.contents c.args.files.now) c.args.board.now listing c.args.system.now c.args.preloads.now c.loop-file.file-index c.loop-file.programs c.requires.all le c.loop-file.invariant.so_far
