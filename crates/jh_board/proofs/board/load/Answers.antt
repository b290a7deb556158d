-- Zeros at first, and all preloads at the end.
use Rattle.std.proofs.Common.{ℕ, List, [], ap, ◌∙◌}
use Rattle.std.specs.Prelude.{fold}
use Rattle.std.proofs.lemmas.List.{take_all}
use Rattle.jh_script.specs.declared.image.Preload.{Preload}
use Rattle.jh_history.specs.Admitted.{IsSoundPreload}
use Rattle.jh_history.specs.Bytes.{preloaded}
use Rattle.jh_history.specs.declared.place.Place.TheVariants.{Physical, Page}
use Rattle.jh_num.specs.Memory.{stored}
use Rattle.jh_board.specs.Pages.{byte_of}
use Rattle.jh_board.proofs.TablesLemmas.{stage_kept}
use Rattle.jh_board.proofs.MeansLemmas.{loaded_bytes, loaded_more, preload_at, preload_storable}
use Rattle.jh_board.proofs.board.load.Goals as goal

pub loop-preload-init : goal.loop-preload-init
loop-preload-init c = record {
  bytes = λ q. c.in_ok-memory.ensures.bytes (Physical q);
  comms = λ cell offset. c.in_ok-memory.ensures.bytes (Page cell offset);
  stage = c.in_ok-memory.ensures.stage;
}

pub store-requires : goal.store-requires
store-requires c =
    let image = c.args.image.now in
    let preload : Preload = c.preload-item.result in
    let sound : IsSoundPreload image.system.platform.hypervisor_memory preload =
    preload_at image c.as_slice-preload-items.result.now c.loop-preload.preload-index preload c.requires.admitted c.as_slice-preload-items.ensures.value c.loop-preload-test.true c.preload-item.is in
    let storable = preload_storable image c.loop-preload.memory preload c.as_slice.result.now c.loop-preload.invariant.stage.inside sound c.as_slice.ensures.value in
    record { below = storable.below; beside = storable.beside }

pub loop-preload-preserved : goal.loop-preload-preserved
loop-preload-preserved c =
    let memory = c.loop-preload.memory in
    let new = c.store.new.self in
    record {
      bytes = λ q.
          loaded_more c.as_slice-preload-items.result.now c.loop-preload.preload-index c.preload-item.result (λ p. byte_of memory (Physical p)) (λ p. byte_of new (Physical p)) c.loop-preload-test.true c.preload-item.is c.loop-preload.invariant.bytes
          (λ p. c.in_ok-store.ensures.bytes p ∙ ap (λ (bytes : List ℕ). stored (λ y. byte_of memory (Physical y)) c.preload-item.result.at bytes p) c.as_slice.ensures.value) q;
      comms = λ cell offset. c.in_ok-store.ensures.pages cell offset ∙ c.loop-preload.invariant.comms cell offset;
      stage = stage_kept c.a_write_outside_tables_keeps_the_forest.ensures.forest c.args.image.now [] memory new c.store.ensures.tables c.loop-preload.invariant.stage;
    }

pub returns-clause-bytes : goal.returns-clause-bytes
returns-clause-bytes c =
    loaded_bytes c.args.image.now c.loop-preload.memory (λ q.
    c.loop-preload.invariant.bytes q
    ∙ ap (λ (ps : List Preload). fold preloaded (λ _. 0) ps q) (take_all c.loop-preload.preload-index c.as_slice-preload-items.result.now c.loop-preload-test.false ∙ c.as_slice-preload-items.ensures.value)) c.loop-preload.invariant.comms

pub returns-clause-stage : goal.returns-clause-stage
returns-clause-stage c = c.loop-preload.invariant.stage
