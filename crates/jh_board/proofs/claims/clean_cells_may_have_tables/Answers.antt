-- The places of no cell are the hypervisor's.
use Rattle.jh_num.proofs.Public.{Contains_map}
use Rattle.jh_cellcfg.specs.declared.live.Live.{Live}
use Rattle.jh_shape.specs.Lives.{configs_of}
use Rattle.jh_board.proofs.ClaimLemmas.{cell_kept, root_apart}
use Rattle.jh_board.proofs.claims.clean_cells_may_have_tables.Goals as goal

pub returns-clause-apart : goal.returns-clause-apart
returns-clause-apart c = root_apart

pub returns-clause-cells : goal.returns-clause-cells
returns-clause-cells c = λ system lives live stage clean there inside. record {
  sound = λ comm aligned low. c.live_claims_are_sound.ensures.cells system lives live comm clean there aligned low;
  kept = λ comm aligned low. cell_kept system (configs_of lives) live.config stage comm clean (Contains_map (λ (l : Live). l.config) lives live there) inside aligned;
}
