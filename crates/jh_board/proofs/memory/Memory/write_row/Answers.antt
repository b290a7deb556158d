-- One byte more.
use Rattle.std.proofs.Common.{◌∙◌, refl, sym, subst}
use Rattle.jh_board.specs.Pages.{HoldsPlace}
use Rattle.jh_board.proofs.BytesLemmas.{over_more, All_at_place}
use Rattle.jh_board.proofs.TablesLemmas.{tables_both}
use Rattle.jh_board.proofs.memory.Memory.write_row.Goals as goal

pub write_place-requires : goal.write_place-requires
write_place-requires c =
    c.loop-k.invariant.held _ (subst (HoldsPlace c.args.self.now) (sym c.further.ensures) (All_at_place (HoldsPlace c.args.self.now) c.args.row.first c.args.row.count c.loop-k.k c.loop-k-test.true c.requires.held))

pub loop-k-preserved : goal.loop-k-preserved
loop-k-preserved c = record {
  bytes = λ places q.
      over_more c.loop-k.self c.write_place.new.self c.args.row.first c.further.result _ c.loop-k.k c.args.row.count c.loop-k.rest places q c.loop-k-test.true c.further.ensures refl (c.write_place.ensures.bytes q)
      ∙ c.loop-k.invariant.bytes places q;
  held = λ q h. c.write_place.ensures.held q (c.loop-k.invariant.held q h);
  tables = tables_both c.args.self.now c.loop-k.self c.write_place.new.self c.loop-k.invariant.tables c.write_place.ensures.tables;
}
