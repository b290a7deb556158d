-- One place more.
use Rattle.std.proofs.Common.{◌≡◌, ℕ, ◌∙◌, sym, subst, inl, inr, arith}
use Rattle.std.proofs.lemmas.Bool.{cases_lt}
use Rattle.jh_history.specs.Places.{further}
use Rattle.jh_board.specs.Pages.{HoldsPlace}
use Rattle.jh_board.specs.Private.Pages.{MayHold}
use Rattle.jh_board.proofs.BytesLemmas.{All_at_place, MayHold_same, row_held}
use Rattle.jh_board.proofs.TablesLemmas.{tables_both}
use Rattle.jh_board.proofs.memory.Memory.hold_row.Goals as goal

pub hold_place-requires : goal.hold_place-requires
hold_place-requires c =
    MayHold_same c.args.self.now c.loop-k.self c.loop-k.invariant.tables c.further.result
    (subst (MayHold c.args.self.now) (sym c.further.ensures) (All_at_place (MayHold c.args.self.now) c.args.row.first c.args.row.count c.loop-k.k c.loop-k-test.true c.requires.may))

pub loop-k-preserved : goal.loop-k-preserved
loop-k-preserved c =
    let known = c.loop-k.invariant in
    let new = c.hold_place.new.self in
    record {
      bytes = λ q. c.hold_place.ensures.bytes q ∙ known.bytes q;
      held = λ j lt. elim (cases_lt j c.loop-k.k) [
        | inl before ↦ c.hold_place.ensures.others _ (known.held j before)
        | inr last ↦
            let same : c.loop-k.k ≡ j = omega arith in
            subst (λ (k : ℕ). HoldsPlace new (further c.args.row.first k)) same (subst (HoldsPlace new) c.further.ensures c.in_ok-hold_place.ensures.held)
      ];
      others = λ q h. c.hold_place.ensures.others q (known.others q h);
      tables = tables_both c.args.self.now c.loop-k.self new known.tables c.hold_place.ensures.tables;
    }

pub returns-clause-held : goal.returns-clause-held
returns-clause-held c = row_held c.loop-k.self c.args.row.first c.args.row.count (λ k lt. c.loop-k.invariant.held k (omega arith))
