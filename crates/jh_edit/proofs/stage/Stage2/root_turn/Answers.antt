-- A turn of root's tables is one of the tree that its seat has.
use Rattle.std.proofs.Common.{◌≡◌, ℕ, List, Some, sum_by, if◌then◌else◌, refl, sym, ap, subst, ◌∙◌, arith}
use Rattle.std.specs.Prelude.{MatchOption}
use Rattle.std.proofs.lemmas.Option.{none-some, same_Some}
use Rattle.jh_shape.specs.Claims.{claims_of}
use Rattle.jh_shape.specs.Shapes.{want_of}
use Rattle.jh_edit.specs.declared.stage.Editing.{Editing}
use Rattle.jh_edit.specs.declared.stage.Seat.{Seat}
use Rattle.jh_edit.specs.declared.stage.Stage2.{Stage2}
use Rattle.jh_edit.specs.declared.stage.Tree.{Tree}
use Rattle.jh_edit.specs.OneTurn.{gone_comm, with_editing}
use Rattle.jh_edit.specs.Seats.{root_tree}
use Rattle.jh_edit.specs.Forest.{comm_times, is_gone}
use Rattle.jh_edit.specs.Stages.{IsTreeTurn, gone_uses}
use Rattle.jh_edit.specs.Private.Steps.{IsGivenBack}
use Rattle.jh_edit.proofs.FoundLemmas.{root_tree_is}
use Rattle.jh_edit.proofs.OneTurnLemmas.{gone_counted, gone_seat, part_seat, ready_root, root_counted, settled, stays_taken, tree_turned}
use Rattle.jh_edit.proofs.stage.Stage2.root_turn.Goals as goal

pub tree_turn-requires-clause-ready : goal.tree_turn-requires-clause-ready
tree_turn-requires-clause-ready c =
    let u = c.requires.under.1 in
    ready_root u.claims (claims_of c.args.root.now) c.requires.under.0 (with_editing c.args.self.now c.args.editing) c.args.editing refl u.forest u.edit c.requires.left

pub give_back-requires : goal.give_back-requires
give_back-requires c page is =
    let u = c.requires.under.1 in
    let old : Stage2 = with_editing c.args.self.now c.args.editing in
    let part = u.edit.root in
    let e : c.as_slice-in-Some.result.now ≡ c.args.self.now.seats.items = c.as_slice-in-Some.ensures.value ∙ ap (λ v. v.items) c.tree_turn.ensures.seats in
    let new : Editing = record { root = c.tree_turn.new.edit; cell = c.args.editing.cell } in
    let gone = gone_seat old.seats.items u.forest.apart c.tree_turn.new.edit c.args.editing.cell (part_seat c.requires.under.0 old c.args.editing.cell u.edit.lack u.edit.cell) page (ap (gone_comm new) (sym e) ∙ is) in
    stays_taken u.claims old c.args.editing refl u.forest (want_of (claims_of c.args.root.now)) c.in-Some.tree.tag c.args.editing.root c.tree_turn.new.edit c.tree_turn.new.self.frames c.tree_turn.new.self.pool c.tree_turn.new.self.cache
    part.seat part.of (root_counted old c.args.editing refl) (let some = c.requires.left in omega arith) c.tree_turn.ensures.turn gone.0 gone.1.0 page gone.1.1

pub unreachable-requires : goal.unreachable-requires
unreachable-requires c =
    let u = c.requires.under.1 in
    let part = u.edit.root in
    let is : root_tree c.as_slice.result.now ≡ Some part.of.tree = ap root_tree c.as_slice.ensures.value ∙ (root_tree_is c.args.self.now.seats.items u.forest.apart part.seat part.of.sits part.root ∙ part.of.has) in
    none-some part.of.tree (sym c.in-None.is ∙ (c.root_tree.ensures ∙ is))

pub returns : goal.returns
returns c =
    let u = c.requires.under.1 in
    let old : Stage2 = with_editing c.args.self.now c.args.editing in
    let new : Editing = record { root = c.tree_turn.new.edit; cell = c.args.editing.cell } in
    let made : Stage2 = record c.tree_turn.new.self { pool = c.give_back.new.p } in
    let next : Stage2 = with_editing made new in
    let part = u.edit.root in
    let tree : c.in-Some.tree ≡ part.of.tree =
    same_Some c.in-Some.tree part.of.tree (sym c.in-Some.is ∙ (c.root_tree.ensures ∙ (ap root_tree c.as_slice.ensures.value ∙ (root_tree_is c.args.self.now.seats.items u.forest.apart part.seat part.of.sits part.root ∙ part.of.has)))) in
    let seats : c.tree_turn.new.self.seats ≡ c.args.self.now.seats = c.tree_turn.ensures.seats in
    let items : c.tree_turn.new.self.seats.items ≡ old.seats.items = ap (λ v. v.items) seats in
    let has = part_seat c.requires.under.0 old c.args.editing.cell u.edit.lack u.edit.cell in
    let slice : c.as_slice-in-Some.result.now ≡ old.seats.items = c.as_slice-in-Some.ensures.value ∙ items in
    let given = subst (λ (l : List Seat). MatchOption (gone_comm new l) (c.give_back.new.p ≡ c.tree_turn.new.self.pool) (λ page. IsGivenBack page c.tree_turn.new.self.pool c.give_back.new.p)) slice c.give_back.ensures in
    let counted : (page : ℕ) → gone_uses next page ≡ comm_times page (gone_comm new old.seats.items) =
    λ page. ap (λ (l : List Seat). sum_by (λ (s : Seat). if is_gone (Some new) s then comm_times page s.comm else 0) l) items ∙ gone_counted old.seats.items u.forest.apart c.tree_turn.new.edit c.args.editing.cell has page in
    let P : ℕ → Type 0 = λ tag. IsTreeTurn (want_of (claims_of c.args.root.now)) tag c.args.editing.root c.tree_turn.new.edit old next in
    record {
      seat = part.seat;
      root = part.root;
      of = part.of;
      turn = subst P (ap (λ (t : Tree). t.tag) tree)
          (tree_turned (want_of (claims_of c.args.root.now)) c.in-Some.tree.tag c.args.editing.root c.tree_turn.new.edit old next c.tree_turn.new.self.pool (gone_comm new old.seats.items) c.tree_turn.ensures.turn
          (settled (gone_comm new old.seats.items) c.tree_turn.new.self.pool c.give_back.new.p given) counted
          (ready_root u.claims (claims_of c.args.root.now) c.requires.under.0 old c.args.editing refl u.forest u.edit c.requires.left).taken);
      cell = refl;
      seats = seats;
      now = refl;
    }
