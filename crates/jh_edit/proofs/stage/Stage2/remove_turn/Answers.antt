-- A turn of a removal is one of the tree that its seat has; after the last one the seat has none, and where no turn of root is
-- left, the cell's communication page is given back.
use Rattle.std.proofs.Common.{◌≡◌, ℕ, ◌<◌, List, map, Some, sum_by, if◌then◌else◌, refl, sym, ap, subst, ◌∙◌, arith}
use Rattle.std.specs.Prelude.{MatchOption, vec_capacity}
use Rattle.std.specs.Vec.{with_items}
use Rattle.std.proofs.lemmas.List.{with_items_is}
use Rattle.std.proofs.lemmas.Option.{none-some, same_Some}
use Rattle.jh_shape.specs.Claims.{claims_of}
use Rattle.jh_shape.specs.Shapes.{want_of}
use Rattle.jh_edit.specs.declared.stage.CellPart.TheVariants.{Remove}
use Rattle.jh_edit.specs.declared.stage.Editing.{Editing}
use Rattle.jh_edit.specs.declared.stage.Seat.{Seat}
use Rattle.jh_edit.specs.declared.stage.Stage2.{Stage2}
use Rattle.jh_edit.specs.declared.stage.Tree.{Tree}
use Rattle.jh_edit.specs.Forest.{ahead_uses, comm_times, is_gone}
use Rattle.jh_edit.specs.OneTurn.{gone_comm, with_editing}
use Rattle.jh_edit.specs.Seats.{cell_tree}
use Rattle.jh_edit.specs.Stages.{IsTreeTurn, gone_uses, untreed}
use Rattle.jh_edit.specs.Private.Steps.{IsGivenBack}
use Rattle.jh_edit.proofs.FoundLemmas.{cell_tree_is}
use Rattle.jh_edit.proofs.OneTurnLemmas.{ahead_of_none, gone_counted, ready_remove, removed_page, removing, settled, settled_seats, stays_taken, tree_turned}
use Rattle.jh_edit.proofs.stage.Stage2.remove_turn.Goals as goal

pub tree_turn-requires-clause-ready : goal.tree_turn-requires-clause-ready
tree_turn-requires-clause-ready c =
    let u = c.requires.under.1.1 in
    ready_remove u.claims c.requires.under.0 c.requires.under.1.0 (claims_of c.args.t.now) (with_editing c.args.self.now (removing c.args.root c.args.id c.args.edit)) c.args.root c.args.id c.args.edit u.forest u.edit c.requires.left

pub unreachable-requires : goal.unreachable-requires
unreachable-requires c =
    let u = c.requires.under.1.1 in
    let part = u.edit.cell in
    let of = part.on c.requires.left in
    let is : cell_tree c.args.id c.as_slice.result.now ≡ Some of.tree = ap (cell_tree c.args.id) c.as_slice.ensures.value ∙ (cell_tree_is c.args.self.now.seats.items u.forest.apart part.seat c.args.id part.sits part.named ∙ of.has) in
    none-some of.tree (sym c.in-None.is ∙ (c.cell_tree.ensures ∙ is))

pub give_back-requires : goal.give_back-requires
give_back-requires c page is =
    let u = c.requires.under.1.1 in
    let part = u.edit.cell in
    let was : Editing = removing c.args.root c.args.id c.args.edit in
    let next : Editing = removing c.args.root c.args.id c.tree_turn.new.edit in
    let old : Stage2 = with_editing c.args.self.now was in
    let seats : List Seat = c.settle.new.seats in
    let start : c.as_mut_slice.result.now ≡ old.seats.items = c.as_mut_slice.ensures.value ∙ ap (λ v. v.items) c.tree_turn.ensures.seats in
    let s = settled_seats c.args.id c.tree_turn.new.edit.left old.seats.items seats part.seat u.forest.apart part.sits part.named (λ some. c.settle.ensures.on some ∙ start) (λ none. c.settle.ensures.over none ∙ ap (map (untreed c.args.id)) start) in
    let items : (with_items c.tree_turn.new.self.seats seats).items ≡ seats = with_items_is c.tree_turn.new.self.seats seats (c.settle.auto.seats ∙ c.as_mut_slice.ensures.len) in
    let slice : c.as_slice-in-Some.result.now ≡ seats = c.as_slice-in-Some.ensures.value ∙ items in
    let gone : s.own.comm ≡ Some page = removed_page seats s.apart c.args.root c.args.id c.tree_turn.new.edit s.own s.sits s.named page (ap (gone_comm next) (sym slice) ∙ is) in
    stays_taken u.claims old was refl u.forest (want_of (claims_of c.args.t.now)) c.in-Some.tree.tag c.args.edit c.tree_turn.new.edit c.tree_turn.new.self.frames c.tree_turn.new.self.pool c.tree_turn.new.self.cache part.seat (part.on c.requires.left)
    (λ q. ahead_of_none q c.args.edit (ahead_uses old.editing q) (part.ahead c.requires.left)) (let some = c.requires.left in omega arith) c.tree_turn.ensures.turn part.seat part.sits page (sym s.comm ∙ gone)

pub returns : goal.returns
returns c =
    let u = c.requires.under.1.1 in
    let part = u.edit.cell in
    let of = part.on c.requires.left in
    let edit' = c.tree_turn.new.edit in
    let was : Editing = removing c.args.root c.args.id c.args.edit in
    let next : Editing = removing c.args.root c.args.id edit' in
    let old : Stage2 = with_editing c.args.self.now was in
    let seats : List Seat = c.settle.new.seats in
    let made : Stage2 = record { frames = c.tree_turn.new.self.frames; pool = c.give_back.new.p; cache = c.tree_turn.new.self.cache; seats = with_items c.tree_turn.new.self.seats seats; editing = c.tree_turn.new.self.editing } in
    let new : Stage2 = with_editing made next in
    let start : c.as_mut_slice.result.now ≡ old.seats.items = c.as_mut_slice.ensures.value ∙ ap (λ v. v.items) c.tree_turn.ensures.seats in
    let on : 0 < edit'.left → seats ≡ old.seats.items = λ some. c.settle.ensures.on some ∙ start in
    let over : edit'.left ≡ 0 → seats ≡ map (untreed c.args.id) old.seats.items = λ none. c.settle.ensures.over none ∙ ap (map (untreed c.args.id)) start in
    let s = settled_seats c.args.id edit'.left old.seats.items seats part.seat u.forest.apart part.sits part.named on over in
    let items : (with_items c.tree_turn.new.self.seats seats).items ≡ seats = with_items_is c.tree_turn.new.self.seats seats (c.settle.auto.seats ∙ c.as_mut_slice.ensures.len) in
    let slice : c.as_slice-in-Some.result.now ≡ seats = c.as_slice-in-Some.ensures.value ∙ items in
    let given = subst (λ (l : List Seat). MatchOption (gone_comm next l) (c.give_back.new.p ≡ c.tree_turn.new.self.pool) (λ page. IsGivenBack page c.tree_turn.new.self.pool c.give_back.new.p)) slice c.give_back.ensures in
    let counted : (page : ℕ) → gone_uses new page ≡ comm_times page (gone_comm next seats) =
    λ page. ap (λ (l : List Seat). sum_by (λ (x : Seat). if is_gone (Some next) x then comm_times page x.comm else 0) l) items ∙ gone_counted seats s.apart c.args.root (Remove c.args.id edit') (s.own, (s.sits, s.named)) page in
    let tree : c.in-Some.tree ≡ of.tree =
    same_Some c.in-Some.tree of.tree (sym c.in-Some.is ∙ (c.cell_tree.ensures ∙ (ap (cell_tree c.args.id) c.as_slice.ensures.value ∙ (cell_tree_is c.args.self.now.seats.items u.forest.apart part.seat c.args.id part.sits part.named ∙ of.has)))) in
    let want = want_of (claims_of c.args.t.now) in
    let P : ℕ → Type 0 = λ tag. IsTreeTurn want tag c.args.edit edit' old new in (
      edit',
      record {
        seat = part.seat;
        named = part.named;
        of = of;
        turn = subst P (ap (λ (t : Tree). t.tag) tree)
            (tree_turned want c.in-Some.tree.tag c.args.edit edit' old new c.tree_turn.new.self.pool (gone_comm next seats) c.tree_turn.ensures.turn (settled (gone_comm next seats) c.tree_turn.new.self.pool c.give_back.new.p given) counted
            (ready_remove u.claims c.requires.under.0 c.requires.under.1.0 (claims_of c.args.t.now) old c.args.root c.args.id c.args.edit u.forest u.edit c.requires.left).taken);
        was = refl;
        cell = refl;
        root = refl;
        on = λ some. items ∙ on some;
        over = λ none. items ∙ over none;
        capacity = ap vec_capacity c.tree_turn.ensures.seats;
        now = refl;
      },
    )
