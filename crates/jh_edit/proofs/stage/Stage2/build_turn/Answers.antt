-- A turn of the coming cell's tables is one of the tree that its seat has, to the claims with its communication page.
use Rattle.std.proofs.Common.{◌≡◌, ℕ, ◌+◌, Bool, true, false, nat_eq, List, None, Some, Option, sum_by, if◌then◌else◌, refl, sym, ap, subst, ◌∙◌}
use Rattle.std.specs.Prelude.{IsSome}
use Rattle.std.proofs.lemmas.Option.{none-some, same_Some}
use Rattle.jh_shape.specs.Claims.{claims_of}
use Rattle.jh_shape.specs.Shapes.{want_of}
use Rattle.jh_edit.specs.declared.stage.CellPart.TheVariants.{Build}
use Rattle.jh_edit.specs.declared.stage.Editing.{Editing}
use Rattle.jh_edit.specs.declared.stage.Seat.{Seat}
use Rattle.jh_edit.specs.declared.stage.Stage2.{Stage2}
use Rattle.jh_edit.specs.declared.stage.Tree.{Tree}
use Rattle.jh_edit.specs.Forest.{comm_times, is_gone, with_comm}
use Rattle.jh_edit.specs.OneTurn.{with_editing}
use Rattle.jh_edit.specs.Seats.{cell_comm, cell_tree}
use Rattle.jh_edit.specs.Stages.{IsTreeTurn, gone_uses}
use Rattle.jh_edit.proofs.FoundLemmas.{cell_comm_is, cell_tree_is}
use Rattle.jh_edit.proofs.OneTurnLemmas.{building, gone_counted, ready_build, settled, tree_turned}
use Rattle.jh_edit.proofs.stage.Stage2.build_turn.Goals as goal

no_page : (page : ℕ) (b : Bool) → comm_times page (if b then None else None) ≡ 0
no_page page true = refl
no_page page false = refl

pub cell_page-comm-requires : goal.cell_page-comm-requires
cell_page-comm-requires c =
    let u = c.requires.under.1 in
    let part = u.edit.cell in
    let is : cell_comm c.args.id c.as_slice-seats.result.now ≡ Some part.comm = ap (cell_comm c.args.id) c.as_slice-seats.ensures.value ∙ (cell_comm_is c.args.self.now.seats.items u.forest.apart part.seat c.args.id part.of.sits part.named ∙ part.page) in
    subst (λ (o : Option ℕ). IsSome o) (sym is) refl

pub tree_turn-requires-clause-ready : goal.tree_turn-requires-clause-ready
tree_turn-requires-clause-ready c =
    let u = c.requires.under.1 in
    let part = u.edit.cell in
    let is : cell_comm c.args.id c.as_slice-seats.result.now ≡ Some part.comm = ap (cell_comm c.args.id) c.as_slice-seats.ensures.value ∙ (cell_comm_is c.args.self.now.seats.items u.forest.apart part.seat c.args.id part.of.sits part.named ∙ part.page) in
    let comm : c.cell_page-comm.result ≡ part.comm = same_Some c.cell_page-comm.result part.comm (sym c.cell_page-comm.ensures ∙ is) in
    ready_build u.claims c.requires.under.0 (claims_of c.args.cell.now) (with_editing c.args.self.now (building c.args.root c.args.id c.args.edit)) c.args.root c.args.id c.args.edit c.cell_page-comm.result refl u.forest u.edit comm c.requires.left c.requires.behind

pub unreachable-requires : goal.unreachable-requires
unreachable-requires c =
    let u = c.requires.under.1 in
    let part = u.edit.cell in
    let is : cell_tree c.args.id c.as_slice-seats.result.now ≡ Some part.of.tree = ap (cell_tree c.args.id) c.as_slice-seats.ensures.value ∙ (cell_tree_is c.args.self.now.seats.items u.forest.apart part.seat c.args.id part.of.sits part.named ∙ part.of.has) in
    none-some part.of.tree (sym c.in-None.is ∙ (c.cell_tree.ensures ∙ is))

pub returns : goal.returns
returns c =
    let u = c.requires.under.1 in
    let part = u.edit.cell in
    let coming = claims_of c.args.cell.now in
    let edit' = c.tree_turn.new.edit in
    let was : Editing = building c.args.root c.args.id c.args.edit in
    let next : Editing = building c.args.root c.args.id edit' in
    let old : Stage2 = with_editing c.args.self.now was in
    let new : Stage2 = with_editing c.tree_turn.new.self next in
    let is : cell_comm c.args.id c.as_slice-seats.result.now ≡ Some part.comm = ap (cell_comm c.args.id) c.as_slice-seats.ensures.value ∙ (cell_comm_is c.args.self.now.seats.items u.forest.apart part.seat c.args.id part.of.sits part.named ∙ part.page) in
    let comm : c.cell_page-comm.result ≡ part.comm = same_Some c.cell_page-comm.result part.comm (sym c.cell_page-comm.ensures ∙ is) in
    let tree : c.in-Some.tree ≡ part.of.tree =
    same_Some c.in-Some.tree part.of.tree
    (sym c.in-Some.is ∙ (c.cell_tree.ensures ∙ (ap (cell_tree c.args.id) c.as_slice-seats.ensures.value ∙ (cell_tree_is c.args.self.now.seats.items u.forest.apart part.seat c.args.id part.of.sits part.named ∙ part.of.has)))) in
    let seats : c.tree_turn.new.self.seats ≡ c.args.self.now.seats = c.tree_turn.ensures.seats in
    let items : c.tree_turn.new.self.seats.items ≡ old.seats.items = ap (λ v. v.items) seats in
    let counted : (page : ℕ) → gone_uses new page ≡ 0 =
    λ page. ap (λ (l : List Seat). sum_by (λ (s : Seat). if is_gone (Some next) s then comm_times page s.comm else 0) l) items
    ∙ (gone_counted old.seats.items u.forest.apart c.args.root (Build c.args.id edit') tt page ∙ no_page page (nat_eq (c.args.root.left + edit'.left) 0)) in
    let P : ℕ → ℕ → Type 0 = λ page tag. IsTreeTurn (want_of (with_comm coming page)) tag c.args.edit edit' old new in (
      edit',
      record {
        seat = part.seat;
        comm = part.comm;
        named = part.named;
        page = part.page;
        of = part.of;
        turn = subst (P part.comm) (ap (λ (t : Tree). t.tag) tree)
            (subst (λ page. P page c.in-Some.tree.tag) comm
            (tree_turned (want_of (with_comm coming c.cell_page-comm.result)) c.in-Some.tree.tag c.args.edit edit' old new c.tree_turn.new.self.pool None c.tree_turn.ensures.turn (settled None c.tree_turn.new.self.pool c.tree_turn.new.self.pool refl) counted
            (ready_build u.claims c.requires.under.0 coming old c.args.root c.args.id c.args.edit c.cell_page-comm.result refl u.forest u.edit comm c.requires.left c.requires.behind).taken));
        was = refl;
        cell = refl;
        root = refl;
        seats = seats;
        now = refl;
      },
    )
