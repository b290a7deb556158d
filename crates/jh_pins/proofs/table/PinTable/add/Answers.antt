-- The new id is another than those before it.
use Rattle.std.proofs.Common.{◌≡◌, ◌∷◌, List, sym, ap, subst, ◌∙◌}
use Rattle.std.proofs.lemmas.List.Quantifiers.{all_pairs_push}
use Rattle.jh_pins.specs.Claims.{Claim}
use Rattle.jh_pins.specs.TableView.{TableView, AreTwoCells, HaveOwnIds}
use Rattle.jh_pins.specs.Holders.{IsNewId}
use Rattle.jh_pins.proofs.table.PinTable.add.Goals as goal

pub invariant_of-self-2 : goal.invariant_of-self-2
invariant_of-self-2 c =
    let root = c.self.inside.root in
    let cells = c.self.inside.cells.items in
    let claim = c.in_ok-claim.claim in
    let P : TableView → Type 0 = λ table. IsNewId table c.args.cell.now.id in
    let new = subst P (sym c.self.view_is) c.requires in
    let id : claim.id ≡ c.args.cell.now.id = ap (λ (x : Claim). x.id) c.in_ok-claim.ensures in
    let Q : List Claim → Type 0 = λ l. HaveOwnIds root l in
    let kept = all_pairs_push AreTwoCells (root ∷ cells) claim c.self.invariant (λ k d lt same. new k d lt (same ∙ id)) in
    subst Q (sym c.in_ok-push.ensures.items) kept
