-- One turn keeps the tables of all cells and the edit, with fewer turns left.
use Rattle.std.proofs.Common.{◌≡◌, Some, sym, ap, subst, ◌∙◌, arith, refl}
use Rattle.std.proofs.lemmas.Option.{same_Some}
use Rattle.jh_shape.specs.Claims.{claims_of}
use Rattle.jh_edit.specs.declared.stage.Editing.{Editing}
use Rattle.jh_edit.specs.declared.stage.Stage2.{Stage2}
use Rattle.jh_edit.specs.Forest.{IsEdit, IsForest, left_of}
use Rattle.jh_edit.specs.OneTurn.{with_editing}
use Rattle.jh_edit.proofs.OneTurnLemmas.{editing_there}
use Rattle.jh_edit.proofs.stage.Stage2.edit_turn.Goals as goal

pub returns-clause-forest : goal.returns-clause-forest
returns-clause-forest c = λ claims forest.
    let under = c.requires.under in
    let on : c.args.self.now.editing ≡ Some c.in-Some.editing = sym c.take.ensures.value ∙ c.in-Some.is in
    let same : under.editing ≡ c.in-Some.editing = same_Some under.editing c.in-Some.editing (sym under.now ∙ on) in
    let old : Stage2 = with_editing c.args.self.now c.in-Some.editing in
    let there : c.args.self.now ≡ old = sym (editing_there c.args.self.now c.in-Some.editing on) in
    let edit : IsEdit (claims_of c.args.root.now) (claims_of c.args.cell.now) old c.in-Some.editing =
    subst (λ (s : Stage2). IsEdit (claims_of c.args.root.now) (claims_of c.args.cell.now) s c.in-Some.editing) there (subst (λ (e : Editing). IsEdit (claims_of c.args.root.now) (claims_of c.args.cell.now) c.args.self.now e) same under.under.edit) in
    (c.turns_keep_the_forest.ensures claims (claims_of c.args.root.now) (claims_of c.args.cell.now) c.in-Some.editing c.one_turn-editing.result old (with_editing c.one_turn-editing.new.self c.one_turn-editing.result) refl (subst (IsForest claims) there forest) edit c.one_turn-editing.ensures).forest

pub returns-clause-edit : goal.returns-clause-edit
returns-clause-edit c = λ editing now.
    let under = c.requires.under in
    let on : c.args.self.now.editing ≡ Some c.in-Some.editing = sym c.take.ensures.value ∙ c.in-Some.is in
    let same : under.editing ≡ c.in-Some.editing = same_Some under.editing c.in-Some.editing (sym under.now ∙ on) in
    let old : Stage2 = with_editing c.args.self.now c.in-Some.editing in
    let new : Stage2 = with_editing c.one_turn-editing.new.self c.one_turn-editing.result in
    let there : c.args.self.now ≡ old = sym (editing_there c.args.self.now c.in-Some.editing on) in
    let edit : IsEdit (claims_of c.args.root.now) (claims_of c.args.cell.now) old c.in-Some.editing =
    subst (λ (s : Stage2). IsEdit (claims_of c.args.root.now) (claims_of c.args.cell.now) s c.in-Some.editing) there (subst (λ (e : Editing). IsEdit (claims_of c.args.root.now) (claims_of c.args.cell.now) c.args.self.now e) same under.under.edit) in
    subst (λ (e : Editing). IsEdit (claims_of c.args.root.now) (claims_of c.args.cell.now) new e) (same_Some c.one_turn-editing.result editing now)
    (c.turns_keep_the_forest.ensures under.under.claims (claims_of c.args.root.now) (claims_of c.args.cell.now) c.in-Some.editing c.one_turn-editing.result old new refl (subst (IsForest under.under.claims) there under.under.forest) edit c.one_turn-editing.ensures).edit

pub returns-clause-falls : goal.returns-clause-falls
returns-clause-falls c = λ editing was.
    let under = c.requires.under in
    let on : c.args.self.now.editing ≡ Some c.in-Some.editing = sym c.take.ensures.value ∙ c.in-Some.is in
    let same : under.editing ≡ c.in-Some.editing = same_Some under.editing c.in-Some.editing (sym under.now ∙ on) in
    let old : Stage2 = with_editing c.args.self.now c.in-Some.editing in
    let new : Stage2 = with_editing c.one_turn-editing.new.self c.one_turn-editing.result in
    let there : c.args.self.now ≡ old = sym (editing_there c.args.self.now c.in-Some.editing on) in
    let edit : IsEdit (claims_of c.args.root.now) (claims_of c.args.cell.now) old c.in-Some.editing =
    subst (λ (s : Stage2). IsEdit (claims_of c.args.root.now) (claims_of c.args.cell.now) s c.in-Some.editing) there (subst (λ (e : Editing). IsEdit (claims_of c.args.root.now) (claims_of c.args.cell.now) c.args.self.now e) same under.under.edit) in
    let falls = (c.turns_keep_the_forest.ensures under.under.claims (claims_of c.args.root.now) (claims_of c.args.cell.now) c.in-Some.editing c.one_turn-editing.result old new refl (subst (IsForest under.under.claims) there under.under.forest) edit c.one_turn-editing.ensures).falls in
    let left : c.left_of-left.result ≡ left_of c.one_turn-editing.result = c.left_of-left.ensures in
    let before : left_of c.in-Some.editing ≡ left_of editing = ap left_of (same_Some c.in-Some.editing editing (sym on ∙ was)) in
    omega arith
