-- What an access of one byte reaches.
use Rattle.std.proofs.Common.{◌≡◌, ℕ, ◌<◌, ◌^◌, Some, length, ap, sym, subst, ◌∙◌, arith}
use Rattle.jh_history.specs.declared.access.Access.TheVariants.{Read}
use Rattle.jh_history.specs.Access.{memory_or_nothing, memory_read, reach_by}
use Rattle.jh_history.specs.Grants.{granted_in}
use Rattle.jh_history.specs.LiveView.{GrantsView}
use Rattle.jh_history.specs.Private.PlainView.{PlainView, last_byte}
use Rattle.jh_history.proofs.ReadLemmas.{one_place_holds}
use Rattle.jh_history.proofs.plain.Plain.read.Goals as goal

pub returns-in-None : goal.returns-in-None
returns-in-None c =
    let p = c.args.self.now in
    ap (memory_read (last_byte p.image p.bytes)) (sym (ap memory_or_nothing c.in-None.is) ∙ c.memory_in.ensures
    ∙ ap (λ (g : GrantsView). reach_by (granted_in g.image g.lives c.self.inside.image.now.system.root.id Read) c.args.at 1) c.grants.ensures
    ∙ ap (λ (v : PlainView). reach_by (granted_in p.image p.cells v.image.system.root.id Read) c.args.at 1) c.self.view_is)

pub returns-in-Some : goal.returns-in-Some
returns-in-Some c =
    let p = c.args.self.now in
    ap Some c.value_of.ensures.value
    ∙ ap (memory_read (last_byte p.image p.bytes)) (sym (ap memory_or_nothing c.in-Some.is) ∙ c.memory_in.ensures
    ∙ ap (λ (g : GrantsView). reach_by (granted_in g.image g.lives c.self.inside.image.now.system.root.id Read) c.args.at 1) c.grants.ensures
    ∙ ap (λ (v : PlainView). reach_by (granted_in p.image p.cells v.image.system.root.id Read) c.args.at 1) c.self.view_is)

pub overflow_cast-result : goal.overflow_cast-result
overflow_cast-result c =
    let g = c.grants.result in
    let one : length c.in-Some.places ≡ 1 = one_place_holds (granted_in g.image g.lives c.self.inside.image.now.system.root.id Read) c.args.at c.in-Some.places (sym c.memory_in.ensures ∙ ap memory_or_nothing c.in-Some.is) in
    let fits : c.value_of.result < 256 ^ 1 = subst (λ (n : ℕ). c.value_of.result < 256 ^ n) one c.value_of.ensures.fits in
    omega arith
