-- No leaf is wanted at the first level, so each word that is made is 0.
use Rattle.std.proofs.Common.{◌≡◌, ℕ, ◌+◌, ◌*◌, ◌<◌, ◌∙◌, arith, refl}
use Rattle.jh_num.specs.declared.rights.Rights.{Rights}
use Rattle.jh_shape.specs.Claims.{claims_of}
use Rattle.jh_shape.specs.Shapes.{want_of}
use Rattle.jh_shape.specs.Wanted.{slot_start}
use Rattle.jh_shape.specs.declared.want.Want.{Want}
use Rattle.jh_shape.specs.declared.want.Want.TheVariants.{Nothing, Table as WantTable, Leaf as WantLeaf}
use Rattle.std.specs.Prelude.{Bool}
use Rattle.jh_edit.specs.declared.writing.Writing.TheVariants.{Make}
use Rattle.jh_edit.specs.Tables.{words}
use Rattle.jh_edit.specs.Private.Written.{word_after}
use Rattle.jh_edit.proofs.WritingLemmas.{slot_there}
use Rattle.jh_edit.proofs.turning.clear_table.Goals as goal

no_leaf : (level : ℕ) (want : Want) (old : ℕ) → ((out : ℕ) (rights : Rights) (device : Bool) → want ≡ WantLeaf out rights device → ⊥) → word_after Make level want old ≡ 0
no_leaf level Nothing old none = refl
no_leaf level WantTable old none = refl
no_leaf level (WantLeaf out rights device) old none = absurd (none out rights device refl)

pub returns-clause-zero : goal.returns-clause-zero
returns-clause-zero c = λ slot few.
    let claims = claims_of c.args.t.now in
    c.write_table.ensures.words slot few
    ∙ no_leaf 0 (want_of claims 0 (slot_start 0 0 slot)) (words c.args.f.now (c.args.table + 8 * slot)) (λ out rights device leaf.
    let may = c.a_wanted_leaf_may_be_written.ensures claims 0 (slot_start 0 0 slot) out rights device c.requires.sound (slot_there 4 0 slot (omega arith) (omega arith) (record { begins = refl; bound = omega arith }) few) leaf in
    let up : 0 < 0 = may.0 in omega arith)
