-- A leaf tells what each byte of its slot is granted, and no slot of the last level is a table.
use Rattle.std.proofs.Common.{◌<◌, sym, ◌∙◌, arith}
use Rattle.jh_cellcfg.specs.Regions.{place_in}
use Rattle.jh_num.specs.declared.address.TheConstants.{ADDRESS_END}
use Rattle.jh_shape.specs.Claims.{claims_of}
use Rattle.jh_shape.proofs.GrantLemmas.{leaf_tells, table_level}
use Rattle.jh_shape.proofs.WantLemmas.{leaf_place}
use Rattle.jh_shape.proofs.target.Target.want.Goals as goal

pub leaf_of-requires-clause-fits : goal.leaf_of-requires-clause-fits
leaf_of-requires-clause-fits c = λ plain.
    let bound : place_in c.in-Some.region c.args.start < ADDRESS_END =
    leaf_place (claims_of c.args.self.now) c.args.level c.args.start c.in-Some.region c.requires.sound (sym c.leaf_region.ensures ∙ c.in-Some.is) plain in
    omega arith

pub returns-in-Some-clause-tells : goal.returns-in-Some-clause-tells
returns-in-Some-clause-tells c =
    rw c.leaf_of.ensures
    (leaf_tells (claims_of c.args.self.now) c.args.level c.args.start c.in-Some.region c.requires.sound c.requires.slot (sym c.leaf_region.ensures ∙ c.in-Some.is))

pub returns-then-is_met-clause-tells : goal.returns-then-is_met-clause-tells
returns-then-is_met-clause-tells c =
    table_level (claims_of c.args.self.now) c.args.level c.args.start c.requires.slot (sym c.leaf_region.ensures ∙ c.in-None.is) (sym c.is_met.ensures ∙ c.if-is_met.true)
