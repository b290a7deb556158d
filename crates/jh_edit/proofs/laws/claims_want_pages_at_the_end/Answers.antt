-- A region of whole pages that meets a page serves it.
use Rattle.jh_num.specs.declared.level.TheConstants.{LAST_LEVEL}
use Rattle.jh_edit.proofs.GrantLemmas.{page_served}
use Rattle.jh_edit.proofs.laws.claims_want_pages_at_the_end.Goals as goal

pub returns : goal.returns
returns c = λ claims start begins is.
    let met = (c.a_table_stands_where_no_leaf_serves.ensures.table claims LAST_LEVEL start).0 is in
    met.1 (page_served claims start begins met.0)
