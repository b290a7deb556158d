-- The slots lead to one page less.
use Rattle.std.proofs.Common.{◌≡◌, ℕ, ◌+◌, suc, subst, arith}
use Rattle.jh_walk.specs.Pages.{pages_reached}
use Rattle.jh_edit.proofs.RemovalLemmas.{one_page_less}
use Rattle.jh_edit.proofs.laws.a_table_taken_out_is_one_turn_less.Goals as goal

pub returns : goal.returns
returns c = λ word word' n table slot next out.
    let more : suc n ≡ n + 1 = omega arith in
    subst (λ (left : ℕ). pages_reached word' left table + 1 ≡ pages_reached word left table) more
    (one_page_less c.walks_read_their_pages.ensures.counts word word' n table slot next out)
