-- The page that a turn writes is the edit's.
use Rattle.std.proofs.Common.{◌≡◌, ℕ, ◌+◌, ◌-◌, ◌*◌, ◌%◌, ◌<◌, suc, ◌∙◌, sym, subst, true, ◌||◌, nat_eq, nat_lt, Some, None, arith, refl}
use Rattle.std.proofs.lemmas.Bool.{lt-ltb, or_left, or_right}
use Rattle.jh_num.proofs.Public.{same_number}
use Rattle.jh_walk.specs.Counts.{unmoved}
use Rattle.jh_walk.specs.Pages.{times}
use Rattle.jh_walk.specs.Walks.{levels}
use Rattle.jh_walk.proofs.Public.{on_times, self_times}
use Rattle.jh_shape.specs.Wanted.{Wants}
use Rattle.jh_edit.specs.declared.edit.Ahead.{Ahead}
use Rattle.jh_edit.specs.Trees.{staying}
use Rattle.jh_edit.specs.Plans.{EditView, Plans}
use Rattle.jh_edit.specs.Tables.{is_ahead, is_mine}
use Rattle.jh_edit.specs.Moves.{IsLinked, IsTurn, Move, Prune, Empty, Fill, Make, Link, TakeAway, End, written_page}
use Rattle.jh_edit.proofs.MoveTurnLemmas.{AreApart}
use Rattle.jh_edit.proofs.MoveTableLemmas.{mine_is, not_over}
use Rattle.jh_edit.proofs.MovePoolLemmas.{mine_after}

-- a table that is reached is the edit's
reached_mine : (old new : EditView) (word word' : ℕ → ℕ) (page : ℕ) → 0 < old.left → 0 < times word levels old.table page → (is_mine old word page || is_mine new word' page) ≡ true
reached_mine old new word word' page some reached =
    or_left (is_mine old word page) (is_mine new word' page)
    (mine_is old word page (not_over old some) ∙ or_left (nat_lt 0 (times word levels old.table page)) (is_ahead old.ahead page) (lt-ltb 0 (times word levels old.table page) reached))

-- the page of the word that is linked is that of its table
linked_page : (want : Wants) (word word' : ℕ → ℕ) (table : ℕ) (ahead : Ahead) → AreApart word table → (is : IsLinked want word word' table ahead) → ahead.at - ahead.at % 4096 ≡ is.is.slot.parent
linked_page want word word' table ahead apart is =
    let slot = is.is.slot in
    let begins : slot.parent % 4096 ≡ 0 = apart.aligned slot.parent (on_times (staying want) word levels (Some 0) table (suc (suc slot.below)) (Some slot.start) slot.parent is.is.empty.stays) in
    let few : slot.slot < 512 = is.is.empty.within in
    let at : ahead.at ≡ slot.parent + 8 * slot.slot = is.is.at in
    omega arith

pub turn_spot : (old new : EditView) (want : Wants) (word word' : ℕ → ℕ) (move : Move) → AreApart word old.table → Plans old want word → IsTurn old new want word word' move
    → (is_mine old word (written_page old.table move) || is_mine new word' (written_page old.table move)) ≡ true
turn_spot old new want word word' (Prune there link) apart plans is =
    let left : new.left + 1 ≡ old.left = is.left in
    reached_mine old new word word' link.parent (omega arith) (on_times (staying want) word levels (Some 0) old.table (suc link.below) there link.parent is.moved.reached)
turn_spot old new want word word' (Empty t) apart plans is =
    let left : new.left + 1 ≡ old.left = is.left in
    reached_mine old new word word' t.page (omega arith) (on_times (staying want) word levels (Some 0) old.table (suc t.below) (Some t.start) t.page is.moved.stays)
turn_spot old new want word word' (Fill t) apart plans is =
    let left : new.left + 1 ≡ old.left = is.left in
    reached_mine old new word word' t.page (omega arith) (on_times (staying want) word levels (Some 0) old.table (suc t.below) (Some t.start) t.page is.moved.stays)
turn_spot old new want word word' (Make slot page) apart plans is =
    or_right (is_mine old word page) (is_mine new word' page) (mine_after old new want word word' (Make slot page) apart plans is page ∙ or_left (nat_eq page page) (is_mine old word page) (same_number page))
turn_spot old new want word word' (Link ahead) apart plans is =
    let left : new.left + 1 ≡ old.left = is.left in
    let slot = is.moved.is.slot in
    subst (λ page. (is_mine old word page || is_mine new word' page) ≡ true) (sym (linked_page want word word' old.table ahead apart is.moved))
    (reached_mine old new word word' slot.parent (omega arith) (on_times (staying want) word levels (Some 0) old.table (suc (suc slot.below)) (Some slot.start) slot.parent is.moved.is.empty.stays))
turn_spot old new want word word' (TakeAway link) apart plans is =
    let left : new.left + 1 ≡ old.left = is.left in
    reached_mine old new word word' link.parent (omega arith) (on_times unmoved word levels None old.table (suc link.below) None link.parent is.moved.reached)
turn_spot old new want word word' End apart plans is =
    let left : new.left + 1 ≡ old.left = is.left in
    reached_mine old new word word' old.table (omega arith) (self_times word 3 old.table old.table refl)
