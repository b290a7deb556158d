-- The pages of an edit after a turn, and the pool that they are taken from.
use Rattle.std.proofs.Common.{◌≡◌, ℕ, ◌+◌, ◌*◌, ◌<◌, ◌≤◌, ◌⊎◌, ◌↔◌, inl, inr, suc, ap, ◌∙◌, sym, subst, Bool, true, false, ◌&&◌, ◌||◌, nat_eq, nat_lt, if◌then◌else◌, Option, Some, None, arith, refl, ⊎_elim}
use Rattle.std.proofs.lemmas.Bool.{and_left, cases_Bool, eqb-true, false≢true, le-ltb, lt-ltb, or_left, or_right}
use Rattle.jh_pool.specs.Pages.{IsPageOf, IsTakenPage, PoolView, is_free, used_of}
use Rattle.jh_walk.specs.Counts.{IsReachedAs, Step, unmoved}
use Rattle.jh_walk.specs.Pages.{pages_reached, times}
use Rattle.jh_walk.specs.Walks.{levels}
use Rattle.jh_walk.proofs.Public.{self_times, times_below}
use Rattle.jh_shape.specs.Wanted.{Wants}
use Rattle.jh_edit.specs.declared.edit.Ahead.{Ahead}
use Rattle.jh_edit.specs.Trees.{lack_of, staying}
use Rattle.jh_edit.specs.Plans.{EditView, Plans, ahead_count}
use Rattle.jh_edit.specs.Tables.{HasTaken, is_ahead, is_mine, is_over}
use Rattle.jh_edit.specs.Moves.{IsAtTurn, IsCleared, IsMoved, IsPoolAfter, IsTurn, Move, TableLink, Prune, Empty, Fill, Make, Link, TakeAway, End, ahead_after, given_count, is_given, is_taken, tables_linked, taken_count}
use Rattle.jh_edit.proofs.BoundLemmas.{pages_more}
use Rattle.jh_edit.proofs.MovePathLemmas.{reached_le}
use Rattle.jh_edit.proofs.MoveTurnLemmas.{AreApart, taken_pages}
use Rattle.jh_edit.proofs.MovePageLemmas.{alone_times, is_one, moved_times, one_self}
use Rattle.jh_edit.proofs.MoveTableLemmas.{mine_is, not_over}
use Rattle.jh_edit.proofs.MoveLackLemmas.{moved_lack}

-- ---- a page that is given is the edit's

named_reached : (step : Step) (word : ℕ → ℕ) (s : Option ℕ) (table : ℕ) (there : Option ℕ) (word' : ℕ → ℕ) (link : TableLink) → IsReachedAs step word levels s table (suc link.below) there link.parent → IsCleared word word' link → 0 < times word levels table link.page
named_reached step word s table there word' link on is =
    let self : times word link.below link.page link.page ≡ is_one link.page link.page = alone_times word link.below link.page link.page is.last in
    let one : is_one link.page link.page ≡ 1 = one_self link.page in
    let below : times word link.below link.page link.page ≤ times word (suc link.below) link.parent link.page = times_below word link.below link.parent link.page link.slot link.page is.within is.leads in
    let all : times word (suc link.below) link.parent link.page ≤ times word levels table link.page = reached_le step word levels s table (suc link.below) there link.parent link.page on in
    omega arith

-- the page that is given is reached
given_reached : (want : Wants) (word word' : ℕ → ℕ) (table : ℕ) (move : Move) → IsMoved want word word' table move → (q : ℕ) → is_given table move q ≡ true → 0 < times word levels table q
given_reached want word word' table (Prune there link) is q given =
    subst (λ z. 0 < times word levels table z) (eqb-true link.page q given) (named_reached (staying want) word (Some 0) table there word' link is.reached is.cleared)
given_reached want word word' table (Empty t) is q given = absurd (false≢true given)
given_reached want word word' table (Fill t) is q given = absurd (false≢true given)
given_reached want word word' table (Make slot page) is q given = absurd (false≢true given)
given_reached want word word' table (Link ahead) is q given = absurd (false≢true given)
given_reached want word word' table (TakeAway link) is q given =
    subst (λ z. 0 < times word levels table z) (eqb-true link.page q given) (named_reached unmoved word None table None word' link is.reached is.cleared)
given_reached want word word' table End is q given = subst (λ z. 0 < times word levels table z) (eqb-true table q given) (self_times word 3 table table refl)

-- ---- what is reached after, as a test

or_none : (b : Bool) → (b || false) ≡ b
or_none true = refl
or_none false = refl

-- a page that is reached once, and goes
lost : (a b : ℕ) (e : Bool) → b ≤ 1 → a + (if e then 1 else 0) ≡ b + 0 → nat_lt 0 a ≡ (if e then false else nat_lt 0 b)
lost a b true once is = le-ltb 0 a (omega arith)
lost a b false once is = let same : a ≡ b = omega arith in ap (nat_lt 0) same

-- a page that comes
got : (a b : ℕ) (e : Bool) → a + 0 ≡ b + (if e then 1 else 0) → nat_lt 0 a ≡ (nat_lt 0 b || e)
got a b true is = let some : 0 < a = omega arith in lt-ltb 0 a some ∙ sym (or_right (nat_lt 0 b) true refl)
got a b false is = let same : a ≡ b = omega arith in ap (nat_lt 0) same ∙ sym (or_none (nat_lt 0 b))

kept : (a b : ℕ) → a + 0 ≡ b + 0 → nat_lt 0 a ≡ nat_lt 0 b
kept a b is = let same : a ≡ b = omega arith in ap (nat_lt 0) same

-- the tests of an edit's pages before and after, by whether the page is given, taken or ahead
gives : (e n : Bool) → ((if e then false else n) || false) ≡ (if e then false else (false || (n || false)))
gives true n = refl
gives false n = refl

takes : (e n : Bool) → (n || e) ≡ (if false then false else (e || (n || false)))
takes true true = refl
takes true false = refl
takes false true = refl
takes false false = refl

links : (e n : Bool) → ((n || e) || false) ≡ (if false then false else (false || (n || e)))
links e n = or_none (n || e)

ends : (e : Bool) → false ≡ (if e then false else (false || (nat_lt 0 (if e then 1 else 0) || false)))
ends true = refl
ends false = refl

-- ---- the edit's pages after

-- the test of the tables and of the page ahead
abbrev pub has_page : (ℕ → ℕ) → ℕ → Option Ahead → ℕ → Bool
has_page word table ahead q = nat_lt 0 (times word levels table q) || is_ahead ahead q

-- where the edit isn't over after it, a turn gives one page, takes one, or neither
has_after : (want : Wants) (word word' : ℕ → ℕ) (table : ℕ) (removing : Bool) (ahead : Option Ahead) (move : Move) → AreApart word table → IsAtTurn removing ahead move → IsMoved want word word' table move
    → (move ≡ End → ⊥) → (q : ℕ) → has_page word' table (ahead_after move) q ≡ (if is_given table move q then false else (is_taken move q || has_page word table ahead q))
has_after want word word' table removing a (Prune there link) apart at is going q =
    ap (λ b. b || false) (lost (times word' levels table q) (times word levels table q) (nat_eq link.page q) (apart.once q) (moved_times want word word' table (Prune there link) apart is q))
    ∙ (gives (nat_eq link.page q) (nat_lt 0 (times word levels table q)) ∙ ap (λ x. if nat_eq link.page q then false else (false || (nat_lt 0 (times word levels table q) || is_ahead x q))) (sym at.1))
has_after want word word' table removing a (Empty t) apart at is going q =
    ap (λ b. b || false) (kept (times word' levels table q) (times word levels table q) (moved_times want word word' table (Empty t) apart is q)) ∙ ap (λ x. nat_lt 0 (times word levels table q) || is_ahead x q) (sym at.1)
has_after want word word' table removing a (Fill t) apart at is going q =
    ap (λ b. b || false) (kept (times word' levels table q) (times word levels table q) (moved_times want word word' table (Fill t) apart is q)) ∙ ap (λ x. nat_lt 0 (times word levels table q) || is_ahead x q) (sym at.1)
has_after want word word' table removing a (Make slot page) apart at is going q =
    ap (λ b. b || nat_eq page q) (kept (times word' levels table q) (times word levels table q) (moved_times want word word' table (Make slot page) apart is q))
    ∙ (takes (nat_eq page q) (nat_lt 0 (times word levels table q)) ∙ ap (λ x. nat_eq page q || (nat_lt 0 (times word levels table q) || is_ahead x q)) (sym at.1))
has_after want word word' table removing a (Link linked) apart at is going q =
    ap (λ b. b || false) (got (times word' levels table q) (times word levels table q) (nat_eq linked.page q) (moved_times want word word' table (Link linked) apart is q))
    ∙ (links (nat_eq linked.page q) (nat_lt 0 (times word levels table q)) ∙ ap (λ x. nat_lt 0 (times word levels table q) || is_ahead x q) (sym at.1))
has_after want word word' table removing a (TakeAway link) apart at is going q =
    ap (λ b. b || false) (lost (times word' levels table q) (times word levels table q) (nat_eq link.page q) (apart.once q) (moved_times want word word' table (TakeAway link) apart is q))
    ∙ (gives (nat_eq link.page q) (nat_lt 0 (times word levels table q)) ∙ ap (λ x. if nat_eq link.page q then false else (false || (nat_lt 0 (times word levels table q) || is_ahead x q))) (sym at.1))
has_after want word word' table removing a End apart at is going q = absurd (going refl)

-- the last turn of a removal gives the first table, and nothing else is reached
ends_with : (want : Wants) (word word' : ℕ → ℕ) (table : ℕ) (removing : Bool) (ahead : Option Ahead) → IsAtTurn removing ahead End → IsMoved want word word' table End → (q : ℕ) → false ≡ (if is_given table End q then false else (is_taken End q || has_page word table ahead q))
ends_with want word word' table removing a at is q =
    ends (nat_eq table q)
    ∙ (ap (λ n. if nat_eq table q then false else (false || (nat_lt 0 n || false))) (sym (alone_times word levels table q is.last)) ∙ ap (λ x. if nat_eq table q then false else (false || (nat_lt 0 (times word levels table q) || is_ahead x q))) (sym at.1))

-- ---- the end of a removal

pub pages_some : (word : ℕ → ℕ) (table : ℕ) → 0 < pages_reached word levels table
pages_some word table = let all = pages_more word 3 table in omega arith

-- only the last turn of a removal ends it
goes_on : (old new : EditView) (want : Wants) (word word' : ℕ → ℕ) (move : Move) → AreApart word old.table → Plans old want word → IsTurn old new want word word' move → (move ≡ End → ⊥) → is_over new ≡ false
goes_on old new want word word' (Prune there link) apart plans is going = and_left new.removing (nat_eq new.left 0) (is.removing ∙ is.at.0)
goes_on old new want word word' (Empty t) apart plans is going = and_left new.removing (nat_eq new.left 0) (is.removing ∙ is.at.0)
goes_on old new want word word' (Fill t) apart plans is going = and_left new.removing (nat_eq new.left 0) (is.removing ∙ is.at.0)
goes_on old new want word word' (Make slot page) apart plans is going = and_left new.removing (nat_eq new.left 0) (is.removing ∙ is.at.0)
goes_on old new want word word' (Link ahead) apart plans is going = and_left new.removing (nat_eq new.left 0) (is.removing ∙ is.at.0)
goes_on old new want word word' (TakeAway link) apart plans is going =
    let turns : old.left ≡ pages_reached word levels old.table = (plans.removal is.at.0).turns in
    let left : new.left + 1 ≡ old.left = is.left in
    let taken : pages_reached word' levels old.table + 1 ≡ pages_reached word levels old.table = taken_pages word word' old.table link apart is.moved in
    let some : 0 < pages_reached word' levels old.table = pages_some word' old.table in
    not_over new (omega arith)
goes_on old new want word word' End apart plans is going = absurd (going refl)

-- and that one does
ends_at : (old new : EditView) (want : Wants) (word word' : ℕ → ℕ) → Plans old want word → IsTurn old new want word word' End → is_over new ≡ true
ends_at old new want word word' plans is =
    let turns : old.left ≡ pages_reached word levels old.table = (plans.removal is.at.0).turns in
    let left : new.left + 1 ≡ old.left = is.left in
    let last : pages_reached word levels old.table ≡ 1 = is.moved.last in
    let none : new.left ≡ 0 = omega arith in
    ap (λ r. r && nat_eq new.left 0) (is.removing ∙ is.at.0) ∙ ap (λ l. nat_eq l 0) none

-- ---- whose pages they are

mine_goes_on : (old new : EditView) (want : Wants) (word word' : ℕ → ℕ) (move : Move) → AreApart word old.table → Plans old want word → IsTurn old new want word word' move → (move ≡ End → ⊥)
    → (q : ℕ) → is_mine new word' q ≡ (if is_given old.table move q then false else (is_taken move q || is_mine old word q))
mine_goes_on old new want word word' move apart plans is going q =
    let left : new.left + 1 ≡ old.left = is.left in
    let some : 0 < old.left = omega arith in
    mine_is new word' q (goes_on old new want word word' move apart plans is going)
    ∙ (ap (λ t. has_page word' t new.ahead q) is.table
    ∙ (ap (λ a. has_page word' old.table a q) is.ahead
    ∙ (has_after want word word' old.table old.removing old.ahead move apart is.at is.moved going q ∙ ap (λ m. if is_given old.table move q then false else (is_taken move q || m)) (sym (mine_is old word q (not_over old some))))))

mine_ends : (old new : EditView) (want : Wants) (word word' : ℕ → ℕ) → Plans old want word → IsTurn old new want word word' End → (q : ℕ) → is_mine new word' q ≡ (if is_given old.table End q then false else (is_taken End q || is_mine old word q))
mine_ends old new want word word' plans is q =
    let left : new.left + 1 ≡ old.left = is.left in
    let some : 0 < old.left = omega arith in
    ap (λ b. if b then false else has_page word' new.table new.ahead q) (ends_at old new want word word' plans is)
    ∙ (ends_with want word word' old.table old.removing old.ahead is.at is.moved q ∙ ap (λ m. if is_given old.table End q then false else (is_taken End q || m)) (sym (mine_is old word q (not_over old some))))

-- after a turn the edit's pages are those of before and the one taken, but not the one given
pub mine_after : (old new : EditView) (want : Wants) (word word' : ℕ → ℕ) (move : Move) → AreApart word old.table → Plans old want word → IsTurn old new want word word' move
    → (q : ℕ) → is_mine new word' q ≡ (if is_given old.table move q then false else (is_taken move q || is_mine old word q))
mine_after old new want word word' (Prune there link) apart plans is q = mine_goes_on old new want word word' (Prune there link) apart plans is (λ e. let wrong : ⊥ = cc in wrong) q
mine_after old new want word word' (Empty t) apart plans is q = mine_goes_on old new want word word' (Empty t) apart plans is (λ e. let wrong : ⊥ = cc in wrong) q
mine_after old new want word word' (Fill t) apart plans is q = mine_goes_on old new want word word' (Fill t) apart plans is (λ e. let wrong : ⊥ = cc in wrong) q
mine_after old new want word word' (Make slot page) apart plans is q = mine_goes_on old new want word word' (Make slot page) apart plans is (λ e. let wrong : ⊥ = cc in wrong) q
mine_after old new want word word' (Link ahead) apart plans is q = mine_goes_on old new want word word' (Link ahead) apart plans is (λ e. let wrong : ⊥ = cc in wrong) q
mine_after old new want word word' (TakeAway link) apart plans is q = mine_goes_on old new want word word' (TakeAway link) apart plans is (λ e. let wrong : ⊥ = cc in wrong) q
mine_after old new want word word' End apart plans is q = mine_ends old new want word word' plans is q

-- the page that is given is the edit's
given_mine : (old new : EditView) (want : Wants) (word word' : ℕ → ℕ) (move : Move) → IsTurn old new want word word' move → (q : ℕ) → is_given old.table move q ≡ true → is_mine old word q ≡ true
given_mine old new want word word' move is q given =
    let left : new.left + 1 ≡ old.left = is.left in
    let some : 0 < old.left = omega arith in
    mine_is old word q (not_over old some) ∙ or_left (nat_lt 0 (times word levels old.table q)) (is_ahead old.ahead q) (lt-ltb 0 (times word levels old.table q) (given_reached want word word' old.table move is.moved q given))

-- ---- pages of the pool

-- a page of the pool is one after, and the other way round
pub same_range : (old new : PoolView) (q : ℕ) → new.base ≡ old.base → new.size ≡ old.size → IsPageOf old q → IsPageOf new q
same_range old new q base size is =
    let above : old.base ≤ q = is.above in
    let below : q < old.base + 4096 * old.size = is.below in
    record { aligned = is.aligned; above = omega arith; below = omega arith }

-- the test after, by whether the page is given or taken
free_given : (old new : PoolView) (table : ℕ) (move : Move) (q : ℕ) → IsPoolAfter table move old new → is_given table move q ≡ true → is_free new q ≡ true
free_given old new table move q is given = is.free q ∙ ap (λ b. if b then true else if is_taken move q then false else is_free old q) given

free_taken : (old new : PoolView) (table : ℕ) (move : Move) (q : ℕ) → IsPoolAfter table move old new → is_given table move q ≡ false → is_taken move q ≡ true → is_free new q ≡ false
free_taken old new table move q is given taken =
    is.free q ∙ (ap (λ b. if b then true else if is_taken move q then false else is_free old q) given ∙ ap (λ b. if b then false else is_free old q) taken)

free_other : (old new : PoolView) (table : ℕ) (move : Move) (q : ℕ) → IsPoolAfter table move old new → is_given table move q ≡ false → is_taken move q ≡ false → is_free new q ≡ is_free old q
free_other old new table move q is given taken =
    is.free q ∙ (ap (λ b. if b then true else if is_taken move q then false else is_free old q) given ∙ ap (λ b. if b then false else is_free old q) taken)

-- the taken pages after: those of before that weren't the edit's, and the edit's now
pub turn_pages : (old new : EditView) (want : Wants) (word word' : ℕ → ℕ) (move : Move) (pool pool' : PoolView) → AreApart word old.table → Plans old want word → HasTaken old word pool → IsTurn old new want word word' move → IsPoolAfter old.table move pool pool'
    → (q : ℕ) → IsTakenPage pool' q ↔ ((IsTakenPage pool q × (is_mine old word q ≡ false)) ⊎ (is_mine new word' q ≡ true))
turn_pages old new want word word' move pool pool' apart plans taken is after q =
    let G = is_given old.table move q in
    let T = is_taken move q in
    let M = is_mine old word q in
    let mine : is_mine new word' q ≡ (if G then false else (T || M)) = mine_after old new want word word' move apart plans is q in
    let mine_given : G ≡ true → is_mine new word' q ≡ false = λ g. mine ∙ ap (λ b. if b then false else (T || M)) g in
    let mine_kept : G ≡ false → is_mine new word' q ≡ (T || M) = λ g. mine ∙ ap (λ b. if b then false else (T || M)) g in (
      λ now. ⊎_elim
          (λ g. absurd (false≢true (sym now.taken ∙ free_given pool pool' old.table move q after g)))
          (λ g. ⊎_elim
          (λ t. inr (mine_kept g ∙ or_left T M t))
          (λ t. ⊎_elim
          (λ m. inr (mine_kept g ∙ or_right T M m))
          (λ m. inl (record { in_range = same_range pool' pool q (sym after.base) (sym after.size) now.in_range; taken = sym (free_other pool pool' old.table move q after g t) ∙ now.taken }, m))
          (cases_Bool M))
          (cases_Bool T))
          (cases_Bool G),
      λ either. ⊎_elim
          (λ before. ⊎_elim
          (λ g. absurd (false≢true (sym before.1 ∙ given_mine old new want word word' move is q g)))
          (λ g. record {
            in_range = same_range pool pool' q after.base after.size before.0.in_range;
            taken = ⊎_elim (λ t. free_taken pool pool' old.table move q after g t) (λ t. free_other pool pool' old.table move q after g t ∙ before.0.taken) (cases_Bool T);
          })
          (cases_Bool G))
          (λ now. ⊎_elim
          (λ g. absurd (false≢true (sym (mine_given g) ∙ now)))
          (λ g. ⊎_elim
          (λ t. record { in_range = same_range pool pool' q after.base after.size (after.from q t); taken = free_taken pool pool' old.table move q after g t })
          (λ t.
          let m : M ≡ true = sym (ap (λ b. b || M) t) ∙ (sym (mine_kept g) ∙ now) in
          record { in_range = same_range pool pool' q after.base after.size (taken q m).in_range; taken = free_other pool pool' old.table move q after g t ∙ (taken q m).taken })
          (cases_Bool T))
          (cases_Bool G))
          either,
    )

-- what is the edit's now and wasn't before was free
pub turn_fresh : (old new : EditView) (want : Wants) (word word' : ℕ → ℕ) (move : Move) (pool pool' : PoolView) → AreApart word old.table → Plans old want word → IsTurn old new want word word' move → IsPoolAfter old.table move pool pool'
    → (q : ℕ) → is_mine new word' q ≡ true → is_mine old word q ≡ false → is_free pool q ≡ true
turn_fresh old new want word word' move pool pool' apart plans is after q now before =
    let G = is_given old.table move q in
    let T = is_taken move q in
    let M = is_mine old word q in
    let mine : is_mine new word' q ≡ (if G then false else (T || M)) = mine_after old new want word word' move apart plans is q in
    ⊎_elim
    (λ g. absurd (false≢true (sym (mine ∙ ap (λ b. if b then false else (T || M)) g) ∙ now)))
    (λ g. ⊎_elim
    (λ t. after.was_free q t)
    (λ t. absurd (false≢true (sym (mine ∙ (ap (λ b. if b then false else (T || M)) g ∙ (ap (λ b. b || M) t ∙ before))) ∙ now)))
    (cases_Bool T))
    (cases_Bool G)

-- ---- how many pages

-- of a turn towards a target, what is linked, taken and ahead make up for one another, but for the page that is given
room_by : (removing : Bool) (ahead : Option Ahead) (move : Move) → removing ≡ false → IsAtTurn removing ahead move → taken_count move + ahead_count ahead ≤ tables_linked move + ahead_count (ahead_after move) + given_count move
room_by removing ahead (Prune there link) aims at = let none : ahead_count ahead ≡ 0 = ap ahead_count at.1 in omega arith
room_by removing ahead (Empty t) aims at = let none : ahead_count ahead ≡ 0 = ap ahead_count at.1 in omega arith
room_by removing ahead (Fill t) aims at = let none : ahead_count ahead ≡ 0 = ap ahead_count at.1 in omega arith
room_by removing ahead (Make slot page) aims at = let none : ahead_count ahead ≡ 0 = ap ahead_count at.1 in omega arith
room_by removing ahead (Link linked) aims at = let one : ahead_count ahead ≡ 1 = ap ahead_count at.1 in omega arith
room_by removing ahead (TakeAway link) aims at = absurd (false≢true (sym aims ∙ at.0))
room_by removing ahead End aims at = absurd (false≢true (sym aims ∙ at.0))

pub turn_room : (old new : EditView) (want : Wants) (word word' : ℕ → ℕ) (move : Move) (pool pool' : PoolView) → AreApart word old.table → old.removing ≡ false → IsTurn old new want word word' move → IsPoolAfter old.table move pool pool'
    → lack_of want word' levels old.table 0 + used_of pool' + ahead_count old.ahead ≤ lack_of want word levels old.table 0 + used_of pool + ahead_count new.ahead
turn_room old new want word word' move pool pool' apart aims is after =
    let lack : lack_of want word' levels old.table 0 + tables_linked move ≡ lack_of want word levels old.table 0 = moved_lack want word word' old.table old.removing old.ahead move apart aims is.at is.moved in
    let used : used_of pool' + given_count move ≡ used_of pool + taken_count move = after.used in
    let ahead : ahead_count new.ahead ≡ ahead_count (ahead_after move) = ap ahead_count is.ahead in
    let room : taken_count move + ahead_count old.ahead ≤ tables_linked move + ahead_count (ahead_after move) + given_count move = room_by old.removing old.ahead move aims is.at in
    omega arith

-- a turn of a removal gives one page
given_by : (removing : Bool) (ahead : Option Ahead) (move : Move) → removing ≡ true → IsAtTurn removing ahead move → (given_count move ≡ 1) × (taken_count move ≡ 0)
given_by removing ahead (Prune there link) away at = absurd (false≢true (sym at.0 ∙ away))
given_by removing ahead (Empty t) away at = absurd (false≢true (sym at.0 ∙ away))
given_by removing ahead (Fill t) away at = absurd (false≢true (sym at.0 ∙ away))
given_by removing ahead (Make slot page) away at = absurd (false≢true (sym at.0 ∙ away))
given_by removing ahead (Link linked) away at = absurd (false≢true (sym at.0 ∙ away))
given_by removing ahead (TakeAway link) away at = (refl, refl)
given_by removing ahead End away at = (refl, refl)

pub turn_given : (old new : EditView) (want : Wants) (word word' : ℕ → ℕ) (move : Move) (pool pool' : PoolView) → old.removing ≡ true → IsTurn old new want word word' move → IsPoolAfter old.table move pool pool' → used_of pool' + 1 ≡ used_of pool
turn_given old new want word word' move pool pool' away is after =
    let used : used_of pool' + given_count move ≡ used_of pool + taken_count move = after.used in
    let given = given_by old.removing old.ahead move away is.at in
    let one : given_count move ≡ 1 = given.0 in
    let none : taken_count move ≡ 0 = given.1 in
    omega arith
