-- What a walk finds after a turn: what one found before, or what is wanted.
use Rattle.std.proofs.Common.{◌≡◌, ℕ, ◌+◌, ◌-◌, ◌*◌, ◌/◌, ◌<◌, ◌⊎◌, inl, inr, zero, suc, ap, ◌∙◌, sym, Bool, true, false, nat_lt, if◌then◌else◌, Option, Some, None, refl, ⊎_elim}
use Rattle.std.proofs.lemmas.Bool.{cases_Bool, cases_eq, false≢true}
use Rattle.jh_num.specs.declared.address.TheConstants.{ADDRESS_END}
use Rattle.jh_num.specs.declared.level.TheConstants.{LAST_LEVEL}
use Rattle.jh_num.specs.Levels.{slot_size}
use Rattle.jh_desc.specs.declared.descriptor.Descriptor.{Descriptor}
use Rattle.jh_desc.specs.declared.descriptor.Descriptor.TheVariants.{Invalid, Table, Leaf}
use Rattle.jh_desc.specs.declared.descriptor.Hit.{Hit}
use Rattle.jh_desc.specs.Descriptors.{read_of}
use Rattle.jh_desc.specs.Levels.{index_of}
use Rattle.jh_walk.specs.Walks.{levels, walk_of, walk_on}
use Rattle.jh_walk.proofs.Public.{grown_walk, index_small, walk_same}
use Rattle.jh_shape.specs.declared.want.Want.{Want}
use Rattle.jh_shape.specs.declared.want.Want.TheVariants.{Nothing, Table as WantTable, Leaf as WantLeaf}
use Rattle.jh_shape.specs.Laws.{is_to_table}
use Rattle.jh_shape.specs.Wanted.{Wants, slot_start}
use Rattle.jh_edit.specs.declared.edit.Ahead.{Ahead}
use Rattle.jh_edit.specs.Trees.{staying, walked, walked_on}
use Rattle.jh_edit.specs.Turns.{filled, lacks_leaf}
use Rattle.jh_edit.specs.Plans.{IsMade, IsMadeTable, begin_of}
use Rattle.jh_edit.specs.Moves.{IsAtTurn, IsFilled, IsLinked, IsMoved, Move, StayingTable, Prune, Empty, Fill, Make, Link, TakeAway, End}
use Rattle.jh_edit.proofs.MovePathLemmas.{IsChange, PassesUp, below_same, but_others, change_holds, same_tables}
use Rattle.jh_edit.proofs.MoveTurnLemmas.{AreApart, fill_change, link_change, link_links, link_others, linked_made, prune_change, take_change}
use Rattle.jh_edit.proofs.MoveBreakLemmas.{cleared_shrinks, emptied_shrinks}

-- ---- one level

walk_more : (word : ℕ → ℕ) (n table at : ℕ) → walk_of word (suc n) table at ≡ walk_on (λ next. walk_of word n next at) (LAST_LEVEL - n) at (read_of (word (table + 8 * index_of (LAST_LEVEL - n) at)) (LAST_LEVEL - n))
unfolding walk_of
walk_more word n table at = refl

walk_none : (word : ℕ → ℕ) (table at : ℕ) → walk_of word zero table at ≡ None
unfolding walk_of
walk_none word table at = refl

walked_more : (want : Wants) (n start at : ℕ) → walked want (suc n) start at ≡ walked_on (walked want n (slot_start (LAST_LEVEL - n) start (index_of (LAST_LEVEL - n) at)) at) (LAST_LEVEL - n) at (want (LAST_LEVEL - n) (slot_start (LAST_LEVEL - n) start (index_of (LAST_LEVEL - n) at)))
unfolding walked
walked_more want n start at = refl

index_few : (n at : ℕ) → index_of (LAST_LEVEL - n) at < 512
index_few n at = index_small (at / slot_size (LAST_LEVEL - n))

next_step : (b : Bool) (x x' : Option Hit) (hit : Hit) (Other : Type 0) → (x' ≡ Some hit → (x ≡ Some hit) ⊎ Other) → (if b then x' else None) ≡ Some hit → ((if b then x else None) ≡ Some hit) ⊎ Other
next_step true x x' hit Other more e = more e
next_step false x x' hit Other more e = inl e

-- what is found through a descriptor is found through the same one, or else it is the other
walk_step : (on on' : ℕ → Option Hit) (level at : ℕ) (hit : Hit) (d : Descriptor) (Other : Type 0) → ((next : ℕ) → d ≡ Table next → on' next ≡ Some hit → (on next ≡ Some hit) ⊎ Other) → walk_on on' level at d ≡ Some hit → (walk_on on level at d ≡ Some hit) ⊎ Other
walk_step on on' level at hit Invalid Other more e = inl e
walk_step on on' level at hit (Leaf o r v) Other more e = inl e
walk_step on on' level at hit (Table next) Other more e = next_step (nat_lt next ADDRESS_END) (on next) (on' next) hit Other (more next refl) e

-- through a slot with the same word
slot_step : (word word' : ℕ → ℕ) (n table at : ℕ) (hit : Hit) (Other : Type 0) → word' (table + 8 * index_of (LAST_LEVEL - n) at) ≡ word (table + 8 * index_of (LAST_LEVEL - n) at)
    → ((next : ℕ) → read_of (word (table + 8 * index_of (LAST_LEVEL - n) at)) (LAST_LEVEL - n) ≡ Table next → walk_of word' n next at ≡ Some hit → (walk_of word n next at ≡ Some hit) ⊎ Other)
    → walk_of word' (suc n) table at ≡ Some hit → (walk_of word (suc n) table at ≡ Some hit) ⊎ Other
slot_step word word' n table at hit Other same more found =
    let L = LAST_LEVEL - n in
    let i = index_of L at in
    let here : walk_on (λ next. walk_of word' n next at) L at (read_of (word (table + 8 * i)) L) ≡ Some hit =
    ap (λ w. walk_on (λ next. walk_of word' n next at) L at (read_of w L)) (sym same) ∙ (sym (walk_more word' n table at) ∙ found) in
    ⊎_elim (λ old. inl (walk_more word n table at ∙ old)) (λ other. inr other)
    (walk_step (λ next. walk_of word n next at) (λ next. walk_of word' n next at) L at hit (read_of (word (table + 8 * i)) L) Other more here)

-- ---- what is wanted

-- the wants of a table that stays give that; of one that goes they give nothing
abbrev pub IsFoundBy : Wants → ℕ → ℕ → Option ℕ → Hit → Type 0
IsFoundBy want at n None hit = ⊥
IsFoundBy want at n (Some start) hit = walked want n start at ≡ Some hit

found_on : (want : Wants) (n S level at : ℕ) (hit : Hit) (w : Want) → IsFoundBy want at n (if is_to_table w then Some S else None) hit → walked_on (walked want n S at) level at w ≡ Some hit
found_on want n S level at hit Nothing found = absurd found
found_on want n S level at hit WantTable found = found
found_on want n S level at hit (WantLeaf o r v) found = absurd found

found_up : (want : Wants) (n : ℕ) (s : Option ℕ) (at : ℕ) (hit : Hit) → IsFoundBy want at n (staying want s n (index_of (LAST_LEVEL - n) at)) hit → IsFoundBy want at (suc n) s hit
found_up want n None at hit found = found
found_up want n (Some start) at hit found =
    let S = slot_start (LAST_LEVEL - n) start (index_of (LAST_LEVEL - n) at) in
    walked_more want n start at ∙ found_on want n S (LAST_LEVEL - n) at hit (want (LAST_LEVEL - n) S) found

-- what is found is found before, or wanted
abbrev pub WalksAt : Wants → (ℕ → ℕ) → (ℕ → ℕ) → ℕ → Hit → ℕ → Option ℕ → ℕ → Type 0
WalksAt want word word' at hit n s table = walk_of word' n table at ≡ Some hit → (walk_of word n table at ≡ Some hit) ⊎ IsFoundBy want at n s hit

walks_passes : (want : Wants) (word word' : ℕ → ℕ) (at : ℕ) (hit : Hit) → PassesUp (staying want) word word' (WalksAt want word word' at hit)
walks_passes want word word' at hit = record {
  none = λ s table found. inl (walk_none word table at ∙ (sym (walk_none word' table at) ∙ found));
  up = λ n s table same below found.
      slot_step word word' n table at hit (IsFoundBy want at (suc n) s hit) (same (index_of (LAST_LEVEL - n) at) (index_few n at))
      (λ next leads more. ⊎_elim (λ old. inl old) (λ other. inr (found_up want n s at hit other)) (below (index_of (LAST_LEVEL - n) at) next (index_few n at) leads more)) found;
}

-- through a slot of the page that changes whose word is the same
stays_found : (want : Wants) (word word' : ℕ → ℕ) (table m : ℕ) (there : Option ℕ) (page at : ℕ) (hit : Hit) (Other : Type 0) → IsChange (staying want) word word' levels (Some 0) table m there page
    → word' (page + 8 * index_of (LAST_LEVEL - m) at) ≡ word (page + 8 * index_of (LAST_LEVEL - m) at) → walk_of word' (suc m) page at ≡ Some hit → (walk_of word (suc m) page at ≡ Some hit) ⊎ Other
stays_found want word word' table m there page at hit Other change same found =
    slot_step word word' m page at hit Other same
    (λ next leads more. inl (sym (walk_same word word' m next at (below_same (staying want) word word' levels (Some 0) table m there page change (index_of (LAST_LEVEL - m) at) next (index_few m at) leads)) ∙ more)) found

-- ---- a table that is filled

filled_on : (on : ℕ → Option Hit) (rest : Option Hit) (level at : ℕ) (hit : Hit) (w : Want) (d d' : Descriptor) → d' ≡ filled w d → lacks_leaf w d ≡ true → walk_on on level at d' ≡ Some hit → walked_on rest level at w ≡ Some hit
filled_on on rest level at hit Nothing d d' is lacks found = absurd (false≢true lacks)
filled_on on rest level at hit WantTable d d' is lacks found = absurd (false≢true lacks)
filled_on on rest level at hit (WantLeaf o r v) d d' is lacks found = ap (walk_on on level at) (sym is) ∙ found

filled_walks : (want : Wants) (word word' : ℕ → ℕ) (table : ℕ) (t : StayingTable) (at : ℕ) (hit : Hit) → AreApart word table → IsFilled want word word' table t → WalksAt want word word' at hit (suc t.below) (Some t.start) t.page
filled_walks want word word' table t at hit apart is found =
    let change = fill_change want word word' table t apart is in
    let L = LAST_LEVEL - t.below in
    let i = index_of L at in
    let S = slot_start L t.start i in
    let few : i < 512 = index_few t.below at in
    ⊎_elim
    (λ lacks. inr (walked_more want t.below t.start at
    ∙ filled_on (λ next. walk_of word' t.below next at) (walked want t.below S at) L at hit (want L S) (read_of (word (t.page + 8 * i)) L) (read_of (word' (t.page + 8 * i)) L) (is.fills i few) lacks (sym (walk_more word' t.below t.page at) ∙ found)))
    (λ full. stays_found want word word' table t.below (Some t.start) t.page at hit (walked want (suc t.below) t.start at ≡ Some hit) change (is.kept i few full) found)
    (cases_Bool (lacks_leaf (want L S) (read_of (word (t.page + 8 * i)) L)))

-- ---- a table that is linked

made_on : (on : ℕ → Option Hit) (rest : Option Hit) (level at : ℕ) (hit : Hit) (w : Want) (d : Descriptor) → IsMade w d → walk_on on level at d ≡ Some hit → walked_on rest level at w ≡ Some hit
made_on on rest level at hit Nothing d is found = ap (walk_on on level at) (sym is) ∙ found
made_on on rest level at hit WantTable d is found = let no : None ≡ Some hit = ap (walk_on on level at) (sym is) ∙ found in let wrong : ⊥ = cc in absurd wrong
made_on on rest level at hit (WantLeaf o r v) d is found = ap (walk_on on level at) (sym is) ∙ found

made_found : (want : Wants) (word : ℕ → ℕ) (n page start at : ℕ) (hit : Hit) → IsMadeTable want word n page start → walk_of word (suc n) page at ≡ Some hit → walked want (suc n) start at ≡ Some hit
made_found want word n page start at hit made found =
    let L = LAST_LEVEL - n in
    let S = slot_start L start (index_of L at) in
    walked_more want n start at
    ∙ made_on (λ next. walk_of word n next at) (walked want n S at) L at hit (want L S) (read_of (word (page + 8 * index_of L at)) L) (made (index_of L at) (index_few n at)) (sym (walk_more word n page at) ∙ found)

if_found : (b : Bool) (x : Option Hit) (hit : Hit) → (if b then x else None) ≡ Some hit → x ≡ Some hit
if_found true x hit e = e
if_found false x hit e = let no : None ≡ Some hit = e in let wrong : ⊥ = cc in absurd wrong

-- through the slot that is linked
link_found : (want : Wants) (word' : ℕ → ℕ) (n parent start slot page at : ℕ) (hit : Hit) → want (LAST_LEVEL - n) (slot_start (LAST_LEVEL - n) start slot) ≡ WantTable → read_of (word' (parent + 8 * slot)) (LAST_LEVEL - n) ≡ Table page
    → (walk_of word' n page at ≡ Some hit → walked want n (slot_start (LAST_LEVEL - n) start slot) at ≡ Some hit) → index_of (LAST_LEVEL - n) at ≡ slot → walk_of word' (suc n) parent at ≡ Some hit → walked want (suc n) start at ≡ Some hit
link_found want word' n parent start slot page at hit wanted leads below is found =
    let L = LAST_LEVEL - n in
    let S = λ (i : ℕ). slot_start L start i in
    let on = λ (next : ℕ). walk_of word' n next at in
    let table : walk_on on L at (Table page) ≡ Some hit =
    ap (walk_on on L at) (sym leads) ∙ (ap (λ i. walk_on on L at (read_of (word' (parent + 8 * i)) L)) (sym is) ∙ (sym (walk_more word' n parent at) ∙ found)) in
    walked_more want n start at
    ∙ (ap (λ i. walked_on (walked want n (S i) at) L at (want L (S i))) is ∙ (ap (walked_on (walked want n (S slot) at) L at) wanted ∙ below (if_found (nat_lt page ADDRESS_END) (walk_of word' n page at) hit table)))

linked_walks : (want : Wants) (word word' : ℕ → ℕ) (table : ℕ) (ahead : Ahead) (at : ℕ) (hit : Hit) → AreApart word table → (is : IsLinked want word word' table ahead) → WalksAt want word word' at hit (suc (suc is.is.slot.below)) (Some is.is.slot.start) is.is.slot.parent
linked_walks want word word' table ahead at hit apart is found =
    let slot = is.is.slot in
    let n = suc slot.below in
    let change = link_change want word word' table ahead apart is in
    let links = link_links want word word' table ahead is in
    ⊎_elim
    (λ here. inr (link_found want word' n slot.parent slot.start slot.slot ahead.page at hit links.wanted links.leads
    (made_found want word' slot.below ahead.page (begin_of slot) at hit (linked_made want word word' table ahead apart is)) here found))
    (λ other. stays_found want word word' table n (Some slot.start) slot.parent at hit (walked want (suc n) slot.start at ≡ Some hit) change
    (but_others word word' slot.parent slot.slot (link_others want word word' table ahead is) (index_of (LAST_LEVEL - n) at) other) found)
    (cases_eq (index_of (LAST_LEVEL - n) at) slot.slot)

-- ---- in all

pub moved_walks : (want : Wants) (word word' : ℕ → ℕ) (table : ℕ) (removing : Bool) (ahead : Option Ahead) (move : Move) → AreApart word table → IsAtTurn removing ahead move → IsMoved want word word' table move → (at : ℕ) (hit : Hit)
    → walk_of word' levels table at ≡ Some hit → (walk_of word levels table at ≡ Some hit) ⊎ ((removing ≡ false) × (walked want levels 0 at ≡ Some hit))
moved_walks want word word' table removing a (Prune there link) apart turn is at hit found =
    inl (grown_walk word' word levels table at hit (cleared_shrinks (staying want) word word' (Some 0) table there link (prune_change want word word' table there link apart is) is.cleared) found)
moved_walks want word word' table removing a (Empty t) apart turn is at hit found = inl (grown_walk word' word levels table at hit (emptied_shrinks want word word' table t apart is) found)
moved_walks want word word' table removing a (Fill t) apart turn is at hit found =
    ⊎_elim (λ old. inl old) (λ new. inr (turn.0, new))
    (change_holds (staying want) word word' (WalksAt want word word' at hit) (walks_passes want word word' at hit) levels (Some 0) table t.below (Some t.start) t.page (fill_change want word word' table t apart is) (filled_walks want word word' table t at hit apart is) found)
moved_walks want word word' table removing a (Make slot page) apart turn is at hit found = inl (sym (walk_same word word' levels table at (same_tables word word' page levels table is.aligned is.outside apart.aligned is.apart)) ∙ found)
moved_walks want word word' table removing a (Link linked) apart turn is at hit found =
    let slot = is.is.slot in
    ⊎_elim (λ old. inl old) (λ new. inr (turn.0, new))
    (change_holds (staying want) word word' (WalksAt want word word' at hit) (walks_passes want word word' at hit) levels (Some 0) table (suc slot.below) (Some slot.start) slot.parent (link_change want word word' table linked apart is)
    (linked_walks want word word' table linked at hit apart is) found)
moved_walks want word word' table removing a (TakeAway link) apart turn is at hit found =
    inl (grown_walk word' word levels table at hit (cleared_shrinks (λ s n i. s) word word' None table None link (take_change word word' table link apart is) is.cleared) found)
moved_walks want word word' table removing a End apart turn is at hit found = inl (sym (walk_same word word' levels table at (record { words = λ page slot some few. is.same (page + 8 * slot) })) ∙ found)
