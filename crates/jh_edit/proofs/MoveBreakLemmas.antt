-- What a turn leaves of valid words: break before make, and where words are only cleared, or only come.
use Rattle.std.proofs.Common.{◌≡◌, ℕ, ◌+◌, ◌-◌, ◌*◌, ◌<◌, inl, inr, zero, suc, ap, ◌∙◌, sym, subst, true, false, if◌then◌else◌, Option, Some, None, refl, ⊎_elim}
use Rattle.std.proofs.lemmas.Bool.{cases_Bool, false≢true}
use Rattle.jh_num.specs.declared.level.TheConstants.{LAST_LEVEL}
use Rattle.jh_desc.specs.declared.descriptor.Descriptor.{Descriptor}
use Rattle.jh_desc.specs.declared.descriptor.Descriptor.TheVariants.{Invalid, Table, Leaf}
use Rattle.jh_desc.specs.Descriptors.{read_of}
use Rattle.jh_walk.specs.Counts.{Step, unmoved}
use Rattle.jh_walk.specs.Pages.{Grows, HaveSameTables, IsKept}
use Rattle.jh_walk.specs.Walks.{levels}
use Rattle.jh_shape.specs.declared.want.Want.{Want}
use Rattle.jh_shape.specs.declared.want.Want.TheVariants.{Nothing, Table as WantTable, Leaf as WantLeaf}
use Rattle.jh_shape.specs.Laws.{is_to_table}
use Rattle.jh_shape.specs.Wanted.{Wants, slot_start}
use Rattle.jh_edit.specs.declared.edit.Ahead.{Ahead}
use Rattle.jh_edit.specs.Trees.{staying}
use Rattle.jh_edit.specs.Turns.{Breaks, BreaksFirst, emptied, is_wrong_leaf, lacks_leaf}
use Rattle.jh_edit.specs.Moves.{IsCleared, IsEmptied, IsFilled, IsLinked, IsMoved, Move, StayingTable, TableLink, Prune, Empty, Fill, Make, Link, TakeAway, End, is_flushed}
use Rattle.jh_edit.proofs.LinkLemmas.{each}
use Rattle.jh_edit.proofs.SumLemmas.{any_down}
use Rattle.jh_edit.proofs.MovePathLemmas.{IsChange, PassesUp, below_same, but_others, change_holds, holds_same, same_tables}
use Rattle.jh_edit.proofs.MoveTurnLemmas.{AreApart, cleared_invalid, empty_change, fill_change, link_change, link_others, prune_change, take_change}

-- ---- slots

-- a leaf that isn't wanted so is emptied
pub emptied_wrong : (want : Want) (d : Descriptor) → is_wrong_leaf want d ≡ true → emptied want d ≡ Invalid
emptied_wrong want d wrong = ap (λ b. if b then Invalid else d) wrong

-- where a leaf lacks, and neither a wrong leaf nor a table too many is there, nothing is
pub lacking_invalid : (want : Want) (d : Descriptor) → lacks_leaf want d ≡ true → is_wrong_leaf want d ≡ false → (is_to_table want ≡ false → (next : ℕ) → d ≡ Table next → ⊥) → d ≡ Invalid
lacking_invalid Nothing d lacks right none = absurd (false≢true lacks)
lacking_invalid WantTable d lacks right none = absurd (false≢true lacks)
lacking_invalid (WantLeaf o r v) Invalid lacks right none = refl
lacking_invalid (WantLeaf o r v) (Table next) lacks right none = absurd (none refl next refl)
lacking_invalid (WantLeaf o r v) (Leaf o' r' v') lacks right none = absurd (false≢true (sym right ∙ lacks))

-- so it is of a table that is filled
pub filled_invalid : (want : Wants) (word word' : ℕ → ℕ) (table : ℕ) (t : StayingTable) → IsFilled want word word' table t → (i : ℕ) → i < 512
    → lacks_leaf (want (LAST_LEVEL - t.below) (slot_start (LAST_LEVEL - t.below) t.start i)) (read_of (word (t.page + 8 * i)) (LAST_LEVEL - t.below)) ≡ true → read_of (word (t.page + 8 * i)) (LAST_LEVEL - t.below) ≡ Invalid
filled_invalid want word word' table t is i few lacks =
    let W = λ (j : ℕ). want (LAST_LEVEL - t.below) (slot_start (LAST_LEVEL - t.below) t.start j) in
    let D = λ (j : ℕ). read_of (word (t.page + 8 * j)) (LAST_LEVEL - t.below) in
    lacking_invalid (W i) (D i) lacks (any_down (λ j. is_wrong_leaf (W j) (D j)) 512 is.right i few) (λ other next leads. is.tables i next few other leads)

-- ---- break before make

breaks_same : (on : ℕ → Type 0) (level w w' : ℕ) (d : Descriptor) → w' ≡ w → ((next : ℕ) → d ≡ Table next → on next) → BreaksFirst on level w w' d
breaks_same on level w w' Invalid same below = tt
breaks_same on level w w' (Leaf o r v) same below = inl same
breaks_same on level w w' (Table next) same below = inl (same, below next refl)

breaks_cleared : (on : ℕ → Type 0) (level w w' : ℕ) (d : Descriptor) → read_of w' level ≡ Invalid → BreaksFirst on level w w' d
breaks_cleared on level w w' Invalid none = tt
breaks_cleared on level w w' (Leaf o r v) none = inr none
breaks_cleared on level w w' (Table next) none = inr none

breaks_nothing : (on : ℕ → Type 0) (level w w' : ℕ) (d : Descriptor) → d ≡ Invalid → BreaksFirst on level w w' d
breaks_nothing on level w w' d none = subst (λ x. BreaksFirst on level w w' x) (sym none) tt

breaks_from : (word word' : ℕ → ℕ) (n table : ℕ) → ((i : ℕ) → i < 512 → BreaksFirst (Breaks word word' n) (LAST_LEVEL - n) (word (table + 8 * i)) (word' (table + 8 * i)) (read_of (word (table + 8 * i)) (LAST_LEVEL - n))) → Breaks word word' (suc n) table
unfolding Breaks
breaks_from word word' n table slots = slots

breaks_none : (word word' : ℕ → ℕ) (table : ℕ) → Breaks word word' zero table
unfolding Breaks
breaks_none word word' table = tt

abbrev pub BreaksAt : (ℕ → ℕ) → (ℕ → ℕ) → ℕ → Option ℕ → ℕ → Type 0
BreaksAt word word' n s table = Breaks word word' n table

breaks_passes : (step : Step) (word word' : ℕ → ℕ) → PassesUp step word word' (BreaksAt word word')
breaks_passes step word word' = record {
  none = λ s table. breaks_none word word' table;
  up = λ n s table same below. breaks_from word word' n table (λ i few.
      breaks_same (Breaks word word' n) (LAST_LEVEL - n) (word (table + 8 * i)) (word' (table + 8 * i)) (read_of (word (table + 8 * i)) (LAST_LEVEL - n)) (same i few) (λ next leads. below i next few leads));
}

-- a slot that stays, of the page that changes
breaks_stay : (step : Step) (word word' : ℕ → ℕ) (n : ℕ) (s : Option ℕ) (table m : ℕ) (there : Option ℕ) (page : ℕ) → IsChange step word word' n s table m there page → (i : ℕ) → i < 512 → word' (page + 8 * i) ≡ word (page + 8 * i)
    → BreaksFirst (Breaks word word' m) (LAST_LEVEL - m) (word (page + 8 * i)) (word' (page + 8 * i)) (read_of (word (page + 8 * i)) (LAST_LEVEL - m))
breaks_stay step word word' n s table m there page change i few same =
    breaks_same (Breaks word word' m) (LAST_LEVEL - m) (word (page + 8 * i)) (word' (page + 8 * i)) (read_of (word (page + 8 * i)) (LAST_LEVEL - m)) same
    (λ next leads. holds_same step word word' (BreaksAt word word') (breaks_passes step word word') m (step there m i) next (below_same step word word' n s table m there page change i next few leads))

cleared_breaks : (step : Step) (word word' : ℕ → ℕ) (s : Option ℕ) (table : ℕ) (there : Option ℕ) (link : TableLink) → IsChange step word word' levels s table link.below there link.parent → IsCleared word word' link → Breaks word word' levels table
cleared_breaks step word word' s table there link change is =
    change_holds step word word' (BreaksAt word word') (breaks_passes step word word') levels s table link.below there link.parent change
    (breaks_from word word' link.below link.parent
    (each (λ i. BreaksFirst (Breaks word word' link.below) (LAST_LEVEL - link.below) (word (link.parent + 8 * i)) (word' (link.parent + 8 * i)) (read_of (word (link.parent + 8 * i)) (LAST_LEVEL - link.below))) link.slot
    (breaks_cleared (Breaks word word' link.below) (LAST_LEVEL - link.below) (word (link.parent + 8 * link.slot)) (word' (link.parent + 8 * link.slot)) (read_of (word (link.parent + 8 * link.slot)) (LAST_LEVEL - link.below)) (cleared_invalid word word' link is))
    (λ i few other. breaks_stay step word word' levels s table link.below there link.parent change i few (but_others word word' link.parent link.slot is.others i other))))

emptied_breaks : (want : Wants) (word word' : ℕ → ℕ) (table : ℕ) (t : StayingTable) → AreApart word table → IsEmptied want word word' table t → Breaks word word' levels table
emptied_breaks want word word' table t apart is =
    let change = empty_change want word word' table t apart is in
    let W = λ (i : ℕ). want (LAST_LEVEL - t.below) (slot_start (LAST_LEVEL - t.below) t.start i) in
    let D = λ (i : ℕ). read_of (word (t.page + 8 * i)) (LAST_LEVEL - t.below) in
    change_holds (staying want) word word' (BreaksAt word word') (breaks_passes (staying want) word word') levels (Some 0) table t.below (Some t.start) t.page change
    (breaks_from word word' t.below t.page (λ i few. ⊎_elim
    (λ wrong. breaks_cleared (Breaks word word' t.below) (LAST_LEVEL - t.below) (word (t.page + 8 * i)) (word' (t.page + 8 * i)) (D i) (is.empties i few ∙ emptied_wrong (W i) (D i) wrong))
    (λ right. breaks_stay (staying want) word word' levels (Some 0) table t.below (Some t.start) t.page change i few (is.kept i few right))
    (cases_Bool (is_wrong_leaf (W i) (D i)))))

filled_breaks : (want : Wants) (word word' : ℕ → ℕ) (table : ℕ) (t : StayingTable) → AreApart word table → IsFilled want word word' table t → Breaks word word' levels table
filled_breaks want word word' table t apart is =
    let change = fill_change want word word' table t apart is in
    let W = λ (i : ℕ). want (LAST_LEVEL - t.below) (slot_start (LAST_LEVEL - t.below) t.start i) in
    let D = λ (i : ℕ). read_of (word (t.page + 8 * i)) (LAST_LEVEL - t.below) in
    change_holds (staying want) word word' (BreaksAt word word') (breaks_passes (staying want) word word') levels (Some 0) table t.below (Some t.start) t.page change
    (breaks_from word word' t.below t.page (λ i few. ⊎_elim
    (λ lacks. breaks_nothing (Breaks word word' t.below) (LAST_LEVEL - t.below) (word (t.page + 8 * i)) (word' (t.page + 8 * i)) (D i) (filled_invalid want word word' table t is i few lacks))
    (λ full. breaks_stay (staying want) word word' levels (Some 0) table t.below (Some t.start) t.page change i few (is.kept i few full))
    (cases_Bool (lacks_leaf (W i) (D i)))))

linked_breaks : (want : Wants) (word word' : ℕ → ℕ) (table : ℕ) (ahead : Ahead) → AreApart word table → IsLinked want word word' table ahead → Breaks word word' levels table
linked_breaks want word word' table ahead apart is =
    let slot = is.is.slot in
    let n = suc slot.below in
    let change = link_change want word word' table ahead apart is in
    change_holds (staying want) word word' (BreaksAt word word') (breaks_passes (staying want) word word') levels (Some 0) table n (Some slot.start) slot.parent change
    (breaks_from word word' n slot.parent
    (each (λ i. BreaksFirst (Breaks word word' n) (LAST_LEVEL - n) (word (slot.parent + 8 * i)) (word' (slot.parent + 8 * i)) (read_of (word (slot.parent + 8 * i)) (LAST_LEVEL - n))) slot.slot
    (breaks_nothing (Breaks word word' n) (LAST_LEVEL - n) (word (slot.parent + 8 * slot.slot)) (word' (slot.parent + 8 * slot.slot)) (read_of (word (slot.parent + 8 * slot.slot)) (LAST_LEVEL - n)) is.is.empty.invalid)
    (λ i few other. breaks_stay (staying want) word word' levels (Some 0) table n (Some slot.start) slot.parent change i few (but_others word word' slot.parent slot.slot (link_others want word word' table ahead is) i other))))

same_breaks : (word word' : ℕ → ℕ) (table : ℕ) → HaveSameTables word word' levels table → Breaks word word' levels table
same_breaks word word' table same = holds_same unmoved word word' (BreaksAt word word') (breaks_passes unmoved word word') levels None table same

pub moved_breaks : (want : Wants) (word word' : ℕ → ℕ) (table : ℕ) (move : Move) → AreApart word table → IsMoved want word word' table move → Breaks word word' levels table
moved_breaks want word word' table (Prune there link) apart is = cleared_breaks (staying want) word word' (Some 0) table there link (prune_change want word word' table there link apart is) is.cleared
moved_breaks want word word' table (Empty t) apart is = emptied_breaks want word word' table t apart is
moved_breaks want word word' table (Fill t) apart is = filled_breaks want word word' table t apart is
moved_breaks want word word' table (Make slot page) apart is = same_breaks word word' table (same_tables word word' page levels table is.aligned is.outside apart.aligned is.apart)
moved_breaks want word word' table (Link ahead) apart is = linked_breaks want word word' table ahead apart is
moved_breaks want word word' table (TakeAway link) apart is = cleared_breaks unmoved word word' None table None link (take_change word word' table link apart is) is.cleared
moved_breaks want word word' table End apart is = same_breaks word word' table (record { words = λ page slot some few. is.same (page + 8 * slot) })

-- ---- words that come

grows_same : (on : ℕ → Type 0) (d : Descriptor) (same : Type 0) → same → ((next : ℕ) → d ≡ Table next → on next) → IsKept on d same
grows_same on Invalid same is below = tt
grows_same on (Leaf o r v) same is below = is
grows_same on (Table next) same is below = (is, below next refl)

grows_nothing : (on : ℕ → Type 0) (d : Descriptor) (same : Type 0) → d ≡ Invalid → IsKept on d same
grows_nothing on d same none = subst (λ x. IsKept on x same) (sym none) tt

abbrev pub GrowsAt : (ℕ → ℕ) → (ℕ → ℕ) → ℕ → Option ℕ → ℕ → Type 0
GrowsAt word word' n s table = Grows word word' n table

grows_passes : (step : Step) (word word' : ℕ → ℕ) → PassesUp step word word' (GrowsAt word word')
grows_passes step word word' = record {
  none = λ s table. tt;
  up = λ n s table same below i few.
      grows_same (Grows word word' n) (read_of (word (table + 8 * i)) (LAST_LEVEL - n)) (word' (table + 8 * i) ≡ word (table + 8 * i)) (same i few) (λ next leads. below i next few leads);
}

grows_stay : (step : Step) (word word' : ℕ → ℕ) (n : ℕ) (s : Option ℕ) (table m : ℕ) (there : Option ℕ) (page : ℕ) → IsChange step word word' n s table m there page → (i : ℕ) → i < 512 → word' (page + 8 * i) ≡ word (page + 8 * i)
    → IsKept (Grows word word' m) (read_of (word (page + 8 * i)) (LAST_LEVEL - m)) (word' (page + 8 * i) ≡ word (page + 8 * i))
grows_stay step word word' n s table m there page change i few same =
    grows_same (Grows word word' m) (read_of (word (page + 8 * i)) (LAST_LEVEL - m)) (word' (page + 8 * i) ≡ word (page + 8 * i)) same
    (λ next leads. holds_same step word word' (GrowsAt word word') (grows_passes step word word') m (step there m i) next (below_same step word word' n s table m there page change i next few leads))

pub filled_grows : (want : Wants) (word word' : ℕ → ℕ) (table : ℕ) (t : StayingTable) → AreApart word table → IsFilled want word word' table t → Grows word word' levels table
filled_grows want word word' table t apart is =
    let change = fill_change want word word' table t apart is in
    let W = λ (i : ℕ). want (LAST_LEVEL - t.below) (slot_start (LAST_LEVEL - t.below) t.start i) in
    let D = λ (i : ℕ). read_of (word (t.page + 8 * i)) (LAST_LEVEL - t.below) in
    change_holds (staying want) word word' (GrowsAt word word') (grows_passes (staying want) word word') levels (Some 0) table t.below (Some t.start) t.page change
    (λ i few. ⊎_elim
    (λ lacks. grows_nothing (Grows word word' t.below) (D i) (word' (t.page + 8 * i) ≡ word (t.page + 8 * i)) (filled_invalid want word word' table t is i few lacks))
    (λ full. grows_stay (staying want) word word' levels (Some 0) table t.below (Some t.start) t.page change i few (is.kept i few full))
    (cases_Bool (lacks_leaf (W i) (D i))))

pub linked_grows : (want : Wants) (word word' : ℕ → ℕ) (table : ℕ) (ahead : Ahead) → AreApart word table → IsLinked want word word' table ahead → Grows word word' levels table
linked_grows want word word' table ahead apart is =
    let slot = is.is.slot in
    let n = suc slot.below in
    let change = link_change want word word' table ahead apart is in
    change_holds (staying want) word word' (GrowsAt word word') (grows_passes (staying want) word word') levels (Some 0) table n (Some slot.start) slot.parent change
    (each (λ i. IsKept (Grows word word' n) (read_of (word (slot.parent + 8 * i)) (LAST_LEVEL - n)) (word' (slot.parent + 8 * i) ≡ word (slot.parent + 8 * i))) slot.slot
    (grows_nothing (Grows word word' n) (read_of (word (slot.parent + 8 * slot.slot)) (LAST_LEVEL - n)) (word' (slot.parent + 8 * slot.slot) ≡ word (slot.parent + 8 * slot.slot)) is.is.empty.invalid)
    (λ i few other. grows_stay (staying want) word word' levels (Some 0) table n (Some slot.start) slot.parent change i few (but_others word word' slot.parent slot.slot (link_others want word word' table ahead is) i other)))

pub same_grows : (word word' : ℕ → ℕ) (table : ℕ) → HaveSameTables word word' levels table → Grows word word' levels table
same_grows word word' table same = holds_same unmoved word word' (GrowsAt word word') (grows_passes unmoved word word') levels None table same

-- ---- words that go

shrinks_same : (on : ℕ → Type 0) (d d' : Descriptor) (same : Type 0) → d' ≡ d → same → ((next : ℕ) → d ≡ Table next → on next) → IsKept on d' same
shrinks_same on d Invalid same e is below = tt
shrinks_same on d (Leaf o r v) same e is below = is
shrinks_same on d (Table next) same e is below = (is, below next (sym e))

abbrev pub ShrinksAt : (ℕ → ℕ) → (ℕ → ℕ) → ℕ → Option ℕ → ℕ → Type 0
ShrinksAt word word' n s table = Grows word' word n table

shrinks_slot : (word word' : ℕ → ℕ) (n table i : ℕ) → word' (table + 8 * i) ≡ word (table + 8 * i) → ((next : ℕ) → read_of (word (table + 8 * i)) (LAST_LEVEL - n) ≡ Table next → Grows word' word n next)
    → IsKept (Grows word' word n) (read_of (word' (table + 8 * i)) (LAST_LEVEL - n)) (word (table + 8 * i) ≡ word' (table + 8 * i))
shrinks_slot word word' n table i same below =
    shrinks_same (Grows word' word n) (read_of (word (table + 8 * i)) (LAST_LEVEL - n)) (read_of (word' (table + 8 * i)) (LAST_LEVEL - n)) (word (table + 8 * i) ≡ word' (table + 8 * i)) (ap (λ w. read_of w (LAST_LEVEL - n)) same) (sym same) below

shrinks_passes : (step : Step) (word word' : ℕ → ℕ) → PassesUp step word word' (ShrinksAt word word')
shrinks_passes step word word' = record {
  none = λ s table. tt;
  up = λ n s table same below i few. shrinks_slot word word' n table i (same i few) (λ next leads. below i next few leads);
}

shrinks_stay : (step : Step) (word word' : ℕ → ℕ) (n : ℕ) (s : Option ℕ) (table m : ℕ) (there : Option ℕ) (page : ℕ) → IsChange step word word' n s table m there page → (i : ℕ) → i < 512 → word' (page + 8 * i) ≡ word (page + 8 * i)
    → IsKept (Grows word' word m) (read_of (word' (page + 8 * i)) (LAST_LEVEL - m)) (word (page + 8 * i) ≡ word' (page + 8 * i))
shrinks_stay step word word' n s table m there page change i few same =
    shrinks_slot word word' m page i same
    (λ next leads. holds_same step word word' (ShrinksAt word word') (shrinks_passes step word word') m (step there m i) next (below_same step word word' n s table m there page change i next few leads))

pub cleared_shrinks : (step : Step) (word word' : ℕ → ℕ) (s : Option ℕ) (table : ℕ) (there : Option ℕ) (link : TableLink) → IsChange step word word' levels s table link.below there link.parent → IsCleared word word' link → Grows word' word levels table
cleared_shrinks step word word' s table there link change is =
    change_holds step word word' (ShrinksAt word word') (shrinks_passes step word word') levels s table link.below there link.parent change
    (each (λ i. IsKept (Grows word' word link.below) (read_of (word' (link.parent + 8 * i)) (LAST_LEVEL - link.below)) (word (link.parent + 8 * i) ≡ word' (link.parent + 8 * i))) link.slot
    (grows_nothing (Grows word' word link.below) (read_of (word' (link.parent + 8 * link.slot)) (LAST_LEVEL - link.below)) (word (link.parent + 8 * link.slot) ≡ word' (link.parent + 8 * link.slot)) (cleared_invalid word word' link is))
    (λ i few other. shrinks_stay step word word' levels s table link.below there link.parent change i few (but_others word word' link.parent link.slot is.others i other)))

pub emptied_shrinks : (want : Wants) (word word' : ℕ → ℕ) (table : ℕ) (t : StayingTable) → AreApart word table → IsEmptied want word word' table t → Grows word' word levels table
emptied_shrinks want word word' table t apart is =
    let change = empty_change want word word' table t apart is in
    let W = λ (i : ℕ). want (LAST_LEVEL - t.below) (slot_start (LAST_LEVEL - t.below) t.start i) in
    let D = λ (i : ℕ). read_of (word (t.page + 8 * i)) (LAST_LEVEL - t.below) in
    change_holds (staying want) word word' (ShrinksAt word word') (shrinks_passes (staying want) word word') levels (Some 0) table t.below (Some t.start) t.page change
    (λ i few. ⊎_elim
    (λ wrong. grows_nothing (Grows word' word t.below) (read_of (word' (t.page + 8 * i)) (LAST_LEVEL - t.below)) (word (t.page + 8 * i) ≡ word' (t.page + 8 * i)) (is.empties i few ∙ emptied_wrong (W i) (D i) wrong))
    (λ right. shrinks_stay (staying want) word word' levels (Some 0) table t.below (Some t.start) t.page change i few (is.kept i few right))
    (cases_Bool (is_wrong_leaf (W i) (D i))))

-- where nothing is flushed, valid words stay
pub moved_grows : (want : Wants) (word word' : ℕ → ℕ) (table : ℕ) (move : Move) → AreApart word table → IsMoved want word word' table move → is_flushed move ≡ false → Grows word word' levels table
moved_grows want word word' table (Prune there link) apart is kept = absurd (false≢true (sym kept))
moved_grows want word word' table (Empty t) apart is kept = absurd (false≢true (sym kept))
moved_grows want word word' table (Fill t) apart is kept = filled_grows want word word' table t apart is
moved_grows want word word' table (Make slot page) apart is kept = same_grows word word' table (same_tables word word' page levels table is.aligned is.outside apart.aligned is.apart)
moved_grows want word word' table (Link ahead) apart is kept = linked_grows want word word' table ahead apart is
moved_grows want word word' table (TakeAway link) apart is kept = absurd (false≢true (sym kept))
moved_grows want word word' table End apart is kept = absurd (false≢true (sym kept))
