-- What the code of one turn writes is what its kind of turn does to words.
use Rattle.std.proofs.Common.{◌≡◌, ◌≢◌, ℕ, ◌+◌, ◌-◌, ◌*◌, ◌%◌, ◌<◌, ◌≤◌, inl, inr, zero, suc, ap, ◌∙◌, sym, subst, ⊎_elim, arith, refl, Bool, true, false, nat_eq, if◌then◌else◌, Some, Option, None, length, map, []}
use Rattle.std.proofs.lemmas.Bool.{cases_eq, cases_lt, eqb-true, false≢true, ne_eqb}
use Rattle.std.specs.Int.{w64, from_le_bytes}
use Rattle.std.specs.Prelude.{◌∷◌}
use Rattle.jh_num.specs.declared.level.TheConstants.{LAST_LEVEL}
use Rattle.jh_num.specs.declared.rights.Rights.{Rights}
use Rattle.jh_num.proofs.Public.{same_number}
use Rattle.jh_desc.specs.declared.descriptor.Descriptor.{Descriptor}
use Rattle.jh_desc.specs.declared.descriptor.Descriptor.TheVariants.{Invalid, Leaf}
use Rattle.jh_desc.specs.Descriptors.{IsWritable, read_of, word_of}
use Rattle.jh_frames.specs.Memory.{FramesView, AreOwnBytes, byte_at, word_in}
use Rattle.jh_pool.specs.Pages.{IsPageOf, IsTakenPage, PoolView, is_free, used_of}
use Rattle.jh_cache.specs.Translations.{flushed}
use Rattle.jh_walk.specs.Counts.{IsReachedAs, NamesTable, Step, unmoved}
use Rattle.jh_walk.specs.Pages.{pages_reached, times}
use Rattle.jh_walk.specs.Walks.{levels}
use Rattle.jh_walk.proofs.Public.{on_times, self_times, times_below}
use Rattle.jh_num.specs.declared.address.TheConstants.{ADDRESS_END}
use Rattle.jh_num.specs.Levels.{slot_size}
use Rattle.jh_shape.specs.Claims.{Claims}
use Rattle.jh_shape.specs.Shapes.{want_of}
use Rattle.jh_shape.specs.SoundClaims.{IsSlot}
use Rattle.jh_shape.specs.declared.want.Want.{Want}
use Rattle.jh_shape.specs.declared.want.Want.TheVariants.{Nothing, Table as WantTable, Leaf as WantLeaf}
use Rattle.jh_shape.specs.Wanted.{Wants, slot_start}
use Rattle.jh_edit.specs.declared.finding.Link.{Link}
use Rattle.jh_edit.specs.declared.finding.Node.{Node}
use Rattle.jh_edit.specs.declared.writing.Writing.{Writing}
use Rattle.jh_edit.specs.declared.writing.Writing.TheVariants.{Empty, Fill, Make}
use Rattle.jh_edit.specs.Trees.{staying}
use Rattle.jh_edit.specs.Turns.{filled, is_wrong_leaf, lacks_leaf}
use Rattle.jh_edit.specs.declared.edit.Ahead.{Ahead}
use Rattle.jh_edit.specs.Plans.{EmptySlot, IsEmptySlot, IsMade, IsMadeTable}
use Rattle.jh_edit.specs.Tables.{AreTables, words}
use Rattle.jh_edit.specs.Moves.{End, IsCleared, IsEmptied, IsFilled, IsPoolAfter, IsSameOutside, Move, StayingTable, TableLink, TakeAway, Prune as PruneLink, Empty as EmptyTable, Fill as FillTable, Make as MakePage, Link as LinkPage}
use Rattle.jh_edit.specs.Private.Slots.{IsTableStart}
use Rattle.jh_edit.specs.Private.Finding.{want_in, HasNoLink, IsLink, IsToEmpty, IsToFill, IsToMake, IsToPrune, IsToTakeAway}
use Rattle.jh_edit.specs.Private.Steps.{gap_of, link_of, root_of, staying_of, AnyCache, IsDeed, IsGivenBack, IsPageChanged, IsTakenFrom}
use Rattle.jh_edit.specs.Private.Written.{made_of, word_after}
use Rattle.jh_edit.proofs.StandLemmas.{leaf_stands}
use Rattle.jh_edit.proofs.WritingLemmas.{IsPut, slot_there, writable_of}
use Rattle.jh_edit.proofs.FindingLemmas.{reaches_itself}
use Rattle.jh_edit.proofs.MovePathLemmas.{reached_le}

-- ---- bytes and words

-- a word is told by its eight bytes
pub word_alike : (b b' : ℕ → ℕ) (q : ℕ) → ((r : ℕ) → q ≤ r → r < q + 8 → b' r ≡ b r) → word_in b' q ≡ word_in b q
word_alike b b' q same =
    let a = same q (omega arith) (omega arith) in
    let c = same (q + 1) (omega arith) (omega arith) in
    let d = same (q + 2) (omega arith) (omega arith) in
    let e = same (q + 3) (omega arith) (omega arith) in
    let f = same (q + 4) (omega arith) (omega arith) in
    let g = same (q + 5) (omega arith) (omega arith) in
    let h = same (q + 6) (omega arith) (omega arith) in
    let k = same (q + 7) (omega arith) (omega arith) in
    λ i. from_le_bytes w64 (a i ∷ c i ∷ d i ∷ e i ∷ f i ∷ g i ∷ h i ∷ k i ∷ [])

-- where bytes outside a page are the same, words are
pub words_outside : (page : ℕ) (f f' : FramesView) → IsPageChanged page f f' → IsSameOutside (words f) (words f') page
words_outside page f f' changed q (inl less) = word_alike (byte_at f) (byte_at f') q (λ r low high. changed.outside r (inl (omega arith)))
words_outside page f f' changed q (inr more) = word_alike (byte_at f) (byte_at f') q (λ r low high. changed.outside r (inr (omega arith)))

-- one word is written in a page
pub put_in_page : (page slot word : ℕ) (f f' : FramesView) → slot < 512 → IsPut (page + 8 * slot) word f f' → IsPageChanged page f f'
put_in_page page slot word f f' few put = record {
  base = put.base;
  size = put.size;
  guest = put.guest;
  outside = λ q out. ⊎_elim (λ (less : q < page). put.below q (omega arith)) (λ (more : page + 4096 ≤ q). put.above q (omega arith)) out;
}

-- ---- a link that is cleared

pub cleared_is : (f f' : FramesView) (link : Link) (at : ℕ) → at ≡ link.parent + 8 * link.slot → IsLink (words f) link → pages_reached (words f) link.below link.page ≡ 1 → IsPut at 0 f f' → IsCleared (words f) (words f') (link_of link)
cleared_is f f' link at e is last put = record {
  within = is.names.within;
  leads = is.names.descriptor;
  last = last;
  zero = subst (λ a. words f' a ≡ 0) e put.here;
  others = λ q out. ⊎_elim (λ (less : q + 8 ≤ link.parent + 8 * link.slot). put.words_below q (omega arith)) (λ (more : link.parent + 8 * link.slot + 8 ≤ q). put.words_above q (omega arith)) out;
}

-- ---- a table that is written

zero_reads : (level : ℕ) → read_of 0 level ≡ Invalid
zero_reads level = refl

empty_reads : (b : Bool) (w level : ℕ) → read_of (if b then 0 else w) level ≡ (if b then Invalid else read_of w level)
empty_reads true w level = zero_reads level
empty_reads false w level = refl

fill_by : (level : ℕ) (o : ℕ) (r : Rights) (v : Bool) (w : ℕ) (b : Bool) → lacks_leaf (WantLeaf o r v) (read_of w level) ≡ b → read_of (word_of (Leaf o r v) level) level ≡ Leaf o r v → read_of (if b then word_of (Leaf o r v) level else w) level ≡ Leaf o r v
fill_by level o r v w true e reads = reads
fill_by level o r v w false e reads = leaf_stands o r v (read_of w level) e

pub fill_reads : (level : ℕ) (want : Want) (w : ℕ) → read_of (word_of (made_of want) level) level ≡ made_of want → read_of (word_after Fill level want w) level ≡ filled want (read_of w level)
fill_reads level Nothing w reads = refl
fill_reads level WantTable w reads = refl
fill_reads level (WantLeaf o r v) w reads = fill_by level o r v w (lacks_leaf (WantLeaf o r v) (read_of w level)) refl reads

pub made_is : (want : Want) (d : Descriptor) → d ≡ made_of want → IsMade want d
made_is Nothing d e = e
made_is WantTable d e = e
made_is (WantLeaf o r v) d e = e

-- the words of a table are written by what is wanted of its slots
pub record IsTableWritten (how : Writing) (want : Wants) (n page start : ℕ) (word word' : ℕ → ℕ) : Type 0 where
  pub words : (slot : ℕ) → slot < 512 → word' (page + 8 * slot) ≡ word_after how (LAST_LEVEL - n) (want (LAST_LEVEL - n) (slot_start (LAST_LEVEL - n) start slot)) (word (page + 8 * slot))
  pub outside : IsSameOutside word word' page

-- what is wanted of each slot of the table can be read where it is written
abbrev pub IsReadBack : Wants → ℕ → ℕ → Type 0
IsReadBack want n start =
    (slot : ℕ) → slot < 512 → read_of (word_of (made_of (want (LAST_LEVEL - n) (slot_start (LAST_LEVEL - n) start slot))) (LAST_LEVEL - n)) (LAST_LEVEL - n) ≡ made_of (want (LAST_LEVEL - n) (slot_start (LAST_LEVEL - n) start slot))

pub emptied_is : (want : Wants) (word word' : ℕ → ℕ) (table : ℕ) (node : Node) → IsToEmpty want word (record { page = table; start = 0; below = 3 }) node → IsTableWritten Empty want node.below node.page node.start word word' → IsEmptied want word word' table (staying_of node)
emptied_is want word word' table node is written = record {
  stays = is.reached;
  wrong = is.wrong;
  empties = λ slot few.
      ap (λ w. read_of w (LAST_LEVEL - node.below)) (written.words slot few) ∙ empty_reads (is_wrong_leaf (want_in want node slot) (read_of (word (node.page + 8 * slot)) (LAST_LEVEL - node.below))) (word (node.page + 8 * slot)) (LAST_LEVEL - node.below);
  kept = λ slot few right. written.words slot few ∙ ap (λ b. if b then 0 else word (node.page + 8 * slot)) right;
  outside = written.outside;
}

pub filled_is : (want : Wants) (word word' : ℕ → ℕ) (table : ℕ) (node : Node) → IsToFill want word (record { page = table; start = 0; below = 3 }) node → IsReadBack want node.below node.start → IsTableWritten Fill want node.below node.page node.start word word' → IsFilled want word word' table (staying_of node)
filled_is want word word' table node is back written = record {
  stays = is.reached;
  right = is.right;
  tables = is.tables;
  lacking = is.lacking;
  fills = λ slot few. ap (λ w. read_of w (LAST_LEVEL - node.below)) (written.words slot few) ∙ fill_reads (LAST_LEVEL - node.below) (want_in want node slot) (word (node.page + 8 * slot)) (back slot few);
  kept = λ slot few right. written.words slot few ∙ ap (λ b. if b then word_of (made_of (want_in want node slot)) (LAST_LEVEL - node.below) else word (node.page + 8 * slot)) right;
  outside = written.outside;
}

pub made_by : (want : Wants) (word word' : ℕ → ℕ) (n page start : ℕ) → IsReadBack want n start → IsTableWritten Make want n page start word word' → IsMadeTable want word' n page start
made_by want word word' n page start back written = λ slot few.
    made_is (want (LAST_LEVEL - n) (slot_start (LAST_LEVEL - n) start slot)) (read_of (word' (page + 8 * slot)) (LAST_LEVEL - n))
    (ap (λ w. read_of w (LAST_LEVEL - n)) (written.words slot few) ∙ back slot few)

-- ---- a page given back

pub given_back : (page : ℕ) (p p' : PoolView) → p'.base ≡ p.base → p'.size ≡ p.size → is_free p' page ≡ true → ((q : ℕ) → q ≢ page → is_free p' q ≡ is_free p q) → used_of p' + 1 ≡ used_of p → IsGivenBack page p p'
given_back page p p' base size given others used = record {
  base = base;
  size = size;
  free = λ q. ⊎_elim
      (λ is. subst (λ r. is_free p' r ≡ (if nat_eq page r then true else is_free p r)) (sym is) (given ∙ sym (ap (λ b. if b then true else is_free p page) (same_number page))))
      (λ apart. others q apart ∙ sym (ap (λ b. if b then true else is_free p q) (ne_eqb page q (λ e. apart (sym e)))))
      (cases_eq q page);
  used = used;
}

-- the page is taken, and no other
pub taken_from : (page : ℕ) (p p' : PoolView) → p'.base ≡ p.base → p'.size ≡ p.size → IsPageOf p page → is_free p page ≡ true → is_free p' page ≡ false → ((q : ℕ) → q ≢ page → is_free p' q ≡ is_free p q) → used_of p' ≡ used_of p + 1 → IsTakenFrom page p p'
taken_from page p p' base size from was taken others used = record {
  base = base;
  size = size;
  from = from;
  was_free = was;
  free = λ q. ⊎_elim
      (λ is. subst (λ r. is_free p' r ≡ (if nat_eq page r then false else is_free p r)) (sym is) (taken ∙ sym (ap (λ b. if b then false else is_free p page) (same_number page))))
      (λ apart. others q apart ∙ sym (ap (λ b. if b then false else is_free p q) (ne_eqb page q (λ e. apart (sym e)))))
      (cases_eq q page);
  used = used;
}

-- ---- the pool after a turn

pub pool_away : (table : ℕ) (link : TableLink) (p p' : PoolView) → IsGivenBack link.page p p' → IsPoolAfter table (TakeAway link) p p'
pool_away table link p p' given =
    let used = given.used in
    record { base = given.base; size = given.size; from = λ page e. absurd (false≢true e); was_free = λ page e. absurd (false≢true e); free = given.free; used = omega arith }

pub pool_end : (table : ℕ) (p p' : PoolView) → IsGivenBack table p p' → IsPoolAfter table End p p'
pool_end table p p' given =
    let used = given.used in
    record { base = given.base; size = given.size; from = λ page e. absurd (false≢true e); was_free = λ page e. absurd (false≢true e); free = given.free; used = omega arith }

pub pool_pruned : (table : ℕ) (there : Option ℕ) (link : TableLink) (p p' : PoolView) → IsGivenBack link.page p p' → IsPoolAfter table (PruneLink there link) p p'
pool_pruned table there link p p' given =
    let used = given.used in
    record { base = given.base; size = given.size; from = λ page e. absurd (false≢true e); was_free = λ page e. absurd (false≢true e); free = given.free; used = omega arith }

pub pool_emptied : (table : ℕ) (at : StayingTable) (p : PoolView) → IsPoolAfter table (EmptyTable at) p p
pool_emptied table at p = record { base = refl; size = refl; from = λ page e. absurd (false≢true e); was_free = λ page e. absurd (false≢true e); free = λ q. refl; used = omega arith }

pub pool_filled : (table : ℕ) (at : StayingTable) (p : PoolView) → IsPoolAfter table (FillTable at) p p
pool_filled table at p = record { base = refl; size = refl; from = λ page e. absurd (false≢true e); was_free = λ page e. absurd (false≢true e); free = λ q. refl; used = omega arith }

pub pool_linked : (table : ℕ) (ahead : Ahead) (p : PoolView) → IsPoolAfter table (LinkPage ahead) p p
pool_linked table ahead p = record { base = refl; size = refl; from = λ page e. absurd (false≢true e); was_free = λ page e. absurd (false≢true e); free = λ q. refl; used = omega arith }

from_same : (p : PoolView) (page : ℕ) → IsPageOf p page → (q : ℕ) → nat_eq page q ≡ true → IsPageOf p q
from_same p page is q e = subst (IsPageOf p) (eqb-true page q e) is

pub pool_made : (table : ℕ) (slot : EmptySlot) (page : ℕ) (p p' : PoolView) → IsTakenFrom page p p' → IsPoolAfter table (MakePage slot page) p p'
pool_made table slot page p p' taken =
    let used = taken.used in
    record { base = taken.base; size = taken.size; from = from_same p page taken.from; was_free = λ q e. subst (λ r. is_free p r ≡ true) (eqb-true page q e) taken.was_free; free = taken.free; used = omega arith }

-- ---- pages that are reached

pub reached_own : (f : FramesView) (table : ℕ) → AreTables f table → (step : Step) (s : Option ℕ) (m : ℕ) (there : Option ℕ) (page : ℕ) → IsReachedAs step (words f) levels s table m there page → AreOwnBytes f.own page 4096
reached_own f table tables step s m there page reached = tables.own page (on_times step (words f) levels s table m there page reached)

pub reached_next : (step : Step) (word : ℕ → ℕ) (n : ℕ) (s : Option ℕ) (table m : ℕ) (there : Option ℕ) (page slot next : ℕ) → IsReachedAs step word n s table (suc m) there page → NamesTable word (LAST_LEVEL - m) page slot next → 0 < m → 0 < times word n table next
reached_next step word n s table zero there page slot next reached names some = absurd (let no : ⊥ = omega arith in no)
reached_next step word n s table (suc k) there page slot next reached names some =
    let self : 0 < times word (suc k) next next = self_times word k next next refl in
    let up : times word (suc k) next next ≤ times word (suc (suc k)) page next = times_below word (suc k) page next slot next names.within names.descriptor in
    let le : times word (suc (suc k)) page next ≤ times word n table next = reached_le step word n s table (suc (suc k)) there page next reached in
    omega arith

pub itself_reached : (word : ℕ → ℕ) (table : ℕ) → 0 < times word levels table table
itself_reached word table = self_times word 3 table table refl

-- ---- a removal

pub taken_away : (tag : ℕ) (want : Wants) (table : ℕ) (link : Link) (f f' : FramesView) (p p' : PoolView) (c c' : AnyCache) → IsToTakeAway (words f) 3 table link → IsCleared (words f) (words f') (link_of link) → IsPageChanged link.parent f f' → IsGivenBack link.page p p' → c' ≡ map (flushed tag) c
    → (move : Move) × IsDeed tag want table true None None f f' p p' c c' move
taken_away tag want table link f f' p p' c c' is cleared memory given cache = (
  TakeAway (link_of link),
  record {
    at = (refl, refl);
    next = refl;
    moved = record { reached = is.reached unmoved (λ n slot. refl); cleared = cleared };
    memory = memory;
    pool = pool_away table (link_of link) p p' given;
    cache = cache;
  },
)

pub ended : (tag : ℕ) (want : Wants) (table : ℕ) (f : FramesView) (p p' : PoolView) (c c' : AnyCache) → HasNoLink (words f) 3 table → IsGivenBack table p p' → c' ≡ map (flushed tag) c → (move : Move) × IsDeed tag want table true None None f f p p' c c' move
ended tag want table f p p' c c' none given cache = (
  End,
  record {
    at = (refl, refl);
    next = refl;
    moved = record { last = reaches_itself (words f) 3 table none; same = λ q. refl };
    memory = record { base = refl; size = refl; guest = refl; outside = λ q out. refl };
    pool = pool_end table p p' given;
    cache = cache;
  },
)

-- ---- a table that is written

pub written_of : (how : Writing) (want : Wants) (n left page start : ℕ) (f f' : FramesView) → left ≡ suc n → IsPageChanged page f f'
    → ((slot : ℕ) → slot < 512 → words f' (page + 8 * slot) ≡ word_after how (LAST_LEVEL + 1 - left) (want (LAST_LEVEL + 1 - left) (slot_start (LAST_LEVEL + 1 - left) start slot)) (words f (page + 8 * slot)))
    → IsTableWritten how want n page start (words f) (words f')
written_of how want n left page start f f' e changed written =
    let level : LAST_LEVEL + 1 - left ≡ LAST_LEVEL - n = omega arith in
    record {
      words = subst (λ l. (slot : ℕ) → slot < 512 → words f' (page + 8 * slot) ≡ word_after how l (want l (slot_start l start slot)) (words f (page + 8 * slot))) level written;
      outside = words_outside page f f' changed;
    }

pub changed_by : (page : ℕ) (f f' : FramesView) → f'.own.base ≡ f.own.base → length f'.own.bytes ≡ length f.own.bytes → f'.guest ≡ f.guest → ((q : ℕ) → q < page → byte_at f' q ≡ byte_at f q) → ((q : ℕ) → page + 4096 ≤ q → byte_at f' q ≡ byte_at f q) → IsPageChanged page f f'
changed_by page f f' base size guest below above = record { base = base; size = size; guest = guest; outside = λ q out. ⊎_elim (λ (less : q < page). below q less) (λ (more : page + 4096 ≤ q). above q more) out }

-- what the laws of descriptors and of claims say
abbrev pub ReadsBack : Type 0
ReadsBack = (d : Descriptor) (level : ℕ) → level ≤ LAST_LEVEL → IsWritable d level → read_of (word_of d level) level ≡ d

abbrev pub MayWriteLeaves : Claims → Type 0
MayWriteLeaves claims =
    (level start out : ℕ) (rights : Rights) (device : Bool) → IsSlot level start → want_of claims level start ≡ WantLeaf out rights device → (0 < level) × (out % slot_size level ≡ 0) × (out + slot_size level ≤ ADDRESS_END)

pub read_back : (claims : Claims) (n left start : ℕ) → left ≡ suc n → left ≤ 4 → IsTableStart left start → ReadsBack → MayWriteLeaves claims → IsReadBack (want_of claims) n start
read_back claims n left start e few is back leaves = λ slot lt.
    let l = LAST_LEVEL + 1 - left in
    let level : LAST_LEVEL + 1 - left ≡ LAST_LEVEL - n = omega arith in
    let writable : IsWritable (made_of (want_of claims l (slot_start l start slot))) l =
    writable_of l (want_of claims l (slot_start l start slot)) (λ out rights device leaf. leaves l (slot_start l start slot) out rights device (slot_there left start slot (omega arith) few is lt) leaf) in
    subst (λ m. read_of (word_of (made_of (want_of claims m (slot_start m start slot))) m) m ≡ made_of (want_of claims m (slot_start m start slot))) level (back (made_of (want_of claims l (slot_start l start slot))) l (omega arith) writable)

pub emptied_deed : (tag : ℕ) (want : Wants) (table : ℕ) (node : Node) (f f' : FramesView) (p : PoolView) (c c' : AnyCache) → IsToEmpty want (words f) (root_of table) node → IsPageChanged node.page f f' → IsTableWritten Empty want node.below node.page node.start (words f) (words f') → c' ≡ map (flushed tag) c
    → (move : Move) × IsDeed tag want table false None None f f' p p c c' move
emptied_deed tag want table node f f' p c c' is memory written cache = (
  EmptyTable (staying_of node),
  record {
    at = (refl, refl);
    next = refl;
    moved = emptied_is want (words f) (words f') table node is written;
    memory = memory;
    pool = pool_emptied table (staying_of node) p;
    cache = cache;
  },
)

pub filled_deed : (tag : ℕ) (want : Wants) (table : ℕ) (node : Node) (f f' : FramesView) (p : PoolView) (c : AnyCache) → IsToFill want (words f) (root_of table) node → IsReadBack want node.below node.start → IsPageChanged node.page f f' → IsTableWritten Fill want node.below node.page node.start (words f) (words f')
    → (move : Move) × IsDeed tag want table false None None f f' p p c c move
filled_deed tag want table node f f' p c is back memory written = (
  FillTable (staying_of node),
  record {
    at = (refl, refl);
    next = refl;
    moved = filled_is want (words f) (words f') table node is back written;
    memory = memory;
    pool = pool_filled table (staying_of node) p;
    cache = refl;
  },
)

-- ---- a page that is made

-- the slot that a table is made for is an empty one
pub empty_slot : (want : Wants) (word : ℕ → ℕ) (table : ℕ) (node : Node) (slot : ℕ) → IsToMake want word (root_of table) node slot → IsEmptySlot want word table (gap_of node slot)
empty_slot want word table node slot is =
    let some = is.some in
    let one : node.below ≡ suc (node.below - 1) = omega arith in
    record {
      within = is.within;
      stays = subst (λ n. IsReachedAs (staying want) word levels (Some 0) table (suc n) (Some node.start) node.page) one is.reached;
      wants = subst (λ n. want (LAST_LEVEL - n) (slot_start (LAST_LEVEL - n) node.start slot) ≡ WantTable) one is.wants;
      invalid = subst (λ n. read_of (word (node.page + 8 * slot)) (LAST_LEVEL - n) ≡ Invalid) one is.invalid;
    }

-- a page that is free isn't reached
pub free_apart : (word : ℕ → ℕ) (table page : ℕ) (p : PoolView) → ((q : ℕ) → 0 < times word levels table q → IsTakenPage p q) → is_free p page ≡ true → times word levels table page ≡ 0
free_apart word table page p taken free =
    ⊎_elim
    (λ (some : 0 < times word levels table page). absurd (false≢true (sym (taken page some).taken ∙ free)))
    (λ (none : times word levels table page ≤ 0). omega arith)
    (cases_lt 0 (times word levels table page))

pub made_deed : (tag : ℕ) (want : Wants) (table : ℕ) (node : Node) (slot page start : ℕ) (f f' : FramesView) (p p' : PoolView) (c : AnyCache) → IsToMake want (words f) (root_of table) node slot → IsTakenFrom page p p' → times (words f) levels table page ≡ 0
    → start ≡ slot_start (LAST_LEVEL - node.below) node.start slot → IsReadBack want (node.below - 1) start → IsPageChanged page f f' → IsTableWritten Make want (node.below - 1) page start (words f) (words f')
    → (move : Move) × IsDeed tag want table false None (Some (record { at = node.page + 8 * slot; page = page })) f f' p p' c c move
made_deed tag want table node slot page start f f' p p' c is taken apart e back memory written =
    let some = is.some in
    let one : node.below ≡ suc (node.below - 1) = omega arith in
    let begins : start ≡ slot_start (LAST_LEVEL - suc (node.below - 1)) node.start slot = e ∙ ap (λ n. slot_start (LAST_LEVEL - n) node.start slot) one in (
      MakePage (gap_of node slot) page,
      record {
        at = (refl, refl);
        next = refl;
        moved = record {
          empty = empty_slot want (words f) table node slot is;
          aligned = taken.from.aligned;
          apart = apart;
          made = subst (IsMadeTable want (words f') (node.below - 1) page) begins (made_by want (words f) (words f') (node.below - 1) page start back written);
          outside = written.outside;
        };
        memory = memory;
        pool = pool_made table (gap_of node slot) page p p' taken;
        cache = refl;
      },
    )

pub pruned_deed : (tag : ℕ) (want : Wants) (table : ℕ) (link : Link) (f f' : FramesView) (p p' : PoolView) (c c' : AnyCache) → IsToPrune want (words f) (root_of table) link → IsCleared (words f) (words f') (link_of link) → IsPageChanged link.parent f f' → IsGivenBack link.page p p' → c' ≡ map (flushed tag) c
    → (move : Move) × IsDeed tag want table false None None f f' p p' c c' move
pruned_deed tag want table link f f' p p' c c' is cleared memory given cache = (
  PruneLink is.there (link_of link),
  record {
    at = (refl, refl);
    next = refl;
    moved = record { reached = is.reached; unwanted = is.unwanted; cleared = cleared };
    memory = memory;
    pool = pool_pruned table is.there (link_of link) p p' given;
    cache = cache;
  },
)
