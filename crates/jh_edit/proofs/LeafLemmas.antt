-- The leaves of tables are what walks find.
use Rattle.std.proofs.Common.{add-one, append_assoc, ◌≡◌, ℕ, ◌+◌, ◌-◌, ◌*◌, ◌/◌, ◌%◌, ◌^◌, ◌<◌, ◌≤◌, zero, suc, ap, ◌∙◌, sym, subst, true, false, nat_lt, List, [], ◌∷◌, ◌++◌, get_or, Option, Some, None, if◌then◌else◌, arith, refl, ⊎_elim}
use Rattle.std.specs.Prelude.{All, AllPairs, Contains, find}
use Rattle.std.proofs.lemmas.Bool.{cases_Bool, cases_lt, lt-ltb}
use Rattle.std.proofs.lemmas.List.Elements.{Contains-append_cases, Contains-append_left, Contains-append_right}
use Rattle.std.proofs.lemmas.List.Kept.{AllPairs-cons}
use Rattle.std.proofs.lemmas.Option.{none-some, same_Some}
use Rattle.jh_num.proofs.Public.{Contains_cases, Contains_head, Contains_tail, IsFound_from_find, read_again}
use Rattle.jh_num.specs.declared.address.TheConstants.{ADDRESS_END}
use Rattle.jh_num.specs.declared.level.TheConstants.{LAST_LEVEL}
use Rattle.jh_num.specs.Levels.{slot_size}
use Rattle.jh_desc.specs.declared.descriptor.Descriptor.{Descriptor}
use Rattle.jh_desc.specs.declared.descriptor.Descriptor.TheVariants.{Invalid, Table, Leaf}
use Rattle.jh_desc.specs.declared.descriptor.Hit.{Hit}
use Rattle.jh_desc.specs.Descriptors.{read_of}
use Rattle.jh_desc.specs.Levels.{index_of}
use Rattle.jh_walk.specs.Walks.{descriptor_at, hit_of, levels, walk_of, walk_on}
use Rattle.jh_walk.proofs.Public.{index_small, self_times}
use Rattle.jh_shape.specs.Wanted.{slot_start}
use Rattle.jh_walk.specs.Pages.{times}
use Rattle.jh_shape.specs.Claims.{Claims}
use Rattle.jh_edit.specs.declared.stage.Seat.{Seat}
use Rattle.jh_edit.specs.declared.stage.Stage2.{Stage2}
use Rattle.jh_edit.specs.declared.stage.Tree.{Tree}
use Rattle.jh_edit.specs.Forest.{IsForest}
use Rattle.jh_edit.specs.Seats.{cell_tree, is_seat_of, tree_in}
use Rattle.jh_edit.specs.Tables.{words}
use Rattle.jh_edit.specs.Private.Slots.{IsTablePlace}
use Rattle.jh_edit.specs.declared.leaves.LeafAt.{LeafAt}
use Rattle.jh_edit.specs.Leaves.{GivesHit, Precedes, leaves_before, leaves_of, leaves_on}
use Rattle.jh_edit.proofs.DescriptorLemmas.{named_below}
use Rattle.jh_edit.proofs.ForestLemmas.{tables_of_seat}
use Rattle.jh_edit.proofs.GrantLemmas.{in_slot}
use Rattle.jh_edit.proofs.SeatLemmas.{pairs_head, pairs_rest}

-- ---- lists of slots

before_has : (leaves : ℕ → List LeafAt) (n i : ℕ) (leaf : LeafAt) → i < n → Contains (leaves i) leaf → Contains (leaves_before leaves n) leaf
before_has leaves zero i leaf few among = absurd (let wrong : ⊥ = omega arith in wrong)
before_has leaves (suc n) i leaf few among =
    ⊎_elim
    (λ (less : i < n). Contains-append_left (leaves_before leaves n) (leaves n) leaf (before_has leaves n i leaf less among))
    (λ (more : n ≤ i).
    let same : i ≡ n = omega arith in
    let P : ℕ → Type 0 = λ k. Contains (leaves k) leaf in
    Contains-append_right (leaves_before leaves n) (leaves n) leaf (subst P same among))
    (cases_lt i n)

-- the slot that a leaf is of
record IsOfSlot (leaves : ℕ → List LeafAt) (n : ℕ) (leaf : LeafAt) : Type 0 where
  pub slot : ℕ
  pub few : slot < n
  pub among : Contains (leaves slot) leaf

of_slot : (leaves : ℕ → List LeafAt) (n : ℕ) (leaf : LeafAt) → Contains (leaves_before leaves n) leaf → IsOfSlot leaves n leaf
of_slot leaves zero leaf (k, below, is) = absurd (let wrong : ⊥ = omega arith in wrong)
of_slot leaves (suc n) leaf among =
    ⊎_elim
    (λ (before : Contains (leaves_before leaves n) leaf). let of = of_slot leaves n leaf before in let few = of.few in record { slot = of.slot; few = omega arith; among = of.among })
    (λ (last : Contains (leaves n) leaf). record { slot = n; few = omega arith; among = last })
    (Contains-append_cases (leaves_before leaves n) (leaves n) leaf among)

-- ---- what the descriptor of a slot leads to

-- the slot of an address, by the numbers of levels
abbrev at_slot : (ℕ → ℕ) → ℕ → ℕ → ℕ → ℕ → List LeafAt
at_slot word n table start slot =
    leaves_on (λ next. leaves_of word n next (slot_start (LAST_LEVEL - n) start slot)) (LAST_LEVEL - n) (slot_start (LAST_LEVEL - n) start slot) (read_of (word (table + 8 * slot)) (LAST_LEVEL - n))

leaves_more : (word : ℕ → ℕ) (n table start : ℕ) → leaves_of word (suc n) table start ≡ leaves_before (at_slot word n table start) 512
unfolding leaves_of
leaves_more word n table start = refl

leaves_none : (word : ℕ → ℕ) (table start : ℕ) → leaves_of word zero table start ≡ []
unfolding leaves_of
leaves_none word table start = refl

no_leaf : (word : ℕ → ℕ) (table start : ℕ) (leaf : LeafAt) → Contains (leaves_of word zero table start) leaf → ⊥
no_leaf word table start leaf among =
    let P : List LeafAt → Type 0 = λ list. Contains list leaf in
    let past : Contains [] leaf = subst P (leaves_none word table start) among in
    let few = past.1 in
    omega arith

-- the one leaf of a list
one_leaf : (leaf other : LeafAt) → Contains (leaf ∷ []) other → leaf ≡ other
one_leaf leaf other among = ⊎_elim (λ (same : leaf ≡ other). same) (λ (past : Contains [] other). let few = past.1 in absurd (let wrong : ⊥ = omega arith in wrong)) (Contains_cases leaf [] other among)

no_one : (leaf : LeafAt) → Contains [] leaf → ⊥
no_one leaf past = let few = past.1 in omega arith

-- ---- where leaves lie

-- the leaf's slot lies in these bytes
record LiesIn (start size : ℕ) (leaf : LeafAt) : Type 0 where
  pub first : start ≤ leaf.at
  pub last : leaf.at + slot_size leaf.level ≤ start + size

lies_on : (on : ℕ → List LeafAt) (level start size : ℕ) (d : Descriptor) (leaf : LeafAt) → slot_size level ≡ size → ((next : ℕ) → Contains (on next) leaf → LiesIn start size leaf) → Contains (leaves_on on level start d) leaf → LiesIn start size leaf
lies_on on level start size Invalid leaf is below among = absurd (no_one leaf among)
lies_on on level start size (Leaf out rights device) leaf is below among =
    let one : LeafAt = record { level = level; at = start; out = out; rights = rights; device = device } in
    let P : LeafAt → Type 0 = LiesIn start size in
    subst P (one_leaf one leaf among) (record { first = omega arith; last = omega arith })
lies_on on level start size (Table next) leaf is below among = below next among

-- the sizes of slots by levels
size_is : (n : ℕ) → n ≤ 3 → slot_size (LAST_LEVEL - n) ≡ 2 ^ (12 + 9 * n)
size_is zero few = refl
size_is (suc zero) few = refl
size_is (suc (suc zero)) few = refl
size_is (suc (suc (suc zero))) few = refl
size_is (suc (suc (suc (suc n)))) few = absurd (let wrong : ⊥ = omega arith in wrong)

slot_within : (n start slot : ℕ) → n ≤ 3 → slot < 512 → (start ≤ slot_start (LAST_LEVEL - n) start slot) × (slot_start (LAST_LEVEL - n) start slot + 2 ^ (12 + 9 * n) ≤ start + 2 ^ (12 + 9 * suc n))
slot_within zero start slot few small = (omega arith, omega arith)
slot_within (suc zero) start slot few small = (omega arith, omega arith)
slot_within (suc (suc zero)) start slot few small = (omega arith, omega arith)
slot_within (suc (suc (suc zero))) start slot few small = (omega arith, omega arith)
slot_within (suc (suc (suc (suc n)))) start slot few small = absurd (let wrong : ⊥ = omega arith in wrong)

lies_in : (word : ℕ → ℕ) (n table start : ℕ) (leaf : LeafAt) → n ≤ 4 → Contains (leaves_of word n table start) leaf → LiesIn start (2 ^ (12 + 9 * n)) leaf
lies_in word zero table start leaf few among = absurd (no_leaf word table start leaf among)
lies_in word (suc n) table start leaf few among =
    let P : List LeafAt → Type 0 = λ list. Contains list leaf in
    let of = of_slot (at_slot word n table start) 512 leaf (subst P (leaves_more word n table start) among) in
    let S = slot_start (LAST_LEVEL - n) start of.slot in
    let in' = lies_on (λ next. leaves_of word n next S) (LAST_LEVEL - n) S (2 ^ (12 + 9 * n)) (read_of (word (table + 8 * of.slot)) (LAST_LEVEL - n)) leaf (size_is n (omega arith)) (λ next more. lies_in word n next S leaf (omega arith) more) of.among in
    let within = slot_within n start of.slot (omega arith) of.few in
    let low = within.0 in
    let high = within.1 in
    let first = in'.first in
    let last = in'.last in
    record { first = omega arith; last = omega arith }

-- ---- what a walk finds is a leaf's

-- a leaf gives what is found
pub record IsListed (leaves : List LeafAt) (at : ℕ) (hit : Hit) : Type 0 where
  pub leaf : LeafAt
  pub among : Contains leaves leaf
  pub gives : GivesHit leaf at hit

listed_on : (on : ℕ → List LeafAt) (walks : ℕ → Option Hit) (level start at : ℕ) (hit : Hit) (d : Descriptor) → start + at % slot_size level ≡ at → at % slot_size level < slot_size level → ((next : ℕ) → walks next ≡ Some hit → IsListed (on next) at hit)
    → walk_on walks level at d ≡ Some hit → IsListed (leaves_on on level start d) at hit
listed_on on walks level start at hit Invalid offset within below found = absurd (none-some hit found)
listed_on on walks level start at hit (Leaf out rights device) offset within below found =
    let one : LeafAt = record { level = level; at = start; out = out; rights = rights; device = device } in
    record { leaf = one; among = Contains_head one []; gives = record { first = omega arith; last = omega arith; is = sym (same_Some {A = Hit} (hit_of level at out rights device) hit found) } }
listed_on on walks level start at hit (Table next) offset within below found =
    ⊎_elim
    (λ (small : nat_lt next ADDRESS_END ≡ true). below next (sym (ap (λ b. if b then walks next else None) small) ∙ found))
    (λ (past : nat_lt next ADDRESS_END ≡ false). absurd (none-some hit (sym (ap (λ b. if b then walks next else None) past) ∙ found)))
    (cases_Bool (nat_lt next ADDRESS_END))

pub listed : (word : ℕ → ℕ) (n table start at : ℕ) (hit : Hit) → n ≤ 4 → start % 2 ^ (12 + 9 * n) ≡ 0 → start ≤ at → at < start + 2 ^ (12 + 9 * n) → walk_of word n table at ≡ Some hit → IsListed (leaves_of word n table start) at hit
unfolding walk_of
listed word zero table start at hit few begins low high found = absurd (none-some hit found)
listed word (suc n) table start at hit few begins low high found =
    let here = in_slot n start at (omega arith) begins low high in
    let i = index_of (LAST_LEVEL - n) at in
    let S = slot_start (LAST_LEVEL - n) start i in
    let small : i < 512 = index_small (at / slot_size (LAST_LEVEL - n)) in
    let offset : S + at % slot_size (LAST_LEVEL - n) ≡ at = here.offset in
    let within : at % slot_size (LAST_LEVEL - n) < slot_size (LAST_LEVEL - n) = here.within in
    let size : slot_size (LAST_LEVEL - n) ≡ 2 ^ (12 + 9 * n) = here.size in
    let one = listed_on (λ next. leaves_of word n next S) (λ next. walk_of word n next at) (LAST_LEVEL - n) S at hit (read_of (word (descriptor_at (LAST_LEVEL - n) table at)) (LAST_LEVEL - n)) offset within
    (λ next more. listed word n next S at hit (omega arith) here.begins (omega arith) (omega arith) more) found
    in
    let P : List LeafAt → Type 0 = λ list. Contains list one.leaf in
    record { leaf = one.leaf; among = subst P (sym (leaves_more word n table start)) (before_has (at_slot word n table start) 512 i one.leaf small one.among); gives = one.gives }

-- ---- what a leaf gives a walk finds

-- an address in a slot of a table has that slot's number
slot_index : (n start slot at : ℕ) → n ≤ 3 → start % 2 ^ (12 + 9 * suc n) ≡ 0 → slot < 512 → slot_start (LAST_LEVEL - n) start slot ≤ at → at < slot_start (LAST_LEVEL - n) start slot + 2 ^ (12 + 9 * n) → index_of (LAST_LEVEL - n) at ≡ slot
slot_index zero start slot at few begins small low high = omega arith
slot_index (suc zero) start slot at few begins small low high = omega arith
slot_index (suc (suc zero)) start slot at few begins small low high = omega arith
slot_index (suc (suc (suc zero))) start slot at few begins small low high = omega arith
slot_index (suc (suc (suc (suc n)))) start slot at few begins small low high = absurd (let wrong : ⊥ = omega arith in wrong)

slot_begins : (n start slot : ℕ) → n ≤ 3 → start % 2 ^ (12 + 9 * suc n) ≡ 0 → slot_start (LAST_LEVEL - n) start slot % 2 ^ (12 + 9 * n) ≡ 0
slot_begins zero start slot few begins = omega arith
slot_begins (suc zero) start slot few begins = omega arith
slot_begins (suc (suc zero)) start slot few begins = omega arith
slot_begins (suc (suc (suc zero))) start slot few begins = omega arith
slot_begins (suc (suc (suc (suc n)))) start slot few begins = absurd (let wrong : ⊥ = omega arith in wrong)

found_on : (on : ℕ → List LeafAt) (walks : ℕ → Option Hit) (level start at word : ℕ) (leaf : LeafAt) (hit : Hit) (d : Descriptor) → read_of word level ≡ d → GivesHit leaf at hit → ((next : ℕ) → Contains (on next) leaf → walks next ≡ Some hit)
    → Contains (leaves_on on level start d) leaf → walk_on walks level at d ≡ Some hit
found_on on walks level start at word leaf hit Invalid is gives below among = absurd (no_one leaf among)
found_on on walks level start at word leaf hit (Leaf out rights device) is gives below among =
    let one : LeafAt = record { level = level; at = start; out = out; rights = rights; device = device } in
    let same : one ≡ leaf = one_leaf one leaf among in
    ap Some (ap (λ (l : LeafAt). hit_of l.level at l.out l.rights l.device) same ∙ sym gives.is)
found_on on walks level start at word leaf hit (Table next) is gives below among =
    let small : next < ADDRESS_END = named_below word level next is in
    ap (λ b. if b then walks next else None) (lt-ltb next ADDRESS_END small) ∙ below next among

pub found : (word : ℕ → ℕ) (n table start at : ℕ) (leaf : LeafAt) (hit : Hit) → n ≤ 4 → start % 2 ^ (12 + 9 * n) ≡ 0 → Contains (leaves_of word n table start) leaf → GivesHit leaf at hit → walk_of word n table at ≡ Some hit
unfolding walk_of
found word zero table start at leaf hit few begins among gives = absurd (no_leaf word table start leaf among)
found word (suc n) table start at leaf hit few begins among gives =
    let P : List LeafAt → Type 0 = λ list. Contains list leaf in
    let of = of_slot (at_slot word n table start) 512 leaf (subst P (leaves_more word n table start) among) in
    let S = slot_start (LAST_LEVEL - n) start of.slot in
    let lies = lies_on (λ next. leaves_of word n next S) (LAST_LEVEL - n) S (2 ^ (12 + 9 * n)) (read_of (word (table + 8 * of.slot)) (LAST_LEVEL - n)) leaf (size_is n (omega arith)) (λ next more. lies_in word n next S leaf (omega arith) more) of.among in
    let first = lies.first in
    let last = lies.last in
    let low = gives.first in
    let high = gives.last in
    let index : index_of (LAST_LEVEL - n) at ≡ of.slot = slot_index n start of.slot at (omega arith) begins of.few (omega arith) (omega arith) in
    ap (λ i. walk_on (λ next. walk_of word n next at) (LAST_LEVEL - n) at (read_of (word (table + 8 * i)) (LAST_LEVEL - n))) index
    ∙ found_on (λ next. leaves_of word n next S) (λ next. walk_of word n next at) (LAST_LEVEL - n) S at (word (table + 8 * of.slot)) leaf hit (read_of (word (table + 8 * of.slot)) (LAST_LEVEL - n)) refl gives
    (λ next more. found word n next S at leaf hit (omega arith) (slot_begins n start of.slot (omega arith) begins) more gives) of.among

-- ---- their order

all_from : {X : Type 0} (P : X → Type 0) (xs : List X) → ((x : X) → Contains xs x → P x) → All P xs
all_from P xs each = λ k d below. each (get_or xs k d) (k, below, sym (read_again xs k d below))

pairs_append : {X : Type 0} (R : X → X → Type 0) (xs ys : List X) → AllPairs R xs → AllPairs R ys → ((x y : X) → Contains xs x → Contains ys y → R x y) → AllPairs R (xs ++ ys)
pairs_append R [] ys one other cross = other
pairs_append R (x ∷ xs) ys one other cross =
    AllPairs-cons R x (xs ++ ys)
    (all_from (R x) (xs ++ ys)
    (λ y among. ⊎_elim (λ (mine : Contains xs y). pairs_head R x xs y one mine) (λ (theirs : Contains ys y). cross x y (Contains_head x xs) theirs) (Contains-append_cases xs ys y among)))
    (pairs_append R xs ys (pairs_rest R x xs one) other (λ z y mine theirs. cross z y (Contains_tail x xs z mine) theirs))

pairs_before : (leaves : ℕ → List LeafAt) (n : ℕ) → ((i : ℕ) → i < n → AllPairs Precedes (leaves i)) → ((i j : ℕ) (a b : LeafAt) → i < j → j < n → Contains (leaves i) a → Contains (leaves j) b → Precedes a b) → AllPairs Precedes (leaves_before leaves n)
pairs_before leaves zero each cross = λ i j d less below. absurd (let wrong : ⊥ = omega arith in wrong)
pairs_before leaves (suc n) each cross =
    pairs_append Precedes (leaves_before leaves n) (leaves n)
    (pairs_before leaves n (λ i few. each i (omega arith)) (λ i j a b less few one other. cross i j a b less (omega arith) one other))
    (each n (omega arith))
    (λ a b one other. let of = of_slot leaves n a one in let few = of.few in cross of.slot n a b (omega arith) (omega arith) of.among other)

order_on : (on : ℕ → List LeafAt) (level start : ℕ) (d : Descriptor) → ((next : ℕ) → AllPairs Precedes (on next)) → AllPairs Precedes (leaves_on on level start d)
order_on on level start Invalid below = λ i j d less few. absurd (let wrong : ⊥ = omega arith in wrong)
order_on on level start (Leaf out rights device) below = λ i j d less few. absurd (let wrong : ⊥ = omega arith in wrong)
order_on on level start (Table next) below = below next

slots_apart : (n start i j : ℕ) → n ≤ 3 → i < j → slot_start (LAST_LEVEL - n) start i + 2 ^ (12 + 9 * n) ≤ slot_start (LAST_LEVEL - n) start j
slots_apart zero start i j few less = omega arith
slots_apart (suc zero) start i j few less = omega arith
slots_apart (suc (suc zero)) start i j few less = omega arith
slots_apart (suc (suc (suc zero))) start i j few less = omega arith
slots_apart (suc (suc (suc (suc n)))) start i j few less = absurd (let wrong : ⊥ = omega arith in wrong)

slot_lies : (word : ℕ → ℕ) (n table start slot : ℕ) (leaf : LeafAt) → n ≤ 3 → Contains (at_slot word n table start slot) leaf → LiesIn (slot_start (LAST_LEVEL - n) start slot) (2 ^ (12 + 9 * n)) leaf
slot_lies word n table start slot leaf few among =
    let S = slot_start (LAST_LEVEL - n) start slot in
    lies_on (λ next. leaves_of word n next S) (LAST_LEVEL - n) S (2 ^ (12 + 9 * n)) (read_of (word (table + 8 * slot)) (LAST_LEVEL - n)) leaf (size_is n few) (λ next more. lies_in word n next S leaf (omega arith) more) among

pub ordered : (word : ℕ → ℕ) (n table start : ℕ) → n ≤ 4 → AllPairs Precedes (leaves_of word n table start)
ordered word zero table start few =
    let P : List LeafAt → Type 0 = AllPairs Precedes in
    subst P (sym (leaves_none word table start)) (λ i j d less below. absurd (let wrong : ⊥ = omega arith in wrong))
ordered word (suc n) table start few =
    let P : List LeafAt → Type 0 = AllPairs Precedes in
    subst P (sym (leaves_more word n table start))
    (pairs_before (at_slot word n table start) 512
    (λ i small. order_on (λ next. leaves_of word n next (slot_start (LAST_LEVEL - n) start i)) (LAST_LEVEL - n) (slot_start (LAST_LEVEL - n) start i) (read_of (word (table + 8 * i)) (LAST_LEVEL - n))
    (λ next. ordered word n next (slot_start (LAST_LEVEL - n) start i) (omega arith)))
    (λ i j a b less small one other.
    let mine = slot_lies word n table start i a (omega arith) one in
    let theirs = slot_lies word n table start j b (omega arith) other in
    let apart = slots_apart n start i j (omega arith) less in
    let last = mine.last in
    let first = theirs.first in
    omega arith))

-- ---- as the code goes over the slots

-- the leaves of a slot, with so many levels below the table, its level and the size of its slots
abbrev pub slot_leaves : (ℕ → ℕ) → ℕ → ℕ → ℕ → ℕ → ℕ → ℕ → List LeafAt
slot_leaves word table start n level size slot =
    leaves_on (λ next. leaves_of word n next (start + slot * size)) level (start + slot * size) (read_of (word (table + 8 * slot)) level)

pub leaves_all : (word : ℕ → ℕ) (left table start level size : ℕ) → 0 < left → level ≡ LAST_LEVEL + 1 - left → size ≡ slot_size level → leaves_before (slot_leaves word table start (left - 1) level size) 512 ≡ leaves_of word left table start
leaves_all word left table start level size some at is =
    let n : ℕ = left - 1 in
    let e : left ≡ suc n = omega arith in
    let below : level ≡ LAST_LEVEL - n = omega arith in
    ap (λ z. leaves_before (slot_leaves word table start n level z) 512) (is ∙ ap slot_size below)
    ∙ (ap (λ z. leaves_before (slot_leaves word table start n z (slot_size (LAST_LEVEL - n))) 512) below ∙ (sym (leaves_more word n table start) ∙ ap (λ z. leaves_of word z table start) (sym e)))

pub leaves_zero : (word : ℕ → ℕ) (left table start : ℕ) → left ≡ 0 → leaves_of word left table start ≡ []
leaves_zero word left table start none = ap (λ z. leaves_of word z table start) none ∙ leaves_none word table start

-- one slot more
pub more_leaves : (old now new here : List LeafAt) (leaves : ℕ → List LeafAt) (slot : ℕ) → now ≡ old ++ leaves_before leaves slot → new ≡ now ++ here → here ≡ leaves slot → new ≡ old ++ leaves_before leaves (slot + 1)
more_leaves old now new here leaves slot before is same =
    is
    ∙ (ap (λ l. l ++ here) before
    ∙ (ap (λ l. (old ++ leaves_before leaves slot) ++ l) same ∙ (append_assoc old (leaves_before leaves slot) (leaves slot) ∙ ap (λ k. old ++ leaves_before leaves k) (sym (add-one slot)))))

-- the descriptor of the slot, at its level
pub slot_here : (word : ℕ → ℕ) (table start n level level' size slot : ℕ) (d : Descriptor) → level' ≡ level → d ≡ read_of (word (table + 8 * slot)) level
    → leaves_on (λ next. leaves_of word n next (start + slot * size)) level' (start + slot * size) d ≡ slot_leaves word table start n level size slot
slot_here word table start n level level' size slot d at is =
    ap (λ z. leaves_on (λ next. leaves_of word n next (start + slot * size)) z (start + slot * size) d) at ∙ ap (leaves_on (λ next. leaves_of word n next (start + slot * size)) level (start + slot * size)) is

-- ---- where a cell's tables stand

seat_tree : (id : ℕ) (seats : List Seat) (found' : Option Seat) (tree : Tree) → find (is_seat_of id) seats ≡ found' → tree_in found' ≡ Some tree → (seat : Seat) × (Contains seats seat × (seat.tree ≡ Some tree))
seat_tree id seats None tree is has = absurd (none-some tree has)
seat_tree id seats (Some seat) tree is has = (seat, ((IsFound_from_find (is_seat_of id) seats seat is).among, has))

pub tree_place : (id : ℕ) (claims : Seat → Claims) (stage : Stage2) → IsForest claims stage → (tree : Tree) → cell_tree id stage.seats.items ≡ Some tree → IsTablePlace tree.table
tree_place id claims stage forest tree has =
    let one = seat_tree id stage.seats.items (find (is_seat_of id) stage.seats.items) tree refl has in
    let tables = tables_of_seat claims stage forest one.0 tree one.1.0 one.1.1 in
    let some : 0 < times (words stage.frames) levels tree.table tree.table = self_times (words stage.frames) 3 tree.table tree.table refl in
    let own = tables.own tree.table some in
    let below = own.below in
    let base = forest.inside.base in
    let size = forest.inside.size in
    let end = forest.inside.end in
    record { aligned = tables.aligned tree.table some; below = omega arith }
