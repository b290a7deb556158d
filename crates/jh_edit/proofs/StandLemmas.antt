-- Where no turn is left, tables stand as they are wanted; and where they stand, none is left.
use Rattle.std.proofs.Common.{◌≡◌, ℕ, ◌+◌, ◌-◌, ◌*◌, ◌%◌, ◌<◌, ◌≤◌, zero, suc, ap, ◌∙◌, sym, subst, arith, refl, Some, None, Bool, true, false, not, ◌&&◌, nat_eq}
use Rattle.std.proofs.lemmas.Bool.{and_parts, eqb-true, false≢true, not-false}
use Rattle.jh_num.specs.declared.level.TheConstants.{LAST_LEVEL}
use Rattle.jh_num.specs.declared.rights.Rights.{Rights}
use Rattle.jh_num.specs.Below.{any_below, sum_below}
use Rattle.jh_num.proofs.Public.{same_number, term_le}
use Rattle.jh_desc.specs.declared.descriptor.Descriptor.{Descriptor}
use Rattle.jh_desc.specs.declared.descriptor.Descriptor.TheVariants.{Invalid, Table, Leaf}
use Rattle.jh_desc.specs.Descriptors.{read_of}
use Rattle.jh_walk.specs.Counts.{by_next, count_from}
use Rattle.jh_shape.specs.declared.want.Want.{Want}
use Rattle.jh_shape.specs.declared.want.Want.TheVariants.{Nothing, Table as WantTable, Leaf as WantLeaf}
use Rattle.jh_shape.specs.Laws.{is_to_table}
use Rattle.jh_shape.specs.Wanted.{Wants, slot_start, tables_under}
use Rattle.jh_edit.specs.Trees.{IsAsWanted, Stands, WantsPagesAtTheEnd, staying, lacking}
use Rattle.jh_edit.specs.Turns.{is_same_flag, are_same_rights, is_wanted_leaf, is_wrong_leaf, lacks_leaf, turn_if, turns_at, turns_of}
use Rattle.jh_edit.proofs.SumLemmas.{any_none, any_down, sum_none, count_more, under_some}
use Rattle.jh_edit.proofs.DescriptorLemmas.{none_at_the_end, slot_aligned}

-- ---- leaves

flag_self : (v : Bool) → is_same_flag v v ≡ true
flag_self true = refl
flag_self false = refl

rights_self : (r : Rights) → are_same_rights r r ≡ true
rights_self r = rw (flag_self r.read, flag_self r.write, flag_self r.execute) refl

pub leaf_self : (o : ℕ) (r : Rights) (v : Bool) → is_wanted_leaf (WantLeaf o r v) (Leaf o r v) ≡ true
leaf_self o r v = rw (same_number o, rights_self r, flag_self v) refl

flag_same : (v w : Bool) → is_same_flag v w ≡ true → v ≡ w
flag_same true w e = sym e
flag_same false true e = absurd (false≢true e)
flag_same false false e = refl

rights_same : (r s : Rights) → are_same_rights r s ≡ true → r ≡ s
rights_same r s e =
    let p = and_parts (is_same_flag r.read s.read) (is_same_flag r.write s.write && is_same_flag r.execute s.execute) e in
    let q = and_parts (is_same_flag r.write s.write) (is_same_flag r.execute s.execute) p.1 in
    let a : r.read ≡ s.read = flag_same r.read s.read p.0 in
    let b : r.write ≡ s.write = flag_same r.write s.write q.0 in
    let c : r.execute ≡ s.execute = flag_same r.execute s.execute q.1 in
    λ i. record { read = a i; write = b i; execute = c i }

leaf_by : (o o' : ℕ) (r r' : Rights) (v v' : Bool) → o' ≡ o → r' ≡ r → v' ≡ v → Leaf o' r' v' ≡ Leaf o r v
leaf_by o o' r r' v v' a b c = λ i. Leaf (a i) (b i) (c i)

-- the leaf that isn't lacked stands
pub leaf_stands : (o : ℕ) (r : Rights) (v : Bool) (d : Descriptor) → lacks_leaf (WantLeaf o r v) d ≡ false → d ≡ Leaf o r v
leaf_stands o r v Invalid e = absurd (false≢true (sym e))
leaf_stands o r v (Table next) e = absurd (false≢true (sym e))
leaf_stands o r v (Leaf o' r' v') e =
    let p = and_parts (nat_eq o' o) (are_same_rights r' r && is_same_flag v' v) (not-false (is_wanted_leaf (WantLeaf o r v) (Leaf o' r' v')) e) in
    let q = and_parts (are_same_rights r' r) (is_same_flag v' v) p.1 in
    leaf_by o o' r r' v v' (eqb-true o' o p.0) (rights_same r' r q.0) (flag_same v' v q.1)

-- ---- from no turns to standing tables

pub flag_down : (b : Bool) → turn_if b ≡ 0 → b ≡ false
flag_down true e = absurd (let n : ⊥ = omega arith in n)
flag_down false e = refl

goes_some : (want : Wants) (word : ℕ → ℕ) (n table : ℕ) → 0 < count_from (staying want) (turns_at want) word (suc n) None table
goes_some want word n table = let e = count_more (staying want) (turns_at want) word n None table in omega arith

table_there : (much : ℕ) (d : Descriptor) → 0 < much → lacking much WantTable d ≡ 0 → (next : ℕ) × (d ≡ Table next)
table_there much Invalid some e = absurd (let n : ⊥ = omega arith in n)
table_there much (Leaf o r v) some e = absurd (let n : ⊥ = omega arith in n)
table_there much (Table next) some e = (next, refl)

slot_stands : (on : ℕ → Type 0) (want : Want) (d : Descriptor) → is_wrong_leaf want d ≡ false → lacks_leaf want d ≡ false
    → (want ≡ WantTable → (next : ℕ) × ((d ≡ Table next) × on next))
    → ((next : ℕ) → d ≡ Table next → is_to_table want ≡ false → ⊥)
    → IsAsWanted on want d
slot_stands on Nothing Invalid wrong lack holds none = refl
slot_stands on Nothing (Table next) wrong lack holds none = absurd (none next refl refl)
slot_stands on Nothing (Leaf o r v) wrong lack holds none = absurd (false≢true (sym wrong))
slot_stands on WantTable d wrong lack holds none = holds refl
slot_stands on (WantLeaf o r v) d wrong lack holds none = leaf_stands o r v d lack

-- what a slot that is wanted as a table, and holds one, counts below
pub below_is : (want : Wants) (word : ℕ → ℕ) (n table start i next : ℕ) → want (LAST_LEVEL - n) (slot_start (LAST_LEVEL - n) start i) ≡ WantTable → read_of (word (table + 8 * i)) (LAST_LEVEL - n) ≡ Table next
    → by_next (count_from (staying want) (turns_at want) word n (staying want (Some start) n i)) (read_of (word (table + 8 * i)) (LAST_LEVEL - n)) ≡ turns_of want word n next (slot_start (LAST_LEVEL - n) start i)
below_is want word n table start i next wants leads = rw (leads, wants) refl

-- and what one counts that holds one that goes
pub goes_is : (want : Wants) (word : ℕ → ℕ) (n table start i next : ℕ) → is_to_table (want (LAST_LEVEL - n) (slot_start (LAST_LEVEL - n) start i)) ≡ false → read_of (word (table + 8 * i)) (LAST_LEVEL - n) ≡ Table next
    → by_next (count_from (staying want) (turns_at want) word n (staying want (Some start) n i)) (read_of (word (table + 8 * i)) (LAST_LEVEL - n)) ≡ count_from (staying want) (turns_at want) word n None next
goes_is want word n table start i next wants leads = rw (leads, wants) refl

pub stand_more : (want : Wants) (word : ℕ → ℕ) (n table start : ℕ) → ((i : ℕ) → i < 512 → IsAsWanted (λ next. Stands want word n next (slot_start (LAST_LEVEL - n) start i)) (want (LAST_LEVEL - n) (slot_start (LAST_LEVEL - n) start i)) (read_of (word (table + 8 * i)) (LAST_LEVEL - n))) → Stands want word (suc n) table start
unfolding Stands
stand_more want word n table start h = h

pub stand_down : (want : Wants) (word : ℕ → ℕ) (n table start : ℕ) → Stands want word (suc n) table start → (i : ℕ) → i < 512 → IsAsWanted (λ next. Stands want word n next (slot_start (LAST_LEVEL - n) start i)) (want (LAST_LEVEL - n) (slot_start (LAST_LEVEL - n) start i)) (read_of (word (table + 8 * i)) (LAST_LEVEL - n))
unfolding Stands
stand_down want word n table start h = h

pub stand_zero : (want : Wants) (word : ℕ → ℕ) (table start : ℕ) → Stands want word zero table start → ⊥
unfolding Stands
stand_zero want word table start h = h

under_at : (want : Wants) (n start : ℕ) → WantsPagesAtTheEnd want → start % 4096 ≡ 0 → want (LAST_LEVEL - n) start ≡ WantTable → 0 < tables_under want n start
under_at want zero start wants begins is = absurd (wants start begins is)
under_at want (suc n) start wants begins is = under_some want n start

goes_at : (want : Wants) (word : ℕ → ℕ) (n at next : ℕ) → read_of (word at) (LAST_LEVEL - n) ≡ Table next → 0 < count_from (staying want) (turns_at want) word n None next
goes_at want word zero at next leads = absurd (none_at_the_end (word at) next leads)
goes_at want word (suc n) at next leads = goes_some want word n next

pub some_left : (word : ℕ → ℕ) (n at next : ℕ) → read_of (word at) (LAST_LEVEL - n) ≡ Table next → 0 < n
some_left word zero at next leads = absurd (none_at_the_end (word at) next leads)
some_left word (suc n) at next leads = omega arith

pub stand_none : (want : Wants) (word : ℕ → ℕ) → WantsPagesAtTheEnd want → (n table start : ℕ) → start % 4096 ≡ 0 → 0 < n → turns_of want word n table start ≡ 0 → Stands want word n table start
stand_none want word wants zero table start begins some none = absurd (let no : ⊥ = omega arith in no)
stand_none want word wants (suc n) table start begins some none =
    let W = λ (i : ℕ). want (LAST_LEVEL - n) (slot_start (LAST_LEVEL - n) start i) in
    let D = λ (i : ℕ). read_of (word (table + 8 * i)) (LAST_LEVEL - n) in
    let B = λ (i : ℕ). by_next (count_from (staying want) (turns_at want) word n (staying want (Some start) n i)) (D i) in
    let K = λ (i : ℕ). lacking (2 * tables_under want n (slot_start (LAST_LEVEL - n) start i)) (W i) (D i) in
    let all = count_more (staying want) (turns_at want) word n (Some start) table in
    let wrong0 : turn_if (any_below (λ i. is_wrong_leaf (W i) (D i)) 512) ≡ 0 = omega arith in
    let lack0 : turn_if (any_below (λ i. lacks_leaf (W i) (D i)) 512) ≡ 0 = omega arith in
    let lacking0 : sum_below 512 K ≡ 0 = omega arith in
    let below0 : sum_below 512 B ≡ 0 = omega arith in
    stand_more want word n table start (λ i lt.
    let k : K i ≤ sum_below 512 K = term_le 512 K i lt in
    let b : B i ≤ sum_below 512 B = term_le 512 B i lt in
    let slot : slot_start (LAST_LEVEL - n) start i % 4096 ≡ 0 = slot_aligned (LAST_LEVEL - n) start i (omega arith) begins in
    slot_stands (λ next. Stands want word n next (slot_start (LAST_LEVEL - n) start i)) (W i) (D i)
    (any_down (λ j. is_wrong_leaf (W j) (D j)) 512 (flag_down (any_below (λ j. is_wrong_leaf (W j) (D j)) 512) wrong0) i lt)
    (any_down (λ j. lacks_leaf (W j) (D j)) 512 (flag_down (any_below (λ j. lacks_leaf (W j) (D j)) 512) lack0) i lt)
    (λ is.
    let least : 0 < tables_under want n (slot_start (LAST_LEVEL - n) start i) = under_at want n (slot_start (LAST_LEVEL - n) start i) wants slot is in
    let k0 : lacking (2 * tables_under want n (slot_start (LAST_LEVEL - n) start i)) WantTable (D i) ≡ 0 = subst (λ w. lacking (2 * tables_under want n (slot_start (LAST_LEVEL - n) start i)) w (D i) ≡ 0) is (omega arith) in
    let t = table_there (2 * tables_under want n (slot_start (LAST_LEVEL - n) start i)) (D i) (omega arith) k0 in
    let e : B i ≡ turns_of want word n t.0 (slot_start (LAST_LEVEL - n) start i) = below_is want word n table start i t.0 is t.1 in
    (t.0, (t.1, stand_none want word wants n t.0 (slot_start (LAST_LEVEL - n) start i) slot (some_left word n (table + 8 * i) t.0 t.1) (omega arith))))
    (λ next leads is.
    let e : B i ≡ count_from (staying want) (turns_at want) word n None next = goes_is want word n table start i next is leads in
    let least = goes_at want word n (table + 8 * i) next leads in
    let no : ⊥ = omega arith in no))

-- ---- and back

no_wrong : (on : ℕ → Type 0) (want : Want) (d : Descriptor) → IsAsWanted on want d → is_wrong_leaf want d ≡ false
no_wrong on Nothing d e = ap (is_wrong_leaf Nothing) e
no_wrong on WantTable d (next, (e, h)) = ap (is_wrong_leaf WantTable) e
no_wrong on (WantLeaf o r v) d e = ap (is_wrong_leaf (WantLeaf o r v)) e ∙ ap not (leaf_self o r v)

no_lack : (on : ℕ → Type 0) (want : Want) (d : Descriptor) → IsAsWanted on want d → lacks_leaf want d ≡ false
no_lack on Nothing d e = refl
no_lack on WantTable d e = refl
no_lack on (WantLeaf o r v) d e = ap (lacks_leaf (WantLeaf o r v)) e ∙ ap not (leaf_self o r v)

no_lacking : (on : ℕ → Type 0) (much : ℕ) (want : Want) (d : Descriptor) → IsAsWanted on want d → lacking much want d ≡ 0
no_lacking on much Nothing d e = refl
no_lacking on much WantTable d (next, (e, h)) = ap (lacking much WantTable) e
no_lacking on much (WantLeaf o r v) d e = refl

-- what a slot that is as wanted counts below, where what goes on counts nothing
no_below : (on : ℕ → Type 0) (f : ℕ → ℕ) (want : Want) (d : Descriptor) → IsAsWanted on want d → (want ≡ WantTable → (next : ℕ) → on next → f next ≡ 0) → by_next f d ≡ 0
no_below on f Nothing d e h = ap (by_next f) e
no_below on f WantTable d (next, (e, more)) h = ap (by_next f) e ∙ h refl next more
no_below on f (WantLeaf o r v) d e h = ap (by_next f) e

pub stays_at : (want : Wants) (n start i : ℕ) → want (LAST_LEVEL - n) (slot_start (LAST_LEVEL - n) start i) ≡ WantTable → staying want (Some start) n i ≡ Some (slot_start (LAST_LEVEL - n) start i)
stays_at want n start i e = rw e refl

pub none_stand : (want : Wants) (word : ℕ → ℕ) (n table start : ℕ) → Stands want word n table start → turns_of want word n table start ≡ 0
none_stand want word zero table start stands = absurd (stand_zero want word table start stands)
none_stand want word (suc n) table start stands =
    let W = λ (i : ℕ). want (LAST_LEVEL - n) (slot_start (LAST_LEVEL - n) start i) in
    let D = λ (i : ℕ). read_of (word (table + 8 * i)) (LAST_LEVEL - n) in
    let B = λ (i : ℕ). by_next (count_from (staying want) (turns_at want) word n (staying want (Some start) n i)) (D i) in
    let K = λ (i : ℕ). lacking (2 * tables_under want n (slot_start (LAST_LEVEL - n) start i)) (W i) (D i) in
    let on = λ (i next : ℕ). Stands want word n next (slot_start (LAST_LEVEL - n) start i) in
    let each = stand_down want word n table start stands in
    let wrong : turn_if (any_below (λ i. is_wrong_leaf (W i) (D i)) 512) ≡ 0 = ap turn_if (any_none (λ i. is_wrong_leaf (W i) (D i)) 512 (λ i lt. no_wrong (on i) (W i) (D i) (each i lt))) in
    let lack : turn_if (any_below (λ i. lacks_leaf (W i) (D i)) 512) ≡ 0 = ap turn_if (any_none (λ i. lacks_leaf (W i) (D i)) 512 (λ i lt. no_lack (on i) (W i) (D i) (each i lt))) in
    let tables : sum_below 512 K ≡ 0 = sum_none K 512 (λ i lt. no_lacking (on i) (2 * tables_under want n (slot_start (LAST_LEVEL - n) start i)) (W i) (D i) (each i lt)) in
    let below : sum_below 512 B ≡ 0 = sum_none B 512 (λ i lt.
    no_below (on i) (count_from (staying want) (turns_at want) word n (staying want (Some start) n i)) (W i) (D i) (each i lt) (λ is next more.
    ap (λ s. count_from (staying want) (turns_at want) word n s next) (stays_at want n start i is) ∙ none_stand want word n next (slot_start (LAST_LEVEL - n) start i) more)) in
    let all = count_more (staying want) (turns_at want) word n (Some start) table in
    omega arith
