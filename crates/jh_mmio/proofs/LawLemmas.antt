-- What an answer tells of the regions.
use Rattle.std.proofs.Common.{◌≡◌, ℕ, ◌+◌, ◌<◌, ◌≤◌, Bool, true, false, ◌&&◌, not, cond, List, Option, Some, None, get_or, refl, sym, ◌∙◌, ap, arith, IsTrue}
use Rattle.std.specs.Prelude.{position, slice_get, AllPairs}
use Rattle.std.specs.List.{list_any, range_with_len}
use Rattle.std.specs.Option.{option_map_or}
use Rattle.std.proofs.lemmas.Bool.{and_parts, false_from_ne_true, both_ways}
use Rattle.std.proofs.lemmas.Option.{same_Some, slice_get-get_or, slice_get_within, get_or_from_slice_get}
use Rattle.std.proofs.lemmas.List.Quantifiers.{position-Some}
use Rattle.jh_num.proofs.Public.{list_any_from_Contains, position_here}
use Rattle.jh_num.specs.declared.range.Range.{Range}
use Rattle.jh_cellcfg.specs.declared.region.Region.{Region}
use Rattle.jh_cellcfg.specs.Regions.{has_address, is_comm, place_in, SharesNoAddress}
use Rattle.jh_cellcfg.proofs.Public.{no_region}
use Rattle.jh_mmio.specs.declared.hitting.Window.{Window}
use Rattle.jh_mmio.specs.declared.hitting.Hitting.TheVariants.{Subpage, Ecam, Bar, Nothing}
use Rattle.jh_mmio.specs.Dispatch.{lies_between, is_at_closed, takes_all, has_whole, lets_through, by_subpage, by_ecam, by_window, window_has, hitting_behind_regions, hitting}
use Rattle.jh_num.specs.Numbers.{item_number}
use Rattle.jh_mmio.proofs.AccessLemmas.{byte_of}
use Rattle.jh_mmio.proofs.IndexLemmas.{one_number}
use Rattle.jh_mmio.proofs.HittingLemmas.{takes_all_has}

-- neither configuration space nor a window answers as a region
no_ecam : (b : Bool) (k : ℕ) → cond b Ecam Nothing ≡ Subpage k → ⊥
no_ecam true k h = cc
no_ecam false k h = cc

no_window : (b : Bool) (m k : ℕ) → cond b (Bar m) Nothing ≡ Subpage k → ⊥
no_window true m k h = cc
no_window false m k h = cc

no_windows : (at n : ℕ) (o : Option ℕ) (k : ℕ) → option_map_or (by_window at n) o Nothing ≡ Subpage k → ⊥
no_windows at n None k h = cc
no_windows at n (Some m) k h = no_window _ (item_number m) k h

no_region_by : (ecam : Range) (at n : ℕ) (o : Option ℕ) (b : Bool) (k : ℕ) → cond b (by_ecam ecam.start at n) (option_map_or (by_window at n) o Nothing) ≡ Subpage k → ⊥
no_region_by ecam at n o true k h = no_ecam _ k h
no_region_by ecam at n o false k h = no_windows at n o k h

-- so the first region that takes the access is the one that answers, and it lets the access through
record IsAnsweredBy (regions : List Region) (at n : ℕ) (write : Bool) (first : Option ℕ) (told : ℕ) : Type 0 where
  number : ℕ
  it : first ≡ Some number
  tells : told ≡ item_number number
  lets : option_map_or (lets_through at n write) (slice_get regions number) false ≡ true

let_through : (at n : ℕ) (write : Bool) (regions : List Region) (m told : ℕ) (b : Bool) → option_map_or (lets_through at n write) (slice_get regions m) false ≡ b → cond b (Subpage (item_number m)) Nothing ≡ Subpage told → IsAnsweredBy regions at n write (Some m) told
let_through at n write regions m told true e h =
    let same : told ≡ item_number m = cc in
    record { number = m; it = refl; tells = same; lets = e }
let_through at n write regions m told false e h = absurd (no_window false m told h)

answers_by : (regions : List Region) (ecam : Range) (windows : List Window) (at n : ℕ) (write : Bool) (first : Option ℕ) (told : ℕ) → option_map_or (by_subpage regions at n write) first (hitting_behind_regions ecam.start ecam.end windows at n) ≡ Subpage told → IsAnsweredBy regions at n write first told
answers_by regions ecam windows at n write None told h = absurd (no_region_by ecam at n (position (window_has at n) windows) (lies_between ecam.start ecam.end at n) told h)
answers_by regions ecam windows at n write (Some m) told h = let_through at n write regions m told _ refl h

pub it_answers : (regions : List Region) (closed : ℕ → Bool) (ecam : Range) (windows : List Window) (at n : ℕ) (write : Bool) (told : ℕ) → hitting regions closed ecam windows at n write ≡ Subpage told
    → (k : ℕ) × (r : Region) × (told ≡ item_number k) × (slice_get regions k ≡ Some r) × (takes_all closed at n r ≡ true) × (lets_through at n write r ≡ true)
unfolding hitting
it_answers regions closed ecam windows at n write told h =
    let a = answers_by regions ecam windows at n write (position (takes_all closed at n) regions) told h in
    let k : ℕ = a.number in
    let hit = position-Some (takes_all closed at n) regions k no_region a.it in
    let r : Region = get_or regions k no_region in
    let is : slice_get regions k ≡ Some r = slice_get-get_or regions k no_region hit.0 in
    (k, r, a.tells, is, hit.1, sym (ap (λ (o : Option Region). option_map_or (lets_through at n write) o false) is) ∙ a.lets)

pub only_answers : (regions : List Region) (closed : ℕ → Bool) (ecam : Range) (windows : List Window) (at n : ℕ) (write : Bool) (told : ℕ) → AllPairs SharesNoAddress regions → 0 < n → hitting regions closed ecam windows at n write ≡ Subpage told
    → (k : ℕ) (r : Region) → slice_get regions k ≡ Some r → IsTrue (has_address r at) → told ≡ item_number k
only_answers regions closed ecam windows at n write told apart some h k r is has =
    let a = it_answers regions closed ecam windows at n write told h in
    let same : k ≡ a.0 = one_number regions a.0 k a.1 r at apart a.3 is (takes_all_has closed at n a.1 some a.4) has in
    a.2 ∙ sym (ap item_number same)

pub refusal_ends : (regions : List Region) (closed : ℕ → Bool) (ecam : Range) (windows : List Window) (at n : ℕ) (write : Bool) (k : ℕ) (r : Region) → AllPairs SharesNoAddress regions → 0 < n
    → slice_get regions k ≡ Some r → takes_all closed at n r ≡ true → lets_through at n write r ≡ false → hitting regions closed ecam windows at n write ≡ Nothing
unfolding hitting
refusal_ends regions closed ecam windows at n write k r apart some is takes refuses =
    let lt = slice_get_within regions k r is in
    let at_k : get_or regions k r ≡ r = get_or_from_slice_get regions k r r is in
    let first : Some k ≡ position (takes_all closed at n) regions =
    position_here (takes_all closed at n) regions k r lt
    (λ j before. false_from_ne_true (takes_all closed at n (get_or regions j r)) (λ h.
    let same : j ≡ k = one_number regions k j r (get_or regions j r) at apart is (slice_get-get_or regions j r (omega arith)) (takes_all_has closed at n r some takes) (takes_all_has closed at n (get_or regions j r) some h) in omega arith))
    (ap (takes_all closed at n) at_k ∙ takes) in
    sym (ap (λ (o : Option ℕ). option_map_or (by_subpage regions at n write) o (hitting_behind_regions ecam.start ecam.end windows at n)) first)
    ∙ ap (λ (o : Option Region). cond (option_map_or (lets_through at n write) o false) (Subpage (item_number k)) Nothing) is
    ∙ ap (λ b. cond b (Subpage (item_number k)) Nothing) refuses

-- a region of which a byte of the access is at a closed place doesn't have the access
closed_lacks : (closed : ℕ → Bool) (at n : ℕ) (r : Region) (a : ℕ) → is_comm r ≡ false → at ≤ a → a < at + n → closed (place_in r a) ≡ true → takes_all closed at n r ≡ true → ⊥
closed_lacks closed at n r a comm low high shut takes =
    let parts = and_parts (has_whole at n r) (not (is_at_closed closed at n r)) takes in
    let hit : list_any (λ x. closed (place_in r x)) (range_with_len at n) ≡ true = list_any_from_Contains (λ x. closed (place_in r x)) (range_with_len at n) a (byte_of at n a low high) shut in
    let shut_there : is_at_closed closed at n r ≡ true = ap (λ b. not b && list_any (λ x. closed (place_in r x)) (range_with_len at n)) comm ∙ hit in
    both_ways true (sym parts.1 ∙ ap not shut_there) refl

-- so does none of the number's
closed_lacks_at : (regions : List Region) (closed : ℕ → Bool) (at n k : ℕ) (r : Region) (a : ℕ) → slice_get regions k ≡ Some r → is_comm r ≡ false → at ≤ a → a < at + n → closed (place_in r a) ≡ true
    → (j : ℕ) (s : Region) → slice_get regions j ≡ Some s → takes_all closed at n s ≡ true → j ≡ k → ⊥
closed_lacks_at regions closed at n k r a is comm low high shut j s there takes number =
    let same : s ≡ r = same_Some s r (sym there ∙ ap (slice_get regions) number ∙ is) in
    closed_lacks closed at n r a comm low high shut (sym (ap (takes_all closed at n) same) ∙ takes)

pub closed_another : (regions : List Region) (closed : ℕ → Bool) (ecam : Range) (windows : List Window) (at n : ℕ) (write : Bool) (k : ℕ) (r : Region) (a : ℕ) → slice_get regions k ≡ Some r → is_comm r ≡ false
    → at ≤ a → a < at + n → closed (place_in r a) ≡ true → (told : ℕ) → hitting regions closed ecam windows at n write ≡ Subpage told
    → (j : ℕ) × (j ≡ k → ⊥) × (told ≡ item_number j) × (s : Region) × (slice_get regions j ≡ Some s) × (takes_all closed at n s ≡ true) × (lets_through at n write s ≡ true)
closed_another regions closed ecam windows at n write k r a is comm low high shut told h =
    let answer = it_answers regions closed ecam windows at n write told h in
    (answer.0, closed_lacks_at regions closed at n k r a is comm low high shut answer.0 answer.1 answer.3 answer.4, answer.2, answer.1, answer.3, answer.4, answer.5)

-- a number before the last one is told of one region alone
told_once : (j k : ℕ) → k < 0xffffffff → k ≡ item_number j → j ≡ k
told_once j k below h = omega arith

pub closed_own : (regions : List Region) (closed : ℕ → Bool) (ecam : Range) (windows : List Window) (at n : ℕ) (write : Bool) (k : ℕ) (r : Region) (a : ℕ) → slice_get regions k ≡ Some r → is_comm r ≡ false
    → at ≤ a → a < at + n → closed (place_in r a) ≡ true → k < 0xffffffff → hitting regions closed ecam windows at n write ≡ Subpage k → ⊥
closed_own regions closed ecam windows at n write k r a is comm low high shut below h =
    let other = closed_another regions closed ecam windows at n write k r a is comm low high shut k h in
    other.1 (told_once other.0 k below other.2)

pub closed_none : (regions : List Region) (closed : ℕ → Bool) (ecam : Range) (windows : List Window) (at n : ℕ) (write : Bool) (k : ℕ) (r : Region) (a : ℕ) → AllPairs SharesNoAddress regions → slice_get regions k ≡ Some r → IsTrue (has_address r at) → is_comm r ≡ false
    → at ≤ a → a < at + n → closed (place_in r a) ≡ true → (told : ℕ) → hitting regions closed ecam windows at n write ≡ Subpage told → ⊥
closed_none regions closed ecam windows at n write k r a apart is has comm low high shut told h =
    let answer = it_answers regions closed ecam windows at n write told h in
    let some : 0 < n = omega arith in
    let number : k ≡ answer.0 = one_number regions answer.0 k answer.1 r at apart answer.3 is (takes_all_has closed at n answer.1 some answer.4) has in
    closed_lacks_at regions closed at n k r a is comm low high shut answer.0 answer.1 answer.3 answer.4 (sym number)
