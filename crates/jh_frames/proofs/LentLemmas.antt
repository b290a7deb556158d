-- A page in the hypervisor's memory, once it was lent.
use Rattle.std.proofs.Common.{◌≡◌, ℕ, ◌+◌, ◌-◌, ◌<◌, ◌≤◌, ◌⊎◌, inl, inr, Bool, true, false, List, get_or, take, drop, length, ◌++◌, slice_index, refl, sym, ap, ◌∙◌, arith}
use Rattle.std.proofs.lemmas.Bool.{cases_lt, both_ways}
use Rattle.std.proofs.lemmas.List.{length-take, length-drop, length-append, get_or-take, get_or-drop, get_or_append_left, get_or-append_right, take_all}
use Rattle.jh_num.specs.Memory.{stored}
use Rattle.jh_frames.specs.Memory.{OwnView, FramesView, AreOwnBytes, is_own, byte_at, holds}
use Rattle.jh_frames.specs.Lending.{put_in, with_own_page, with_page}
use Rattle.jh_frames.proofs.MemoryLemmas.{own_all, own_above, own_read, byte_own, byte_guest}
use Rattle.jh_num.proofs.Public.{stored_before, stored_behind, stored_in}

-- the list whose elements are replaced, before it is cut
laid : List ℕ → ℕ → List ℕ → List ℕ
laid bytes k part = take k bytes ++ (part ++ drop (length part) (drop k bytes))

laid_length : (bytes : List ℕ) (k : ℕ) (part : List ℕ) → k + length part ≤ length bytes → length (laid bytes k part) ≡ length bytes
unfolding laid
laid_length bytes k part within =
    let front = length-append (take k bytes) (part ++ drop (length part) (drop k bytes)) in
    let back = length-append part (drop (length part) (drop k bytes)) in
    omega (arith, front, back, length-take k bytes, length-drop (length part) (drop k bytes), length-drop k bytes)

put_in_laid : (bytes : List ℕ) (k : ℕ) (part : List ℕ) → k + length part ≤ length bytes → put_in bytes k part ≡ laid bytes k part
unfolding laid
put_in_laid bytes k part within = let long = laid_length bytes k part within in take_all (length bytes) (laid bytes k part) (omega (arith, long))

-- its length however long the part is
pub put_in_length : (bytes : List ℕ) (k : ℕ) (part : List ℕ) → k ≤ length bytes → length (put_in bytes k part) ≡ length bytes
put_in_length bytes k part within =
    let whole = length-take (length bytes) (take k bytes ++ (part ++ drop (length part) (drop k bytes))) in
    let front = length-append (take k bytes) (part ++ drop (length part) (drop k bytes)) in
    let back = length-append part (drop (length part) (drop k bytes)) in
    omega (arith, whole, front, back, length-take k bytes, length-drop (length part) (drop k bytes), length-drop k bytes)

laid_read : (bytes : List ℕ) (k : ℕ) (part : List ℕ) (j : ℕ) → k + length part ≤ length bytes → (j < k) ⊎ (k ≤ j) → (j < k + length part) ⊎ (k + length part ≤ j) → get_or (laid bytes k part) j 0 ≡ stored (slice_index bytes) k part j
unfolding laid
laid_read bytes k part j within (inl before) _ =
    let few : length (take k bytes) ≡ k = omega (arith, length-take k bytes) in
    get_or_append_left (take k bytes) (part ++ drop (length part) (drop k bytes)) 0 j (omega arith) ∙ get_or-take k bytes j 0 before
    ∙ sym (stored_before (slice_index bytes) k part j before)
laid_read bytes k part j within (inr from) (inl below) =
    let few : length (take k bytes) ≡ k = omega (arith, length-take k bytes) in
    get_or-append_right (take k bytes) (part ++ drop (length part) (drop k bytes)) k j 0 few from
    ∙ get_or_append_left part (drop (length part) (drop k bytes)) 0 (j - k) (omega arith)
    ∙ sym (stored_in (slice_index bytes) k part j from below)
laid_read bytes k part j within (inr from) (inr behind) =
    let few : length (take k bytes) ≡ k = omega (arith, length-take k bytes) in
    let at : k + (length part + (j - k - length part)) ≡ j = omega arith in
    get_or-append_right (take k bytes) (part ++ drop (length part) (drop k bytes)) k j 0 few from
    ∙ get_or-append_right part (drop (length part) (drop k bytes)) (length part) (j - k) 0 refl (omega arith)
    ∙ get_or-drop (length part) (drop k bytes) (j - k - length part) 0 ∙ get_or-drop k bytes (length part + (j - k - length part)) 0
    ∙ ap (λ n. get_or bytes n 0) at
    ∙ sym (stored_behind (slice_index bytes) k part j behind)

put_in_read : (bytes : List ℕ) (k : ℕ) (part : List ℕ) (j : ℕ) → k + length part ≤ length bytes → get_or (put_in bytes k part) j 0 ≡ stored (slice_index bytes) k part j
put_in_read bytes k part j within =
    ap (λ (xs : List ℕ). get_or xs j 0) (put_in_laid bytes k part within) ∙ laid_read bytes k part j within (cases_lt j k) (cases_lt j (k + length part))

-- the page lies in the hypervisor's memory
page_within : (own : OwnView) (at : ℕ) (page : List ℕ) → AreOwnBytes own at 4096 → length page ≡ 4096 → at - own.base + length page ≤ length own.bytes
page_within own at page is long = let low = is.above in let high = is.below in omega arith

pub lent_size : (memory : FramesView) (at : ℕ) (page : List ℕ) → AreOwnBytes memory.own at 4096 → length page ≡ 4096 → length (with_page memory at page).own.bytes ≡ length memory.own.bytes
lent_size memory at page is long = let within = page_within memory.own at page is long in put_in_length memory.own.bytes (at - memory.own.base) page (omega (arith, within))

lent_own : (memory : FramesView) (at : ℕ) (page : List ℕ) → AreOwnBytes memory.own at 4096 → length page ≡ 4096 → (q : ℕ) → is_own (with_page memory at page).own q ≡ is_own memory.own q
lent_own memory at page is long q = rw (lent_size memory at page is long) refl

pub lent_held : (memory : FramesView) (at : ℕ) (page : List ℕ) → AreOwnBytes memory.own at 4096 → length page ≡ 4096 → (q : ℕ) → holds (with_page memory at page) q ≡ holds memory q
lent_held memory at page is long q = rw (lent_own memory at page is long q) refl

-- a place that is stored in the range and in memory
stored_there : (memory : FramesView) (at : ℕ) (page : List ℕ) (q : ℕ) → AreOwnBytes memory.own at 4096 → length page ≡ 4096 → is_own memory.own q ≡ true → memory.own.base ≤ q → (q < at) ⊎ (at ≤ q) → (q < at + length page) ⊎ (at + length page ≤ q)
    → stored (slice_index memory.own.bytes) (at - memory.own.base) page (q - memory.own.base) ≡ stored (byte_at memory) at page q
stored_there memory at page q is long own above (inl before) _ =
    let low = is.above in
    stored_before (slice_index memory.own.bytes) (at - memory.own.base) page (q - memory.own.base) (omega arith)
    ∙ sym (own_read memory.own q own) ∙ sym (byte_own memory q own) ∙ sym (stored_before (byte_at memory) at page q before)
stored_there memory at page q is long own above (inr from) (inl below) =
    let low = is.above in
    let index : q - memory.own.base - (at - memory.own.base) ≡ q - at = omega arith in
    stored_in (slice_index memory.own.bytes) (at - memory.own.base) page (q - memory.own.base) (omega arith) (omega arith)
    ∙ ap (λ n. get_or page n 0) index ∙ sym (stored_in (byte_at memory) at page q from below)
stored_there memory at page q is long own above (inr from) (inr behind) =
    let low = is.above in
    stored_behind (slice_index memory.own.bytes) (at - memory.own.base) page (q - memory.own.base) (omega arith)
    ∙ sym (own_read memory.own q own) ∙ sym (byte_own memory q own) ∙ sym (stored_behind (byte_at memory) at page q behind)

-- a place that isn't the hypervisor's isn't the page's
stored_elsewhere : (memory : FramesView) (at : ℕ) (page : List ℕ) (q : ℕ) → AreOwnBytes memory.own at 4096 → length page ≡ 4096 → is_own memory.own q ≡ false → (q < at) ⊎ (at ≤ q) → (q < at + length page) ⊎ (at + length page ≤ q) → stored (byte_at memory) at page q ≡ byte_at memory q
stored_elsewhere memory at page q is long other (inl before) _ = stored_before (byte_at memory) at page q before
stored_elsewhere memory at page q is long other (inr from) (inl below) = absurd (both_ways (is_own memory.own q) other (own_all memory.own at 4096 q is from (omega arith)))
stored_elsewhere memory at page q is long other (inr from) (inr behind) = stored_behind (byte_at memory) at page q behind

lent_by : (memory : FramesView) (at : ℕ) (page : List ℕ) (q : ℕ) (b : Bool) → AreOwnBytes memory.own at 4096 → length page ≡ 4096 → is_own memory.own q ≡ b → byte_at (with_page memory at page) q ≡ stored (byte_at memory) at page q
lent_by memory at page q true is long own =
    let there : is_own (with_page memory at page).own q ≡ true = lent_own memory at page is long q ∙ own in
    byte_own (with_page memory at page) q there ∙ own_read (with_own_page memory.own at page) q there
    ∙ put_in_read memory.own.bytes (at - memory.own.base) page (q - memory.own.base) (page_within memory.own at page is long)
    ∙ stored_there memory at page q is long own (own_above memory.own q own) (cases_lt q at) (cases_lt q (at + length page))
lent_by memory at page q false is long other =
    byte_guest (with_page memory at page) q (lent_own memory at page is long q ∙ other) ∙ sym (byte_guest memory q other)
    ∙ sym (stored_elsewhere memory at page q is long other (cases_lt q at) (cases_lt q (at + length page)))

pub lent_bytes : (memory : FramesView) (at : ℕ) (page : List ℕ) → AreOwnBytes memory.own at 4096 → length page ≡ 4096 → (q : ℕ) → byte_at (with_page memory at page) q ≡ stored (byte_at memory) at page q
lent_bytes memory at page is long q = lent_by memory at page q (is_own memory.own q) is long refl
