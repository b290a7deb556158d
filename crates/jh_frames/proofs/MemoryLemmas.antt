-- Memory place by place.
use Rattle.std.proofs.Common.{◌≡◌, ℕ, ◌+◌, ◌-◌, ◌/◌, ◌%◌, ◌<◌, ◌≤◌, true, false, leb, ltb, List, get_or, take, length, map, replicate, slice_index, slice_range, Some, None, refl, sym, ap, ◌∙◌, arith}
use Rattle.std.specs.List.{range_with_len}
use Rattle.std.proofs.lemmas.Bool.{and_parts, and_from, le-leb, lt-ltb, leb-true, ltb-true}
use Rattle.jh_num.specs.Memory.{spelled}
use Rattle.jh_num.proofs.Public.{range_read, read_over, same_test}
use Rattle.jh_frames.specs.Memory.{OwnView, FramesView, AreOwnBytes, is_own, own_byte, byte_at}
use Rattle.jh_num.specs.Pages.{page_at, byte_of_page, paged_byte}
use Rattle.jh_frames.specs.Kept.{IsWholePages}
use Rattle.jh_frames.proofs.RangeLemmas.{alike_over, zero_over, zeros_over}

-- places of the hypervisor's memory
pub own_above : (own : OwnView) (q : ℕ) → is_own own q ≡ true → own.base ≤ q
own_above own q is = leb-true own.base q (and_parts (leb own.base q) (ltb q (own.base + length own.bytes)) is).0

pub own_below : (own : OwnView) (q : ℕ) → is_own own q ≡ true → q < own.base + length own.bytes
own_below own q is = ltb-true q (own.base + length own.bytes) (and_parts (leb own.base q) (ltb q (own.base + length own.bytes)) is).1

pub own_there : (own : OwnView) (q : ℕ) → own.base ≤ q → q < own.base + length own.bytes → is_own own q ≡ true
own_there own q above below = and_from (leb own.base q) (ltb q (own.base + length own.bytes)) (le-leb own.base q above) (lt-ltb q (own.base + length own.bytes) below)

pub own_read : (own : OwnView) (q : ℕ) → is_own own q ≡ true → own_byte own q ≡ get_or own.bytes (q - own.base) 0
own_read own q is = rw is refl

pub byte_own : (v : FramesView) (q : ℕ) → is_own v.own q ≡ true → byte_at v q ≡ own_byte v.own q
byte_own v q is = rw is refl

pub byte_guest : (v : FramesView) (q : ℕ) → is_own v.own q ≡ false → byte_at v q ≡ paged_byte v.guest.pages q
byte_guest v q is = rw is refl

-- a place of the hypervisor's, from the first of several
pub own_all : (own : OwnView) (at n x : ℕ) → AreOwnBytes own at n → at ≤ x → x < at + n → is_own own x ≡ true
own_all own at n x is above below =
    let low : own.base ≤ at = is.above in
    let high : at + n ≤ own.base + length own.bytes = is.below in
    own_there own x (omega arith) (omega arith)

-- the bytes of one page are the hypervisor's where the first is
pub own_within : (own : OwnView) (at n : ℕ) → IsWholePages own → is_own own at ≡ true → at % 4096 + n ≤ 4096 → AreOwnBytes own at n
own_within own at n whole is within =
    let above : own.base ≤ at = own_above own at is in
    let below : at < own.base + length own.bytes = own_below own at is in
    let aligned : own.base % 4096 ≡ 0 = whole.aligned in
    let pages : length own.bytes % 4096 ≡ 0 = whole.whole in
    record { above = omega arith; below = omega arith }

own_page_by : (own : OwnView) (x y : ℕ) → IsWholePages own → x / 4096 ≡ y / 4096 → is_own own x ≡ true → is_own own y ≡ true
own_page_by own x y whole same is =
    let above : own.base ≤ x = own_above own x is in
    let below : x < own.base + length own.bytes = own_below own x is in
    let aligned : own.base % 4096 ≡ 0 = whole.aligned in
    let pages : length own.bytes % 4096 ≡ 0 = whole.whole in
    own_there own y (omega arith) (omega arith)

-- places of one page are both the hypervisor's, or neither
pub own_page : (own : OwnView) (x y : ℕ) → IsWholePages own → x / 4096 ≡ y / 4096 → is_own own x ≡ is_own own y
own_page own x y whole same = same_test (is_own own x) (is_own own y) (own_page_by own x y whole same) (own_page_by own y x whole (sym same))

-- bytes of the hypervisor's memory in a row, and the number that they spell
pub own_row : (v : FramesView) (at n : ℕ) → AreOwnBytes v.own at n → slice_range v.own.bytes (at - v.own.base) (at - v.own.base + n) ≡ map (byte_at v) (range_with_len at n)
own_row v at n is =
    let low : v.own.base ≤ at = is.above in
    let high : at + n ≤ v.own.base + length v.own.bytes = is.below in
    range_read v.own.bytes (at - v.own.base) n (omega arith)
    ∙ sym (alike_over (byte_at v) (slice_index v.own.bytes) at (at - v.own.base) n (λ j x y lt p q.
    let there : is_own v.own x ≡ true = own_all v.own at n x is (omega arith) (omega arith) in
    let same : x - v.own.base ≡ y = omega arith in
    byte_own v x there ∙ own_read v.own x there ∙ ap (λ k. get_or v.own.bytes k 0) same))

pub own_value : (v : FramesView) (at n : ℕ) → AreOwnBytes v.own at n → spelled (slice_range v.own.bytes (at - v.own.base) (at - v.own.base + n)) ≡ spelled (map (byte_at v) (range_with_len at n))
own_value v at n is = ap spelled (own_row v at n is)

-- those of a guest's page
pub guest_row : (pages : List (ℕ × List ℕ)) (page : List ℕ) (at n : ℕ) → page_at pages (at / 4096) ≡ Some page → length page ≡ 4096 → at % 4096 + n ≤ 4096 → slice_range page (at % 4096) (at % 4096 + n) ≡ map (paged_byte pages) (range_with_len at n)
guest_row pages page at n there long within =
    range_read page (at % 4096) n (omega arith)
    ∙ sym (alike_over (paged_byte pages) (slice_index page) at (at % 4096) n (λ j x y lt p q.
    let number : x / 4096 ≡ at / 4096 = omega arith in
    let offset : x % 4096 ≡ y = omega arith in
    ap (λ k. byte_of_page (page_at pages k) (x % 4096)) number ∙ ap (λ o. byte_of_page o (x % 4096)) there ∙ ap (λ k. get_or page k 0) offset))

pub guest_value : (pages : List (ℕ × List ℕ)) (page : List ℕ) (at n : ℕ) → page_at pages (at / 4096) ≡ Some page → length page ≡ 4096 → at % 4096 + n ≤ 4096 → spelled (slice_range page (at % 4096) (at % 4096 + n)) ≡ spelled (map (paged_byte pages) (range_with_len at n))
guest_value pages page at n there long within = ap spelled (guest_row pages page at n there long within)

-- and those of a page that isn't held
pub no_row : (pages : List (ℕ × List ℕ)) (at n : ℕ) → page_at pages (at / 4096) ≡ None → at % 4096 + n ≤ 4096 → replicate n 0 ≡ map (paged_byte pages) (range_with_len at n)
no_row pages at n none within =
    zeros_over (paged_byte pages) at n (λ j x lt p.
    let number : x / 4096 ≡ at / 4096 = omega arith in
    ap (λ k. byte_of_page (page_at pages k) (x % 4096)) number ∙ ap (λ o. byte_of_page o (x % 4096)) none)

pub no_value : (pages : List (ℕ × List ℕ)) (at n : ℕ) → page_at pages (at / 4096) ≡ None → at % 4096 + n ≤ 4096 → 0 ≡ spelled (map (paged_byte pages) (range_with_len at n))
no_value pages at n none within =
    zero_over (paged_byte pages) at n (λ j x lt p.
    let number : x / 4096 ≡ at / 4096 = omega arith in
    ap (λ k. byte_of_page (page_at pages k) (x % 4096)) number ∙ ap (λ o. byte_of_page o (x % 4096)) none)

-- bytes and the value of a page that isn't the hypervisor's are the guests'
pub guest_row_all : (v : FramesView) (at n : ℕ) → IsWholePages v.own → is_own v.own at ≡ false → at % 4096 + n ≤ 4096 → map (paged_byte v.guest.pages) (range_with_len at n) ≡ map (byte_at v) (range_with_len at n)
guest_row_all v at n whole other within =
    sym (alike_over (byte_at v) (paged_byte v.guest.pages) at at n (λ j x y lt p q.
    let number : x / 4096 ≡ at / 4096 = omega arith in
    let same : x ≡ y = omega arith in
    byte_guest v x (own_page v.own x at whole number ∙ other) ∙ ap (paged_byte v.guest.pages) same))

pub guest_all : (v : FramesView) (at n : ℕ) → IsWholePages v.own → is_own v.own at ≡ false → at % 4096 + n ≤ 4096 → spelled (map (paged_byte v.guest.pages) (range_with_len at n)) ≡ spelled (map (byte_at v) (range_with_len at n))
guest_all v at n whole other within = ap spelled (guest_row_all v at n whole other within)

-- bytes that were read one by one
pub torn_value : (v : FramesView) (bytes : List ℕ) (at n : ℕ) → n ≤ length bytes → ((j : ℕ) → j < n → get_or bytes j 0 ≡ byte_at v (at + j)) → spelled (take (n - 0) bytes) ≡ spelled (map (byte_at v) (range_with_len at n))
torn_value v bytes at n few read =
    let all : n - 0 ≡ n = omega arith in
    ap spelled (ap (λ k. take k bytes) all ∙ read_over bytes 0 n (omega arith)
    ∙ alike_over (slice_index bytes) (byte_at v) 0 at n (λ j x y lt p q.
    let same : x ≡ j = omega arith in
    ap (λ k. get_or bytes k 0) same ∙ read j lt ∙ ap (byte_at v) (sym q)))
