-- A word is eight bytes.
use Rattle.std.proofs.Common.{◌≡◌, ℕ, ◌+◌, ◌-◌, ◌<◌, ◌≤◌, ◌^◌, arith, true, List, ◌∷◌, [], ◌++◌, length, length-take, take, get_or, slice_index, ap, subst, map, refl, sym, ◌∙◌}
use Rattle.std.proofs.lemmas.List.{get_or-append_right, get_or_append_left, take_all}
use Rattle.std.proofs.lemmas.Nat.{from_le_bytes-to_le_bytes_8}
use borrow.Rule.Slice.PartMut.{put_mid, post_of}
use Rattle.std.specs.Int.{w64, from_le_bytes, to_le_bytes}
use Rattle.std.specs.List.{range_with_len}
use Rattle.jh_num.specs.Memory.{spelled, stored}
use Rattle.jh_frames.specs.Memory.{OwnView, AreOwnBytes, is_own, own_byte, word_in}
use Rattle.jh_frames.proofs.MemoryLemmas.{own_there, own_read}
use Rattle.jh_frames.proofs.RangeLemmas.{alike_over}
use Rattle.jh_num.proofs.Public.{read_over, stored_before, stored_behind, stored_in}

same_eight : (a b c d e f g h a' b' c' d' e' f' g' h' : ℕ) → a' ≡ a → b' ≡ b → c' ≡ c → d' ≡ d → e' ≡ e → f' ≡ f → g' ≡ g → h' ≡ h → a' ∷ b' ∷ c' ∷ d' ∷ e' ∷ f' ∷ g' ∷ h' ∷ [] ≡ a ∷ b ∷ c ∷ d ∷ e ∷ f ∷ g ∷ h ∷ []
same_eight a b c d e f g h a' b' c' d' e' f' g' h' p q r s t u v w = cc

pub word_alike : (b b' : ℕ → ℕ) (q : ℕ) → ((k : ℕ) → k < 8 → b' (q + k) ≡ b (q + k)) → word_in b' q ≡ word_in b q
word_alike b b' q e =
    let z : q + 0 ≡ q = omega arith in
    let first : b' q ≡ b q = subst (λ p. b' p ≡ b p) z (e 0 (omega arith)) in
    ap (from_le_bytes w64) (same_eight (b q) (b (q + 1)) (b (q + 2)) (b (q + 3)) (b (q + 4)) (b (q + 5)) (b (q + 6)) (b (q + 7)) (b' q) (b' (q + 1)) (b' (q + 2)) (b' (q + 3)) (b' (q + 4)) (b' (q + 5)) (b' (q + 6)) (b' (q + 7)) first (e 1 (omega arith)) (e 2 (omega arith)) (e 3 (omega arith)) (e 4 (omega arith)) (e 5 (omega arith)) (e 6 (omega arith)) (e 7 (omega arith)))

spelled_eight : (a b c d e f g h : ℕ) → from_le_bytes w64 (a ∷ b ∷ c ∷ d ∷ e ∷ f ∷ g ∷ h ∷ []) ≡ spelled (a ∷ b ∷ c ∷ d ∷ e ∷ f ∷ g ∷ h ∷ [])
spelled_eight a b c d e f g h = omega arith

eight_of : (b : ℕ → ℕ) (q : ℕ) → map b (range_with_len q 8) ≡ b q ∷ b (q + 1) ∷ b (q + 2) ∷ b (q + 3) ∷ b (q + 4) ∷ b (q + 5) ∷ b (q + 6) ∷ b (q + 7) ∷ []
eight_of b q =
    let two : q + 1 + 1 ≡ q + 2 = omega arith in
    let three : q + 1 + 1 + 1 ≡ q + 3 = omega arith in
    let four : q + 1 + 1 + 1 + 1 ≡ q + 4 = omega arith in
    let five : q + 1 + 1 + 1 + 1 + 1 ≡ q + 5 = omega arith in
    let six : q + 1 + 1 + 1 + 1 + 1 + 1 ≡ q + 6 = omega arith in
    let seven : q + 1 + 1 + 1 + 1 + 1 + 1 + 1 ≡ q + 7 = omega arith in
    same_eight (b q) (b (q + 1)) (b (q + 2)) (b (q + 3)) (b (q + 4)) (b (q + 5)) (b (q + 6)) (b (q + 7)) (b q) (b (q + 1)) (b (q + 1 + 1)) (b (q + 1 + 1 + 1)) (b (q + 1 + 1 + 1 + 1)) (b (q + 1 + 1 + 1 + 1 + 1)) (b (q + 1 + 1 + 1 + 1 + 1 + 1)) (b (q + 1 + 1 + 1 + 1 + 1 + 1 + 1)) refl refl (ap b two) (ap b three) (ap b four) (ap b five) (ap b six) (ap b seven)

pub word_spelled : (b : ℕ → ℕ) (q : ℕ) → word_in b q ≡ spelled (map b (range_with_len q 8))
word_spelled b q = spelled_eight (b q) (b (q + 1)) (b (q + 2)) (b (q + 3)) (b (q + 4)) (b (q + 5)) (b (q + 6)) (b (q + 7)) ∙ sym (ap spelled (eight_of b q))

-- a word below or above what is stored
pub word_before : (before after : ℕ → ℕ) (at word : ℕ) (bytes : List ℕ) → ((q : ℕ) → after q ≡ stored before at bytes q) → word + 8 ≤ at → word_in after word ≡ word_in before word
word_before before after at word bytes is below = word_alike before after word (λ k lt. is (word + k) ∙ stored_before before at bytes (word + k) (omega arith))

pub word_behind : (before after : ℕ → ℕ) (at word : ℕ) (bytes : List ℕ) → ((q : ℕ) → after q ≡ stored before at bytes q) → at + length bytes ≤ word → word_in after word ≡ word_in before word
word_behind before after at word bytes is above = word_alike before after word (λ k lt. is (word + k) ∙ stored_behind before at bytes (word + k) (omega arith))

-- the number of what is stored
pub stored_spelled : (before after : ℕ → ℕ) (at : ℕ) (bytes : List ℕ) → ((q : ℕ) → after q ≡ stored before at bytes q) → spelled (map after (range_with_len at (length bytes))) ≡ spelled bytes
stored_spelled before after at bytes is =
    ap spelled (alike_over after (slice_index bytes) at 0 (length bytes) (λ j x y lt p q.
    let same : x - at ≡ y = omega arith in
    is x ∙ stored_in before at bytes x (omega arith) (omega arith) ∙ ap (λ n. get_or bytes n 0) same)
    ∙ sym (read_over bytes 0 (length bytes) (omega arith)) ∙ take_all (length bytes) bytes (omega arith))

-- a byte of a list that is put into another
put_there : (xs bytes : List ℕ) (k n j : ℕ) → k + length bytes ≤ length xs → j < length bytes → get_or (put_mid k n xs bytes) (k + j) 0 ≡ get_or bytes j 0
put_there xs bytes k n j within less =
    let front : length (take k xs) ≡ k = length-take k xs ∙ omega arith in
    let same : k + j - length (take k xs) ≡ j = omega arith in
    get_or-append_right (take k xs) (bytes ++ post_of k n xs) (length (take k xs)) (k + j) 0 refl (omega arith)
    ∙ ap (λ (i : ℕ). get_or (bytes ++ post_of k n xs) i 0) same
    ∙ get_or_append_left bytes (post_of k n xs) 0 j less

-- the number whose bytes are put into the hypervisor's memory is the word there
pub word_put : (own : OwnView) (at word : ℕ) (bytes : List ℕ) → AreOwnBytes own at 8 → word < 2 ^ 64 → bytes ≡ to_le_bytes w64 word → (n : ℕ)
    → length (put_mid (at - own.base) n own.bytes bytes) ≡ length own.bytes
    → word_in (own_byte (record { base = own.base; bytes = put_mid (at - own.base) n own.bytes bytes })) at ≡ word
word_put own at word bytes is small same n long =
    let new : OwnView = record { base = own.base; bytes = put_mid (at - own.base) n own.bytes bytes } in
    let above : own.base ≤ at = is.above in
    let below : at + 8 ≤ own.base + length own.bytes = is.below in
    let eight : length bytes ≡ 8 = ap length same in
    let byte : (j : ℕ) → j < 8 → own_byte new (at + j) ≡ get_or (to_le_bytes w64 word) j 0 = λ j less.
    let there : is_own new (at + j) ≡ true = own_there new (at + j) (omega arith) (omega arith) in
    let place : at + j - own.base ≡ at - own.base + j = omega arith in
    own_read new (at + j) there ∙ ap (λ (i : ℕ). get_or new.bytes i 0) place ∙ put_there own.bytes bytes (at - own.base) n j (omega arith) (omega arith)
    ∙ ap (λ (bs : List ℕ). get_or bs j 0) same in
    let w = to_le_bytes w64 word in
    let b = own_byte new in
    let z : at + 0 ≡ at = omega arith in
    let first : b at ≡ get_or w 0 0 = ap b (sym z) ∙ byte 0 (omega arith) in
    ap (from_le_bytes w64) (same_eight (get_or w 0 0) (get_or w 1 0) (get_or w 2 0) (get_or w 3 0) (get_or w 4 0) (get_or w 5 0) (get_or w 6 0) (get_or w 7 0) (b at) (b (at + 1)) (b (at + 2)) (b (at + 3)) (b (at + 4)) (b (at + 5)) (b (at + 6)) (b (at + 7)) first (byte 1 (omega arith)) (byte 2 (omega arith)) (byte 3 (omega arith)) (byte 4 (omega arith)) (byte 5 (omega arith)) (byte 6 (omega arith)) (byte 7 (omega arith)))
    ∙ from_le_bytes-to_le_bytes_8 word small
