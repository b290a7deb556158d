-- What is written as a word is read from it.
use Rattle.std.proofs.Common.{◌≡◌, ℕ, ◌+◌, ◌-◌, ◌*◌, ◌/◌, ◌%◌, ◌^◌, ◌<◌, ◌≤◌, ◌⊎◌, inl, inr, Bool, true, false, cond, refl, ap, sym, ◌∙◌, arith, subst}
use Rattle.std.specs.Prelude.{not, ◌==◌, if◌then◌else◌}
use Rattle.std.proofs.lemmas.Bool.{cases_eq}
use Rattle.std.proofs.lemmas.Bool.Decides.{nat_tests}
use Rattle.jh_num.specs.declared.rights.Rights.{Rights}
use Rattle.jh_desc.specs.declared.descriptor.Descriptor.{Descriptor}
use Rattle.jh_desc.specs.declared.descriptor.Descriptor.TheVariants.{Invalid, Table, Leaf}
use Rattle.jh_desc.specs.Descriptors.{address_in, rights_in, is_device, has_blocks, read_of, leaf_bits, word_of, IsWritable}
use Rattle.jh_num.specs.declared.level.TheConstants.{LAST_LEVEL}
use Rattle.jh_num.specs.Bits.{bits_where, has_bit}
use Rattle.jh_num.specs.Levels.{slot_size}

-- a fact as a number
abbrev num : Bool → ℕ
num fact = cond fact 1 0

num_most : (fact : Bool) → num fact ≤ 1
num_most true = omega arith
num_most false = omega arith

where_num : (fact : Bool) (n : ℕ) → bits_where fact n ≡ n * num fact
where_num true n = omega arith
where_num false n = omega arith

is_num : (fact : Bool) (n : ℕ) → n ≡ num fact → (n == 1) ≡ fact
is_num true n e = grind (arith, nat_tests)
is_num false n e = grind (arith, nat_tests)

not_twice : (fact : Bool) → not (not fact) ≡ fact
not_twice true = refl
not_twice false = refl

memory_num : (device : Bool) → (if device then 1 else 15) ≡ 15 - 14 * num device
memory_num true = refl
memory_num false = refl

device_num : (device : Bool) (n : ℕ) → n ≡ 3 - 3 * num device → (n == 0) ≡ device
device_num true n e = grind (arith, nat_tests)
device_num false n e = grind (arith, nat_tests)

-- the parts of a leaf's word, its facts as numbers
pub record IsWord (out kind r w x d word : ℕ) : Type 0 where
  pub is : word ≡ out + (1 + kind + (15 - 14 * d) * 4 + 64 * r + 128 * w + 3 * 256 + 1024 + 18014398509481984 * x)
  pub small : kind ≤ 2
  pub even : kind % 2 ≡ 0
  pub read : r ≤ 1
  pub write : w ≤ 1
  pub never : x ≤ 1
  pub device : d ≤ 1
  pub aligned : out % 4096 ≡ 0
  pub place : out < 2 ^ 48

word_0 : (out kind r w x d word : ℕ) → IsWord out kind r w x d word → word / 1 % 2 ≡ 1
word_0 out kind r w x d word is = omega (arith, is.is, is.even, is.aligned)

word_1 : (out kind r w x d word : ℕ) → IsWord out kind r w x d word → word / 2 % 2 ≡ kind / 2
word_1 out kind r w x d word is = omega (arith, is.is, is.small, is.even, is.device, is.aligned)

word_6 : (out kind r w x d word : ℕ) → IsWord out kind r w x d word → word / 64 % 2 ≡ r
word_6 out kind r w x d word is = omega (arith, is.is, is.small, is.read, is.device, is.aligned)

word_7 : (out kind r w x d word : ℕ) → IsWord out kind r w x d word → word / 128 % 2 ≡ w
word_7 out kind r w x d word is = omega (arith, is.is, is.small, is.read, is.write, is.device, is.aligned)

word_54 : (out kind r w x d word : ℕ) → IsWord out kind r w x d word → word / 18014398509481984 % 2 ≡ x
word_54 out kind r w x d word is = omega (arith, is.is, is.small, is.read, is.write, is.device, is.never, is.place)

word_device : (out kind r w x d word : ℕ) → IsWord out kind r w x d word → word / 16 % 4 ≡ 3 - 3 * d
word_device out kind r w x d word is = omega (arith, is.is, is.small, is.device, is.aligned)

word_place : (out kind r w x d word : ℕ) → IsWord out kind r w x d word → word % 281474976710656 ≡ out + (1 + kind + (15 - 14 * d) * 4 + 64 * r + 128 * w + 3 * 256 + 1024)
word_place out kind r w x d word is = omega (arith, is.is, is.small, is.read, is.write, is.device, is.aligned, is.place)

low : (kind r w d : ℕ) → kind ≤ 2 → r ≤ 1 → w ≤ 1 → 1 + kind + (15 - 14 * d) * 4 + 64 * r + 128 * w + 3 * 256 + 1024 < 4096
low kind r w d a b c = omega arith

cut_30 : (out low place : ℕ) → low < 4096 → out % 1073741824 ≡ 0 → place ≡ out + low → place - place % 1073741824 ≡ out
cut_30 out low place a b e = omega arith

cut_21 : (out low place : ℕ) → low < 4096 → out % 2097152 ≡ 0 → place ≡ out + low → place - place % 2097152 ≡ out
cut_21 out low place a b e = omega arith

cut_12 : (out low place : ℕ) → low < 4096 → out % 4096 ≡ 0 → place ≡ out + low → place - place % 4096 ≡ out
cut_12 out low place a b e = omega arith

same_rights : (a b c : Bool) (rights : Rights) → a ≡ rights.read → b ≡ rights.write → c ≡ rights.execute → record { read = a; write = b; execute = c } ≡ rights
same_rights a b c rights p q r = rw (p, q, r) refl

-- what a word says, part by part
block_reads : (level word out : ℕ) (rights : Rights) (device : Bool) → has_bit word 0 ≡ true → has_bit word 1 ≡ false → has_blocks level ≡ true → address_in (slot_size level) word ≡ out → rights_in word ≡ rights → is_device word ≡ device → read_of word level ≡ Leaf out rights device
block_reads level word out rights device valid block may at can memory = rw (valid, block, may, at, can, memory) refl

page_reads : (level word out : ℕ) (rights : Rights) (device : Bool) → has_bit word 0 ≡ true → has_bit word 1 ≡ true → (level == LAST_LEVEL) ≡ true → address_in (slot_size level) word ≡ out → rights_in word ≡ rights → is_device word ≡ device → read_of word level ≡ Leaf out rights device
page_reads level word out rights device valid page last at can memory = rw (valid, page, last, at, can, memory) refl

abbrev WordOf : ℕ → ℕ → Rights → Bool → ℕ → Type 0
WordOf out kind rights device word = IsWord out kind (num rights.read) (num rights.write) (num (not rights.execute)) (num device) word

is_word : (out kind n : ℕ) (rights : Rights) (device : Bool) → n ≡ kind → kind ≤ 2 → kind % 2 ≡ 0 → out % 4096 ≡ 0 → out < 2 ^ 48 → WordOf out kind rights device (out + (1 + n + (if device then 1 else 15) * 2 ^ 2 + bits_where rights.read (2 ^ 6) + bits_where rights.write (2 ^ 7) + 3 * 2 ^ 8 + 2 ^ 10 + bits_where (not rights.execute) (2 ^ 54)))
is_word out kind n rights device e small even aligned place = record {
  is = rw (e, where_num rights.read (2 ^ 6), where_num rights.write (2 ^ 7), where_num (not rights.execute) (2 ^ 54), memory_num device) refl;
  small = small;
  even = even;
  read = num_most rights.read;
  write = num_most rights.write;
  never = num_most (not rights.execute);
  device = num_most device;
  aligned = aligned;
  place = place;
}

valid_of : (out kind word : ℕ) (rights : Rights) (device : Bool) → WordOf out kind rights device word → has_bit word 0 ≡ true
valid_of out kind word rights device is = is_num true (word / 1 % 2) (word_0 out kind (num rights.read) (num rights.write) (num (not rights.execute)) (num device) word is)

kind_of : (out kind word : ℕ) (rights : Rights) (device page : Bool) → kind / 2 ≡ num page → WordOf out kind rights device word → has_bit word 1 ≡ page
kind_of out kind word rights device page e is = is_num page (word / 2 % 2) (word_1 out kind (num rights.read) (num rights.write) (num (not rights.execute)) (num device) word is ∙ e)

rights_of : (out kind word : ℕ) (rights : Rights) (device : Bool) → WordOf out kind rights device word → rights_in word ≡ rights
rights_of out kind word rights device is =
    same_rights (has_bit word 6) (has_bit word 7) (not (has_bit word 54)) rights
    (is_num rights.read (word / 64 % 2) (word_6 out kind (num rights.read) (num rights.write) (num (not rights.execute)) (num device) word is))
    (is_num rights.write (word / 128 % 2) (word_7 out kind (num rights.read) (num rights.write) (num (not rights.execute)) (num device) word is))
    (ap not (is_num (not rights.execute) (word / 18014398509481984 % 2) (word_54 out kind (num rights.read) (num rights.write) (num (not rights.execute)) (num device) word is)) ∙ not_twice rights.execute)

device_of : (out kind word : ℕ) (rights : Rights) (device : Bool) → WordOf out kind rights device word → is_device word ≡ device
device_of out kind word rights device is = device_num device (word / 16 % 4) (word_device out kind (num rights.read) (num rights.write) (num (not rights.execute)) (num device) word is)

-- the bits of a leaf between its address and bit 48
abbrev low_of : ℕ → Rights → Bool → ℕ
low_of kind rights device = 1 + kind + (15 - 14 * num device) * 4 + 64 * num rights.read + 128 * num rights.write + 3 * 256 + 1024

place_of : (out kind word : ℕ) (rights : Rights) (device : Bool) → WordOf out kind rights device word → word % 281474976710656 ≡ out + low_of kind rights device
place_of out kind word rights device is = word_place out kind (num rights.read) (num rights.write) (num (not rights.execute)) (num device) word is

low_is : (out kind word : ℕ) (rights : Rights) (device : Bool) → WordOf out kind rights device word → low_of kind rights device < 4096
low_is out kind word rights device is = low kind (num rights.read) (num rights.write) (num device) is.small is.read is.write

leaf_1 : (out : ℕ) (rights : Rights) (device : Bool) → out % 1073741824 ≡ 0 → out < 2 ^ 48 → read_of (word_of (Leaf out rights device) 1) 1 ≡ Leaf out rights device
leaf_1 out rights device aligned place =
    let is : WordOf out 0 rights device (word_of (Leaf out rights device) 1) = is_word out 0 0 rights device refl (omega arith) refl (omega arith) place in
    block_reads 1 (word_of (Leaf out rights device) 1) out rights device (valid_of out 0 _ rights device is) (kind_of out 0 _ rights device false refl is) refl
    (cut_30 out (low_of 0 rights device) _ (low_is out 0 _ rights device is) aligned (place_of out 0 _ rights device is))
    (rights_of out 0 _ rights device is) (device_of out 0 _ rights device is)

leaf_2 : (out : ℕ) (rights : Rights) (device : Bool) → out % 2097152 ≡ 0 → out < 2 ^ 48 → read_of (word_of (Leaf out rights device) 2) 2 ≡ Leaf out rights device
leaf_2 out rights device aligned place =
    let is : WordOf out 0 rights device (word_of (Leaf out rights device) 2) = is_word out 0 0 rights device refl (omega arith) refl (omega arith) place in
    block_reads 2 (word_of (Leaf out rights device) 2) out rights device (valid_of out 0 _ rights device is) (kind_of out 0 _ rights device false refl is) refl
    (cut_21 out (low_of 0 rights device) _ (low_is out 0 _ rights device is) aligned (place_of out 0 _ rights device is))
    (rights_of out 0 _ rights device is) (device_of out 0 _ rights device is)

leaf_3 : (out : ℕ) (rights : Rights) (device : Bool) → out % 4096 ≡ 0 → out < 2 ^ 48 → read_of (word_of (Leaf out rights device) 3) 3 ≡ Leaf out rights device
leaf_3 out rights device aligned place =
    let is : WordOf out 2 rights device (word_of (Leaf out rights device) 3) = is_word out 2 2 rights device refl (omega arith) refl aligned place in
    page_reads 3 (word_of (Leaf out rights device) 3) out rights device (valid_of out 2 _ rights device is) (kind_of out 2 _ rights device true refl is) refl
    (cut_12 out (low_of 2 rights device) _ (low_is out 2 _ rights device is) aligned (place_of out 2 _ rights device is))
    (rights_of out 2 _ rights device is) (device_of out 2 _ rights device is)

leaf_by_cases : (level out : ℕ) (rights : Rights) (device : Bool) → 0 < level → level ≤ 3 → out % slot_size level ≡ 0 → out < 2 ^ 48 → (level ≡ 1) ⊎ (level ≡ 1 → ⊥) → (level ≡ 2) ⊎ (level ≡ 2 → ⊥) → read_of (word_of (Leaf out rights device) level) level ≡ Leaf out rights device
leaf_by_cases level out rights device low' high aligned place (inl e) other =
    subst (λ l. read_of (word_of (Leaf out rights device) l) l ≡ Leaf out rights device) (sym e) (leaf_1 out rights device (subst (λ l. out % slot_size l ≡ 0) e aligned) place)
leaf_by_cases level out rights device low' high aligned place (inr ne) (inl e) =
    subst (λ l. read_of (word_of (Leaf out rights device) l) l ≡ Leaf out rights device) (sym e) (leaf_2 out rights device (subst (λ l. out % slot_size l ≡ 0) e aligned) place)
leaf_by_cases level out rights device low' high aligned place (inr ne) (inr ne') =
    let e : level ≡ 3 = omega (arith, low', high, ne, ne') in
    subst (λ l. read_of (word_of (Leaf out rights device) l) l ≡ Leaf out rights device) (sym e) (leaf_3 out rights device (subst (λ l. out % slot_size l ≡ 0) e aligned) place)

table_reads : (level word next : ℕ) → has_bit word 0 ≡ true → has_bit word 1 ≡ true → (level == LAST_LEVEL) ≡ false → address_in 4096 word ≡ next → read_of word level ≡ Table next
table_reads level word next valid table above at = rw (valid, table, above, at) refl

table_written : (level next : ℕ) → level < 3 → next % 4096 ≡ 0 → next < 2 ^ 48 → read_of (next + 3) level ≡ Table next
table_written level next above aligned place =
    let whole : (next + 3) % 281474976710656 ≡ next + 3 = omega arith in
    table_reads level (next + 3) next (is_num true ((next + 3) / 1 % 2) (omega arith)) (is_num true ((next + 3) / 2 % 2) (omega arith)) (grind (arith, nat_tests)) (cut_12 next 3 _ (omega arith) aligned whole)

-- each descriptor that a level can hold is read from its word
pub written_reads : (d : Descriptor) (level : ℕ) → level ≤ 3 → IsWritable d level → read_of (word_of d level) level ≡ d
written_reads Invalid level le can = refl
written_reads (Table next) level le can = table_written level next can.0 can.1 can.2
written_reads (Leaf out rights device) level le can = leaf_by_cases level out rights device can.0 le can.1 can.2 (cases_eq level 1) (cases_eq level 2)

parts_alike : (a b level : ℕ) → a % 281474976710656 ≡ b % 281474976710656 → has_bit a 0 ≡ has_bit b 0 → has_bit a 1 ≡ has_bit b 1 → rights_in a ≡ rights_in b → is_device a ≡ is_device b → read_of a level ≡ read_of b level
parts_alike a b level place valid table can memory = rw (place, valid, table, can, memory) refl

bits_alike : (a b c a' b' c' : Bool) → a ≡ a' → b ≡ b' → c ≡ c' → (let x : Rights = record { read = a; write = b; execute = not c } in x) ≡ record { read = a'; write = b'; execute = not c' }
bits_alike a b c a' b' c' p q r = rw (p, q, r) refl

-- bits 55 and up change no part of a word
pub high_reads : (word high level : ℕ) → read_of (word + 2 ^ 55 * high) level ≡ read_of word level
high_reads word high level =
    let e0 : (word + 36028797018963968 * high) / 1 % 2 ≡ word / 1 % 2 = omega arith in
    let e1 : (word + 36028797018963968 * high) / 2 % 2 ≡ word / 2 % 2 = omega arith in
    let e6 : (word + 36028797018963968 * high) / 64 % 2 ≡ word / 64 % 2 = omega arith in
    let e7 : (word + 36028797018963968 * high) / 128 % 2 ≡ word / 128 % 2 = omega arith in
    let e54 : (word + 36028797018963968 * high) / 18014398509481984 % 2 ≡ word / 18014398509481984 % 2 = omega arith in
    let e4 : (word + 36028797018963968 * high) / 16 % 4 ≡ word / 16 % 4 = omega arith in
    parts_alike (word + 36028797018963968 * high) word level (omega arith) (ap (λ n. n == 1) e0) (ap (λ n. n == 1) e1)
    (bits_alike _ _ _ _ _ _ (ap (λ n. n == 1) e6) (ap (λ n. n == 1) e7) (ap (λ n. n == 1) e54))
    (ap (λ n. n == 0) e4)

-- a leaf's word of its address and bits
pub leaf_written : (level out bits : ℕ) (rights : Rights) (device : Bool) (d : Descriptor) → level ≤ 3 → d ≡ Leaf out rights device → bits ≡ leaf_bits level rights device → IsWritable d level → read_of (out + bits) level ≡ d
leaf_written level out bits rights device d le is e can =
    let can' : IsWritable (Leaf out rights device) level = subst (λ z. IsWritable z level) is can in
    subst (λ n. read_of (out + n) level ≡ d) (sym e) (written_reads (Leaf out rights device) level le can' ∙ sym is)
