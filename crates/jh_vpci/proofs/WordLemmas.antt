-- The words of configuration space after one was put.
use Rattle.std.proofs.Common.{ℕ, ◌≡◌, ◌≢◌, ◌+◌, ◌-◌, ◌*◌, ◌/◌, ◌%◌, ◌<◌, ◌≤◌, ◌⊎◌, true, false, ◌==◌, inl, inr, arith, refl, sym, ◌∙◌, ap, subst}
use Rattle.std.specs.Int.{bit_at}
use Rattle.std.proofs.lemmas.Bool.{cases_eq, cases_lt, cases_Bool}
use Rattle.jh_vpci.specs.Space.{Space, has_vectors}
use Rattle.jh_vpci.specs.Windows.{AreWindows}
use Rattle.jh_vpci.specs.Words.{word_of, word_offset, read_of}
use Rattle.jh_vpci.specs.Writes.{with_word, written, writable_bits, IsPut, spliced}
use Rattle.jh_vpci.proofs.BitLemmas.{Mixes, differs, bar0_mixes, bar1_mixes, command_mixes, capability_mixes, control_mixes, nothing_mixes}
use Rattle.jh_vpci.proofs.SplicedLemmas.{placed_below, placed_inside, placed_above, part_bit}

-- the word at the offset has this word's bits where they can be written
abbrev PutAt : Space → ℕ → ℕ → ℕ → Type 0
PutAt space word k offset =
    Mixes (writable_bits space offset) (word_of space offset) (word_of (with_word space offset word) offset) word k

at_command : (space : Space) (word k : ℕ) → k < 32 → PutAt space word k 0x04
unfolding word_of with_word
at_command space word k lt = command_mixes space.memory space.bus_master space.interrupts_off word k lt

at_bar0 : (space : Space) (word k : ℕ) → AreWindows space.bar0 space.bar1 → k < 32 → PutAt space word k 0x10
unfolding word_of with_word
at_bar0 space word k aligned lt = bar0_mixes space.bar0 word k lt aligned.pages

at_bar1 : (space : Space) (word k : ℕ) → AreWindows space.bar0 space.bar1 → k < 32 → PutAt space word k 0x14
unfolding word_of with_word
at_bar1 space word k aligned lt =
    elim (cases_Bool (has_vectors space.spec)) as (λ _. PutAt space word k 0x14) [
      | inl some ↦ rw some (bar1_mixes space.bar1 word k lt aligned.tables)
      | inr none ↦ rw none (nothing_mixes space.bar1 word k)
    ]

at_capability : (space : Space) (word k : ℕ) → k < 32 → PutAt space word k 0x40
unfolding word_of with_word
at_capability space word k lt = capability_mixes (has_vectors space.spec) space.one_shot word k lt

-- with vectors, control of MSI-X takes its two bits
with_control : (space : Space) (word : ℕ) → has_vectors space.spec ≡ true
    → with_word space 0x60 word ≡ record space { masked = bit_at word 30 == 1; enabled = bit_at word 31 == 1 }
unfolding with_word
with_control space word some = rw some refl

-- with vectors, BAR 1 takes its upper bits
with_bar1 : (space : Space) (word : ℕ) → has_vectors space.spec ≡ true
    → with_word space 0x14 word ≡ record space { bar1 = word / 0x200 * 0x200 }
unfolding with_word
with_bar1 space word some = rw some refl

-- without vectors neither takes a bit
without_vectors : (space : Space) (word offset : ℕ) → has_vectors space.spec ≡ false → (offset ≡ 0x14) ⊎ (offset ≡ 0x60)
    → with_word space offset word ≡ space
unfolding with_word
without_vectors space word offset none (inl e) = rw (e, none) refl
without_vectors space word offset none (inr e) = rw (e, none) refl

none_put : (space : Space) (word k : ℕ) → has_vectors space.spec ≡ false
    → Mixes (writable_bits space 0x60) (word_of space 0x60) (word_of space 0x60) word k
unfolding word_of
none_put space word k none = rw none (nothing_mixes 0 word k)

control_put : (space : Space) (word k : ℕ) → has_vectors space.spec ≡ true → space.spec.vectors < 256 → k < 32
    → Mixes (writable_bits space 0x60) (word_of space 0x60)
    (word_of (record space { masked = bit_at word 30 == 1; enabled = bit_at word 31 == 1 }) 0x60) word k
unfolding word_of
control_put space word k some small lt =
    rw some (control_mixes (space.spec.vectors - 1) space.masked space.enabled word k (omega arith) lt)

at_control : (space : Space) (word k : ℕ) → space.spec.vectors < 256 → k < 32 → PutAt space word k 0x60
unfolding word_of with_word
at_control space word k small lt =
    elim (cases_Bool (has_vectors space.spec)) as (λ _. PutAt space word k 0x60) [
      | inl some ↦
          let P : Space → Type 0 = λ new. Mixes (writable_bits space 0x60) (word_of space 0x60) (word_of new 0x60) word k in
          subst P (sym (with_control space word some)) (control_put space word k some small lt)
      | inr none ↦
          let P : Space → Type 0 = λ new. Mixes (writable_bits space 0x60) (word_of space 0x60) (word_of new 0x60) word k in
          subst P (sym (without_vectors space word 0x60 none (inr refl))) (none_put space word k none)
    ]

elsewhere : (space : Space) (word k offset : ℕ)
    → offset ≢ 0x04 → offset ≢ 0x10 → offset ≢ 0x14 → offset ≢ 0x40 → offset ≢ 0x60 → PutAt space word k offset
unfolding with_word
elsewhere space word k offset a b c d e =
    rw (differs offset 0x04 a, differs offset 0x10 b, differs offset 0x14 c, differs offset 0x40 d, differs offset 0x60 e)
    (nothing_mixes (word_of space offset) word k)

pub word_mixes : (space : Space) (word k offset : ℕ) → AreWindows space.bar0 space.bar1 → space.spec.vectors < 256
    → k < 32 → PutAt space word k offset
word_mixes space word k offset aligned small lt =
    let P : ℕ → Type 0 = PutAt space word k in
    elim (cases_eq offset 0x04) as (λ _. P offset) [
      | inl e ↦ subst P (sym e) (at_command space word k lt)
      | inr a ↦
          elim (cases_eq offset 0x10) as (λ _. P offset) [
            | inl e ↦ subst P (sym e) (at_bar0 space word k aligned lt)
            | inr b ↦
                elim (cases_eq offset 0x14) as (λ _. P offset) [
                  | inl e ↦ subst P (sym e) (at_bar1 space word k aligned lt)
                  | inr c ↦
                      elim (cases_eq offset 0x40) as (λ _. P offset) [
                        | inl e ↦ subst P (sym e) (at_capability space word k lt)
                        | inr d ↦
                            elim (cases_eq offset 0x60) as (λ _. P offset) [
                              | inl e ↦ subst P (sym e) (at_control space word k small lt)
                              | inr f ↦
                                  elsewhere space word k offset a b c d f
                            ]
                      ]
                ]
          ]
    ]

-- every other word stays
abbrev Stays : Space → ℕ → ℕ → ℕ → Type 0
Stays space word other offset = other ≢ offset → word_of (with_word space offset word) other ≡ word_of space other

stays_command : (space : Space) (word other : ℕ) → Stays space word other 0x04
unfolding word_of with_word
stays_command space word other ne = rw (differs 0x04 other (λ e. ne (sym e))) refl

stays_bar0 : (space : Space) (word other : ℕ) → Stays space word other 0x10
unfolding word_of with_word
stays_bar0 space word other ne = rw (differs 0x10 other (λ e. ne (sym e))) refl

stays_bar1 : (space : Space) (word other : ℕ) → Stays space word other 0x14
unfolding word_of with_word
stays_bar1 space word other ne =
    elim (cases_Bool (has_vectors space.spec)) as (λ _. word_of (with_word space 0x14 word) other ≡ word_of space other) [
      | inl some ↦ ap (λ (new : Space). word_of new other) (with_bar1 space word some)
          ∙ rw (differs 0x14 other (λ e. ne (sym e))) refl
      | inr none ↦ ap (λ (new : Space). word_of new other) (without_vectors space word 0x14 none (inl refl))
    ]

stays_capability : (space : Space) (word other : ℕ) → Stays space word other 0x40
unfolding word_of with_word
stays_capability space word other ne = rw (differs 0x40 other (λ e. ne (sym e))) refl

stays_control : (space : Space) (word other : ℕ) → Stays space word other 0x60
unfolding word_of with_word
stays_control space word other ne =
    elim (cases_Bool (has_vectors space.spec)) as (λ _. word_of (with_word space 0x60 word) other ≡ word_of space other) [
      | inl some ↦ ap (λ (new : Space). word_of new other) (with_control space word some)
          ∙ rw (differs 0x60 other (λ e. ne (sym e))) refl
      | inr none ↦ ap (λ (new : Space). word_of new other) (without_vectors space word 0x60 none (inr refl))
    ]

stays_elsewhere : (space : Space) (word other offset : ℕ)
    → offset ≢ 0x04 → offset ≢ 0x10 → offset ≢ 0x14 → offset ≢ 0x40 → offset ≢ 0x60 → Stays space word other offset
unfolding with_word
stays_elsewhere space word other offset a b c d e ne =
    rw (differs offset 0x04 a, differs offset 0x10 b, differs offset 0x14 c, differs offset 0x40 d, differs offset 0x60 e) refl

pub others_stay : (space : Space) (word other offset : ℕ) → Stays space word other offset
others_stay space word other offset =
    let P : ℕ → Type 0 = Stays space word other in
    elim (cases_eq offset 0x04) as (λ _. P offset) [
      | inl e ↦ subst P (sym e) (stays_command space word other)
      | inr a ↦
          elim (cases_eq offset 0x10) as (λ _. P offset) [
            | inl e ↦ subst P (sym e) (stays_bar0 space word other)
            | inr b ↦
                elim (cases_eq offset 0x14) as (λ _. P offset) [
                  | inl e ↦ subst P (sym e) (stays_bar1 space word other)
                  | inr c ↦
                      elim (cases_eq offset 0x40) as (λ _. P offset) [
                        | inl e ↦ subst P (sym e) (stays_capability space word other)
                        | inr d ↦
                            elim (cases_eq offset 0x60) as (λ _. P offset) [
                              | inl e ↦ subst P (sym e) (stays_control space word other)
                              | inr f ↦
                                  stays_elsewhere space word other offset a b c d f
                            ]
                      ]
                ]
          ]
    ]

-- the bits of the word after a write
abbrev after : Space → ℕ → ℕ → ℕ → ℕ → ℕ
after space at width value k = bit_at (word_of (written space at width value) (word_offset at)) k

mixes_written : (space : Space) (at width value k : ℕ) → AreWindows space.bar0 space.bar1 → space.spec.vectors < 256 → k < 32
    → Mixes (writable_bits space (word_offset at)) (word_of space (word_offset at)) (word_of (written space at width value) (word_offset at))
    (spliced (word_of space (word_offset at)) at width value) k
mixes_written space at width value k aligned small lt =
    word_mixes space (spliced (word_of space (word_offset at)) at width value) k (word_offset at) aligned small lt

pub written_put : (space : Space) (at width value k : ℕ) → AreWindows space.bar0 space.bar1 → space.spec.vectors < 256 → k < 32
    → IsPut space at width k → after space at width value k ≡ bit_at value (k - 8 * (at % 4))
written_put space at width value k aligned small lt put =
    (mixes_written space at width value k aligned small lt).inside put.0
    ∙ placed_inside (word_of space (word_offset at)) (8 * (at % 4)) (8 * width) value k put.1 put.2

pub written_kept : (space : Space) (at width value k : ℕ) → AreWindows space.bar0 space.bar1 → space.spec.vectors < 256 → k < 32
    → ¬ IsPut space at width k → after space at width value k ≡ bit_at (word_of space (word_offset at)) k
written_kept space at width value k aligned small lt none =
    let mixes = mixes_written space at width value k aligned small lt in
    let old = word_of space (word_offset at) in
    let low = 8 * (at % 4) in
    elim (cases_eq (bit_at (writable_bits space (word_offset at)) k) 1)
    as (λ _. after space at width value k ≡ bit_at (word_of space (word_offset at)) k) [
      | inr lacks ↦ mixes.outside lacks
      | inl has ↦ elim (cases_lt k (8 * (at % 4)))
          as (λ _. after space at width value k ≡ bit_at (word_of space (word_offset at)) k) [
            | inl below ↦ mixes.inside has ∙ placed_below (word_of space (word_offset at)) (8 * (at % 4)) (8 * width) value k below
            | inr above ↦ elim (cases_lt k (8 * (at % 4) + 8 * width))
                as (λ _. after space at width value k ≡ bit_at (word_of space (word_offset at)) k) [
                  | inl inside ↦ absurd (none (has, above, inside))
                  | inr past ↦ mixes.inside has ∙ placed_above (word_of space (word_offset at)) (8 * (at % 4)) (8 * width) value k past
                ]
          ]
    ]

-- what a read shows of the word
read_bit : (space : Space) (at width k : ℕ) → k < 8 * width
    → bit_at (read_of space at width) k ≡ bit_at (word_of space (word_offset at)) (8 * (at % 4) + k)
read_bit space at width k below = part_bit (word_of space (word_offset at)) (8 * (at % 4)) (8 * width) k below

pub read_put : (space : Space) (at width value k : ℕ) → AreWindows space.bar0 space.bar1 → space.spec.vectors < 256
    → 8 * (at % 4) + 8 * width ≤ 32 → k < 8 * width → bit_at (writable_bits space (word_offset at)) (8 * (at % 4) + k) ≡ 1
    → bit_at (read_of (written space at width value) at width) k ≡ bit_at value k
read_put space at width value k aligned small within below has =
    read_bit (written space at width value) at width k below
    ∙ written_put space at width value (8 * (at % 4) + k) aligned small (omega arith) (has, omega arith, omega arith)
    ∙ ap (λ n. bit_at value n) (let e : 8 * (at % 4) + k - 8 * (at % 4) ≡ k = omega arith in e)

pub read_kept : (space : Space) (at width value k : ℕ) → AreWindows space.bar0 space.bar1 → space.spec.vectors < 256
    → 8 * (at % 4) + 8 * width ≤ 32 → k < 8 * width → bit_at (writable_bits space (word_offset at)) (8 * (at % 4) + k) ≢ 1
    → bit_at (read_of (written space at width value) at width) k ≡ bit_at (read_of space at width) k
read_kept space at width value k aligned small within below lacks =
    read_bit (written space at width value) at width k below
    ∙ written_kept space at width value (8 * (at % 4) + k) aligned small (omega arith) (λ put. lacks put.0)
    ∙ sym (read_bit space at width k below)
