-- A table page that is written slot by slot.
use Rattle.std.proofs.Common.{◌≡◌, ℕ, ◌+◌, ◌-◌, ◌*◌, ◌%◌, ◌<◌, ◌≤◌, zero, suc, Bool, length, List, ap, ◌∙◌, sym, subst, ⊎_elim, arith, refl}
use Rattle.std.proofs.lemmas.Bool.{cases_lt}
use Rattle.std.proofs.lemmas.Nat.{pow_pos}
use Rattle.jh_num.specs.declared.address.TheConstants.{ADDRESS_END}
use Rattle.jh_num.specs.declared.level.TheConstants.{LAST_LEVEL}
use Rattle.jh_num.specs.declared.rights.Rights.{Rights}
use Rattle.jh_num.specs.Levels.{slot_size}
use Rattle.jh_desc.specs.Descriptors.{IsWritable}
use Rattle.jh_frames.specs.Memory.{FramesView, byte_at, word_in}
use Rattle.jh_shape.specs.declared.want.Want.{Want}
use Rattle.jh_shape.specs.declared.want.Want.TheVariants.{Nothing, Table as WantTable, Leaf as WantLeaf}
use Rattle.jh_shape.specs.SoundClaims.{IsSlot}
use Rattle.jh_edit.specs.declared.writing.Writing.{Writing}
use Rattle.jh_edit.specs.Private.Slots.{IsTableStart, want_at}
use Rattle.jh_edit.specs.Private.Written.{made_of, word_after}

-- the slots below the number are written, and all else is as it was
pub record IsWrittenTo (how : Writing) (level page : ℕ) (wants : List Want) (old new : FramesView) (slot : ℕ) : Type 0 where
  pub base : new.own.base ≡ old.own.base
  pub size : length new.own.bytes ≡ length old.own.bytes
  pub guest : new.guest ≡ old.guest
  pub done : (s : ℕ) → s < slot → word_in (byte_at new) (page + 8 * s) ≡ word_after how level (want_at wants s) (word_in (byte_at old) (page + 8 * s))
  pub ahead : (s : ℕ) → slot ≤ s → word_in (byte_at new) (page + 8 * s) ≡ word_in (byte_at old) (page + 8 * s)
  pub below : (q : ℕ) → q < page → byte_at new q ≡ byte_at old q
  pub above : (q : ℕ) → page + 4096 ≤ q → byte_at new q ≡ byte_at old q

-- one word of memory is written
pub record IsPut (at word : ℕ) (old new : FramesView) : Type 0 where
  pub base : new.own.base ≡ old.own.base
  pub size : length new.own.bytes ≡ length old.own.bytes
  pub guest : new.guest ≡ old.guest
  pub here : word_in (byte_at new) at ≡ word
  pub below : (q : ℕ) → q < at → byte_at new q ≡ byte_at old q
  pub above : (q : ℕ) → at + 8 ≤ q → byte_at new q ≡ byte_at old q
  pub words_below : (q : ℕ) → q + 8 ≤ at → word_in (byte_at new) q ≡ word_in (byte_at old) q
  pub words_above : (q : ℕ) → at + 8 ≤ q → word_in (byte_at new) q ≡ word_in (byte_at old) q

pub written_more : (how : Writing) (level page : ℕ) (wants : List Want) (old now next : FramesView) (slot word : ℕ) → slot < 512 → IsWrittenTo how level page wants old now slot
    → word ≡ word_after how level (want_at wants slot) (word_in (byte_at now) (page + 8 * slot)) → IsPut (page + 8 * slot) word now next → IsWrittenTo how level page wants old next (slot + 1)
written_more how level page wants old now next slot word small before is put = record {
  base = put.base ∙ before.base;
  size = put.size ∙ before.size;
  guest = put.guest ∙ before.guest;
  done = λ s lt. ⊎_elim
      (λ less. put.words_below (page + 8 * s) (omega arith) ∙ before.done s less)
      (λ more.
      let same : s ≡ slot = omega arith in
      let here : word_in (byte_at next) (page + 8 * slot) ≡ word_after how level (want_at wants slot) (word_in (byte_at old) (page + 8 * slot)) =
      put.here ∙ is ∙ ap (word_after how level (want_at wants slot)) (before.ahead slot (omega arith)) in
      subst (λ k. word_in (byte_at next) (page + 8 * k) ≡ word_after how level (want_at wants k) (word_in (byte_at old) (page + 8 * k))) (sym same) here)
      (cases_lt s slot);
  ahead = λ s le. put.words_above (page + 8 * s) (omega arith) ∙ before.ahead s (omega arith);
  below = λ q lt. put.below q (omega arith) ∙ before.below q lt;
  above = λ q le. put.above q (omega arith) ∙ before.above q le;
}

-- what is made of a wanted leaf may be written
pub writable_of : (level : ℕ) (w : Want) → ((out : ℕ) (rights : Rights) (device : Bool) → w ≡ WantLeaf out rights device → (0 < level) × (out % slot_size level ≡ 0) × (out + slot_size level ≤ ADDRESS_END)) → IsWritable (made_of w) level
writable_of level Nothing h = tt
writable_of level WantTable h = tt
writable_of level (WantLeaf out rights device) h =
    let p = h out rights device refl in
    let size : 0 < slot_size level = pow_pos (39 - 9 * level) in
    let end : out + slot_size level ≤ ADDRESS_END = p.2 in
    (p.0, p.1, omega arith)

-- a slot of the level begins where a slot of a table does
pub slot_there : (left start slot : ℕ) → 0 < left → left ≤ 4 → IsTableStart left start → slot < 512 → IsSlot (LAST_LEVEL + 1 - left) (start + slot * slot_size (LAST_LEVEL + 1 - left))
slot_there zero start slot some few is lt = absurd (let wrong : ⊥ = omega arith in wrong)
slot_there (suc zero) start slot some few is lt =
    let a = is.begins in let b = is.bound in
    record { first = omega arith; last = omega arith; begins = omega arith; bound = omega arith }
slot_there (suc (suc zero)) start slot some few is lt =
    let a = is.begins in let b = is.bound in
    record { first = omega arith; last = omega arith; begins = omega arith; bound = omega arith }
slot_there (suc (suc (suc zero))) start slot some few is lt =
    let a = is.begins in let b = is.bound in
    record { first = omega arith; last = omega arith; begins = omega arith; bound = omega arith }
slot_there (suc (suc (suc (suc zero)))) start slot some few is lt =
    let a = is.begins in let b = is.bound in
    record { first = omega arith; last = omega arith; begins = omega arith; bound = omega arith }
slot_there (suc (suc (suc (suc (suc n))))) start slot some few is lt = absurd (let wrong : ⊥ = omega arith in wrong)
