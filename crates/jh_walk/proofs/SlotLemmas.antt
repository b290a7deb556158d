-- Addresses of one slot.
use Rattle.std.proofs.Common.{◌≡◌, ℕ, ◌+◌, ◌-◌, ◌*◌, ◌/◌, ◌%◌, ◌<◌, ◌≤◌, zero, suc, inl, inr, ◌∙◌, sym, ap, subst, Some, arith}
use Rattle.jh_desc.specs.declared.descriptor.Descriptor.TheVariants.{Table, Leaf}
use Rattle.jh_desc.specs.declared.descriptor.Hit.{Hit}
use Rattle.jh_desc.specs.Descriptors.{read_of}
use Rattle.jh_desc.specs.Levels.{index_of}
use Rattle.jh_num.specs.declared.level.TheConstants.{LAST_LEVEL}
use Rattle.jh_num.specs.Levels.{slot_size}
use Rattle.jh_walk.specs.Walks.{walk_of, levels}
use Rattle.jh_walk.specs.Paths.{EndsAtLeaf, IsLeafAt, LeadsTo, shifted}
use Rattle.jh_walk.proofs.PathLemmas.{ends_found, only_ends}

further : (out a b : ℕ) → (out + a) - a + b ≡ out + b
further out a b = omega arith

leaf_moved : (w : ℕ → ℕ) (level t at other : ℕ) (hit : Hit) → index_of level other ≡ index_of level at → IsLeafAt w level t at hit → IsLeafAt w level t other (shifted at other hit)
leaf_moved w level t at other hit same leaf = record {
  out = leaf.out;
  rights = leaf.rights;
  device = leaf.device;
  descriptor = subst (λ i. read_of (w (t + 8 * i)) level ≡ Leaf leaf.out leaf.rights leaf.device) (sym same) leaf.descriptor;
  gives = ap (shifted at other) leaf.gives
      ∙ ap (λ (o : ℕ). record { out = o; rights = leaf.rights; device = leaf.device; span = slot_size level }) (further leaf.out (at % slot_size level) (other % slot_size level));
}

led_moved : (w : ℕ → ℕ) (level t at other next : ℕ) → index_of level other ≡ index_of level at → LeadsTo w level t at next → LeadsTo w level t other next
led_moved w level t at other next same leads = record {
  descriptor = subst (λ i. read_of (w (t + 8 * i)) level ≡ Table next) (sym same) leads.descriptor;
  place = leads.place;
}

span_is : (w : ℕ → ℕ) (level t at : ℕ) (hit : Hit) → IsLeafAt w level t at hit → hit.span ≡ slot_size level
span_is w level t at hit leaf = ap (λ (h : Hit). h.span) leaf.gives

same_slot : (a b span size : ℕ) → span ≡ size → b / span ≡ a / span → b / size ≡ a / size
same_slot a b span size e same = subst (λ n. b / n ≡ a / n) e same

-- addresses of one slot lie in one slot of the level above
coarser : (a b level : ℕ) → level < 3 → b / slot_size (suc level) ≡ a / slot_size (suc level) → b / slot_size level ≡ a / slot_size level
coarser a b zero lt same = omega arith
coarser a b (suc zero) lt same = omega arith
coarser a b (suc (suc zero)) lt same = omega arith
coarser a b (suc (suc (suc n))) lt same = omega arith

-- and so of each level on the way to the leaf
coarse : (w : ℕ → ℕ) (n t at other : ℕ) (hit : Hit) → n ≤ LAST_LEVEL → other / hit.span ≡ at / hit.span → EndsAtLeaf w (suc n) t at hit → other / slot_size (LAST_LEVEL - n) ≡ at / slot_size (LAST_LEVEL - n)
coarse w n t at other hit few same (inl leaf) = same_slot at other hit.span (slot_size (LAST_LEVEL - n)) (span_is w (LAST_LEVEL - n) t at hit leaf) same
coarse w zero t at other hit few same (inr (next, (leads, ends))) = elim ends [ ]
coarse w (suc n) t at other hit few same (inr (next, (leads, ends))) =
    let below : other / slot_size (LAST_LEVEL - n) ≡ at / slot_size (LAST_LEVEL - n) = coarse w n next at other hit (omega arith) same ends in
    let above : LAST_LEVEL - n ≡ suc (LAST_LEVEL - suc n) = omega arith in
    coarser at other (LAST_LEVEL - suc n) (omega arith) (subst (λ l. other / slot_size l ≡ at / slot_size l) above below)

ends_moved : (w : ℕ → ℕ) (n t at other : ℕ) (hit : Hit) → n ≤ LAST_LEVEL + 1 → other / hit.span ≡ at / hit.span → EndsAtLeaf w n t at hit → EndsAtLeaf w n t other (shifted at other hit)
ends_moved w zero t at other hit few same ends = elim ends [ ]
ends_moved w (suc n) t at other hit few same (inl leaf) =
    let slot : other / slot_size (LAST_LEVEL - n) ≡ at / slot_size (LAST_LEVEL - n) = coarse w n t at other hit (omega arith) same (inl leaf) in
    inl (leaf_moved w (LAST_LEVEL - n) t at other hit (ap (λ i. i % 512) slot) leaf)
ends_moved w (suc n) t at other hit few same (inr (next, (leads, ends))) =
    let slot : other / slot_size (LAST_LEVEL - n) ≡ at / slot_size (LAST_LEVEL - n) = coarse w n t at other hit (omega arith) same (inr (next, (leads, ends))) in
    inr (next, (led_moved w (LAST_LEVEL - n) t at other next (ap (λ i. i % 512) slot) leads, ends_moved w n next at other hit (omega arith) same ends))

pub hit_covers : (w : ℕ → ℕ) (t at other : ℕ) (hit : Hit) → walk_of w levels t at ≡ Some hit → other / hit.span ≡ at / hit.span → walk_of w levels t other ≡ Some (shifted at other hit)
hit_covers w t at other hit found same =
    ends_found w levels t other (shifted at other hit) (ends_moved w levels t at other hit (omega arith) same (only_ends w levels t at hit found))
