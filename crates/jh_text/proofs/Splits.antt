-- Where a list is split at a byte.
use Rattle.std.proofs.Common.{◌≡◌, ℕ, ◌+◌, ◌<◌, Bool, false, not, eqb, ◌==◌, List, ◌∷◌, ◌++◌, length, take, drop, Option, Some, refl, ◌∙◌, arith, length-append}
use Rattle.std.specs.Option.{option_map}
use Rattle.std.specs.List.{prefix_len, position, position_or_len}
use Rattle.std.proofs.lemmas.Bool.{lt-ltb, eq-eqb}
use Rattle.std.proofs.lemmas.List.Folds.{prefix_len-append}
use Rattle.std.proofs.Math.Seq.{take-append_seam, drop-append-add}

-- what stands before the first such byte, and what stands after it
unfoldable pub split_once : ℕ → List ℕ → Option (List ℕ × List ℕ)
split_once byte bytes = option_map (λ at. (take at bytes, drop (at + 1) bytes)) (position (λ b. b == byte) bytes)

abbrev differs : ℕ → ℕ → Bool
differs byte c = not (c == byte)

-- no such byte is in the list
pub record Lacks (byte : ℕ) (bytes : List ℕ) : Type 0 where
  pub none : prefix_len (differs byte) bytes ≡ length bytes

split_at : (byte : ℕ) (bytes : List ℕ) (k : ℕ) → position_or_len (λ b. b == byte) bytes ≡ k → k < length bytes → split_once byte bytes ≡ Some (take k bytes, drop (k + 1) bytes)
unfolding split_once
split_at byte bytes k e h = rw (e, lt-ltb k (length bytes) h) refl

place_after : (byte : ℕ) (word rest : List ℕ) → Lacks byte word → prefix_len (differs byte) (word ++ byte ∷ rest) ≡ length word
place_after byte word rest h =
    prefix_len-append (differs byte) word (byte ∷ rest)
    ∙ rw (h.none, eq-eqb (length word) (length word) refl, eq-eqb byte byte refl) (omega arith)

-- the word before the first such byte, and what stands after it
pub split_once_front : (byte : ℕ) (word rest : List ℕ) → Lacks byte word → split_once byte (word ++ byte ∷ rest) ≡ Some (word, rest)
split_once_front byte word rest h =
    split_at byte (word ++ byte ∷ rest) (length word) (place_after byte word rest h) (omega (arith, length-append word (byte ∷ rest)))
    ∙ rw (take-append_seam word (byte ∷ rest), drop-append-add word (byte ∷ rest) 1) refl

pub Lacks_append : (byte : ℕ) (front back : List ℕ) → Lacks byte front → Lacks byte back → Lacks byte (front ++ back)
Lacks_append byte front back f b = record {
  none = prefix_len-append (differs byte) front back ∙ rw (f.none, eq-eqb (length front) (length front) refl, b.none, length-append front back) refl;
}

pub Lacks_cons : (byte c : ℕ) (bytes : List ℕ) → eqb c byte ≡ false → Lacks byte bytes → Lacks byte (c ∷ bytes)
Lacks_cons byte c bytes e h = record { none = rw (e, h.none) (omega arith) }
