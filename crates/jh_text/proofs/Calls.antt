-- The text of a call that begins.
use Rattle.std.proofs.Common.{◌≡◌, ℕ, List, [], ◌∷◌, ◌++◌, ap, ◌∙◌, append_assoc, codes}
use Rattle.std.specs.List.{join_with_byte}
use Rattle.std.specs.Fmt.{decimal}
use Rattle.jh_history.specs.declared.entry.Act.TheVariants.{Begin}
use Rattle.jh_text.specs.Text.{hexadecimal, act_words}

behind_call : (code a b : List ℕ) → (codes "hvc" ++ 32 ∷ (code ++ 32 ∷ (a ++ 32 ∷ (b ++ 32 ∷ codes "= ")))) ++ codes "begin"
    ≡ codes "hvc" ++ 32 ∷ (code ++ 32 ∷ (a ++ 32 ∷ (b ++ 32 ∷ 61 ∷ 32 ∷ codes "begin")))
behind_call code a b =
    ap (λ t. codes "hvc" ++ 32 ∷ t)
    (append_assoc code (32 ∷ (a ++ 32 ∷ (b ++ 32 ∷ codes "= "))) (codes "begin")
    ∙ ap (λ t. code ++ 32 ∷ t) (append_assoc a (32 ∷ (b ++ 32 ∷ codes "= ")) (codes "begin") ∙ ap (λ t. a ++ 32 ∷ t) (append_assoc b (32 ∷ codes "= ") (codes "begin"))))

-- the word behind the equals sign is the last
pub begin_text : (before : List ℕ) (code a b : ℕ) → (before ++ join_with_byte 32 (codes "hvc" ∷ decimal code ∷ hexadecimal a ∷ hexadecimal b ∷ codes "= " ∷ [])) ++ codes "begin"
    ≡ before ++ join_with_byte 32 (act_words (Begin code a b))
begin_text before code a b =
    append_assoc before (join_with_byte 32 (codes "hvc" ∷ decimal code ∷ hexadecimal a ∷ hexadecimal b ∷ codes "= " ∷ [])) (codes "begin")
    ∙ ap (λ t. before ++ t) (behind_call (decimal code) (hexadecimal a) (hexadecimal b))
