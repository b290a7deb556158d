-- What a caller cites that is generic over files and sink: counts over several calls, texts in pieces, and files that stay.
use Rattle.std.proofs.Common.{◌≡◌, ℕ, ◌+◌, List, ◌++◌, take, drop, refl, sym, ap, ◌∙◌, append_assoc, take-add, Option, None, Some}
use Rattle.std.specs.Io.KnownBytes.{append_known}
use Rattle.jh_outside.specs.Writes.{Appended}

-- to append one text and then another is to append both
pub appended_both : (first next last : Option (List ℕ)) (xs ys : List ℕ) → Appended first next xs → Appended next last ys → Appended first last (xs ++ ys)
appended_both first next last xs ys one two = two ∙ ap (λ known. append_known known ys) one ∙ together first
  where
    together : (known : Option (List ℕ)) → append_known (append_known known xs) ys ≡ append_known known (xs ++ ys)
    together None = refl
    together (Some bytes) = ap Some (append_assoc bytes xs ys)

-- to append the next front of a text is to append a longer front
pub front_further : (first next last : Option (List ℕ)) (text : List ℕ) (i j : ℕ) → Appended first next (take i text) → Appended next last (take j (drop i text)) → Appended first last (take (i + j) text)
front_further first next last text i j one two =
    appended_both first next last _ _ one two ∙ ap (append_known first) (sym (take-add i j text))
