-- The bytes that a writer has written, told as one list behind another.
use Rattle.std.proofs.Common.{◌≡◌, ℕ, List, ◌++◌, ◌∙◌, append_assoc}
use Rattle.std.specs.Prelude.{Result, Ok, Err, IfOk}
use Rattle.jh_cellcfg.specs.declared.writer.Writer.{Writer}

pub written_as : {E : Type 0} (answer : Result Writer E) (one other : List ℕ)
    → one ≡ other → IfOk answer (λ more. more.written.items ≡ one) → IfOk answer (λ more. more.written.items ≡ other)
written_as (Ok more) one other same written = written ∙ same
written_as (Err e) one other same written = tt

-- sixteen fields, put one after the other
pub sixteen : (o a b c d e f g h i j k l m n p q : List ℕ)
    → o ++ a ++ b ++ c ++ d ++ e ++ f ++ g ++ h ++ i ++ j ++ k ++ l ++ m ++ n ++ p ++ q ≡ o ++ (a ++ (b ++ (c ++ (d ++ (e ++ (f ++ (g ++ (h ++ (i ++ (j ++ (k ++ (l ++ (m ++ (n ++ (p ++ q)))))))))))))))
sixteen o a b c d e f g h i j k l m n p q = simp append_assoc
