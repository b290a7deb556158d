-- An entry that doesn't write a place keeps its byte.
use Rattle.std.proofs.Common.{◌≡◌, [], ◌∷◌, ◌++◌, List, ap, sym, subst, ◌∙◌, append_assoc}
use Rattle.jh_history.specs.declared.entry.Entry.{Entry}
use Rattle.jh_history.specs.Facts.{Facts}
use Rattle.jh_history.specs.History.{facts}
use Rattle.jh_history.specs.Due.{IsLegal}
use Rattle.jh_history.proofs.Public.{facts_nil}
use Rattle.jh_laws.proofs.WrittenLemmas.{entry_writes, rest_keeps}
use Rattle.jh_laws.proofs.writes.bytes_are_as_last_written.Goals as goal

pub returns-clause-last : goal.returns-clause-last
returns-clause-last c = λ m place byte h none.
    let P : List Entry → Type 0 = IsLegal m.image m.form in
    let split : (m.before ++ m.entry ∷ []) ++ m.rest ≡ m.before ++ m.entry ∷ m.rest = append_assoc m.before (m.entry ∷ []) m.rest in
    ap (λ (entries : List Entry). (facts m.image m.form entries).byte place) (sym split)
    ∙ rest_keeps m.image m.form (m.before ++ m.entry ∷ []) m.rest place m.admitted (subst P (sym split) m.legal) none
    ∙ entry_writes m.image m.form m.before m.rest m.entry place byte m.admitted m.legal h

pub returns-clause-opening : goal.returns-clause-opening
returns-clause-opening c = λ j place none. rest_keeps j.image j.form [] j.entries place j.admitted j.legal none ∙ ap (λ (f : Facts). f.byte place) (facts_nil j.image j.form)
