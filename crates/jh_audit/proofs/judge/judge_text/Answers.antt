-- The first entry that isn't due ends the audit, where the rest has no fault.
use Rattle.std.proofs.Common.{[], ◌∷◌, ◌++◌, subst}
use Rattle.jh_num.proofs.Public.{passed_up}
use Rattle.jh_script.specs.declared.image.Image.{Image}
use Rattle.jh_history.specs.declared.form.Form.{Form}
use Rattle.jh_text.specs.Faults.{IsFault}
use Rattle.jh_text.specs.Lines.{IsReadTo}
use Rattle.jh_audit.specs.Judges.{Judges}
use Rattle.jh_audit.proofs.JudgeLemmas.{is_illegal}
use Rattle.jh_audit.proofs.RestLemmas.{ends_text}
use Rattle.jh_audit.proofs.judge.judge_text.Goals as goal

pub returns-in_err-read_rest-clause-err : goal.returns-in_err-read_rest-clause-err
returns-in_err-read_rest-clause-err c =
    let text = c.args.text.now in
    let before = c.loop-entry.board.entries in
    let entry = c.in-Some.entry in
    let read : IsReadTo text (before ++ entry ∷ []) c.next.new.self =
    c.lines_tell_the_text.ensures.goes_on text before c.loop-entry.lines c.next.new.self entry c.loop-entry.invariant.read (rw c.in-Some.is at c.in_ok-entry.ensures.ok) in
    passed_up c.from_residual-in_err-read_rest.result c.in_err-read_rest.field-0.0 (IsFault text) c.from_residual-in_err-read_rest.ensures.1
    (c.in_err-read_rest.ensures.err text (before ++ entry ∷ []) read)

pub returns-in-Differs-clause-ok : goal.returns-in-Differs-clause-ok
returns-in-Differs-clause-ok c =
    let text = c.args.text.now in
    let before = c.loop-entry.board.entries in
    let entry = c.in-Some.entry in
    let read : IsReadTo text (before ++ entry ∷ []) c.next.new.self =
    c.lines_tell_the_text.ensures.goes_on text before c.loop-entry.lines c.next.new.self entry c.loop-entry.invariant.read (rw c.in-Some.is at c.in_ok-entry.ensures.ok) in
    let compared = rw (c.loop-entry.invariant.image, c.loop-entry.invariant.form, c.in-Differs.is) at c.in_ok-expected.ensures in
    is_illegal c.args.board.now.image text before entry c.next.new.self c.count-line.result c.in-Differs.expected
    read c.count-line.ensures c.in_ok-read_rest.ensures.ok compared.0 compared.1 compared.2

pub returns-clause-ok : goal.returns-clause-ok
returns-clause-ok c =
    let image = c.args.board.now.image in
    let text = c.args.text.now in
    let entries = c.loop-entry.board.entries in
    let P : Form → Type 0 = λ form. Judges image form entries c.whole_verdict.result in
    let Q : Image → Type 0 = λ i. Judges i c.loop-entry.board.form entries c.whole_verdict.result in
    record {
      entries = entries;
      spelled = ends_text c.lines_tell_the_text.ensures.ends text entries c.loop-entry.lines c.next.new.self c.in_ok-entry.field-0 c.loop-entry.invariant.read c.in_ok-entry.ensures.ok c.in_default.not-Some;
      judged = subst P c.loop-entry.invariant.form (subst Q c.loop-entry.invariant.image c.whole_verdict.ensures);
    }
