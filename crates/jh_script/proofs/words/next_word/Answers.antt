-- The word goes from the first byte that is no gap to the next gap, or to the end of the text.
use Rattle.std.proofs.Common.{◌≡◌, ◌<◌, length, not, Some, None, position, rules, take, drop, ap, ◌∙◌, sym, ◌∷◌, List, ℕ, subst}
use Rattle.jh_script.specs.Words.{is_gap, words}
use Rattle.jh_script.proofs.WordLemmas.{words_found, words_last, words_none, rest_shorter}
use Rattle.jh_script.proofs.words.next_word.Goals as goal

pub returns-in_default-clause-words : goal.returns-in_default-clause-words
returns-in_default-clause-words c =
    let none : position (λ b. not (is_gap c.args.gaps.now b)) c.args.text.now ≡ None = search rules in
    words_none c.args.gaps.now c.args.text.now none

pub returns-in_default-word_end-clause-words : goal.returns-in_default-word_end-clause-words
returns-in_default-word_end-clause-words c =
    let start : position (λ b. not (is_gap c.args.gaps.now b)) c.args.text.now ≡ Some c.in-Some.start = search rules in
    let word : c.behind-word.result.now ≡ drop c.in-Some.start c.args.text.now = search rules in
    let none : position (is_gap c.args.gaps.now) c.behind-word.result.now ≡ None = search rules in
    words_last c.args.gaps.now c.args.text.now c.behind-word.result.now c.in-Some.start start word none

pub returns-clause-words : goal.returns-clause-words
returns-clause-words c =
    let text = c.behind-word.result.now in
    let end = c.in-Some-word_end.end in
    let start : position (λ b. not (is_gap c.args.gaps.now b)) c.args.text.now ≡ Some c.in-Some.start = search rules in
    let word : text ≡ drop c.in-Some.start c.args.text.now = search rules in
    let at : position (is_gap c.args.gaps.now) text ≡ Some end = search rules in
    let front : c.split_at.result.0.now ≡ take end text = search rules in
    let back : c.split_at.result.1.now ≡ drop end text = search rules in
    words_found c.args.gaps.now c.args.text.now text c.in-Some.start end start word at
    ∙ ap (λ x. x ∷ words c.args.gaps.now (drop end text)) (sym front)
    ∙ ap (λ x. c.split_at.result.0.now ∷ words c.args.gaps.now x) (sym back)

pub returns-clause-shorter : goal.returns-clause-shorter
returns-clause-shorter c =
    let text = c.behind-word.result.now in
    let end = c.in-Some-word_end.end in
    let start : position (λ b. not (is_gap c.args.gaps.now b)) c.args.text.now ≡ Some c.in-Some.start = search rules in
    let word : text ≡ drop c.in-Some.start c.args.text.now = search rules in
    let at : position (is_gap c.args.gaps.now) text ≡ Some end = search rules in
    let back : c.split_at.result.1.now ≡ drop end text = search rules in
    let Below : List ℕ → Type 0 = λ x. length x < length c.args.text.now in
    subst Below (sym back) (rest_shorter c.args.gaps.now c.args.text.now text c.in-Some.start end start word at)
