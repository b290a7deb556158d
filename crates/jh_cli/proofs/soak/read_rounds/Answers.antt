-- What the word tells.
use Rattle.std.proofs.Common.{◌≡◌, ℕ, List, Result, Ok, sym, subst, ◌∙◌, arith}
use Rattle.std.specs.Str.Parse.{ParsesUnsigned}
use Rattle.std.proofs.lemmas.Fmt.{parse-decimal}
use Rattle.jh_num.proofs.Public.{ok_err, ok_one}
use Rattle.jh_cli.specs.Soak.{AreRounds, ParsesRounds}
use Rattle.jh_cli.proofs.RoundsLemmas.{rounds_told}
use Rattle.jh_cli.proofs.soak.read_rounds.Goals as goal

-- a word that tells a number of rounds is parsed as that
read : {E : Type 0} (word : List ℕ) (rounds : ℕ) (r : Result ℕ E) → AreRounds word rounds → ParsesUnsigned 32 10 word r → r ≡ Ok rounds
read word rounds r are parses =
    let most = are.most in
    parse-decimal 32 rounds word r (omega arith) (omega arith) are.written parses

pub returns-in_default : goal.returns-in_default
returns-in_default c rounds are = ok_err c.parse.result rounds c.in_default.field-0 (read c.args.word.now rounds c.parse.result are c.parse.ensures.value.0) c.in_default.is

pub returns : goal.returns
returns c =
    let found : ℕ = c.in-Ok.rounds in
    let told = rounds_told c.args.word.now c.as_str.result.now found c.eq-canonical.result c.eq-canonical.ensures (c.as_str.ensures.value ∙ c.in_ok-written.ensures.ok)
    (λ rounds are. ok_one c.parse.result rounds found (read c.args.word.now rounds c.parse.result are c.parse.ensures.value.0) c.in-Ok.is) in
    subst (ParsesRounds c.args.word.now) (sym c.rounds_if.ensures) told
