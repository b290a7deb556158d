-- The next one names it, or doesn't, or there is none.
use Rattle.std.proofs.Common.{◌≡◌, true, false, length, get_or, drop, Some, sym, ap, ◌∙◌, arith}
use Rattle.std.specs.Prelude.{find, option_map}
use Rattle.jh_pins.specs.Claims.{Claim}
use Rattle.jh_pins.specs.Pins.{is_named_by}
use Rattle.jh_pins.specs.Holders.{id_of}
use Rattle.jh_pins.proofs.HolderLemmas.{find_next, find_here, find_end}
use Rattle.jh_pins.proofs.table.first_to_name.Goals as goal

pub returns-then-names : goal.returns-then-names
returns-then-names c =
    let claims = c.args.claims.now in
    let index = c.loop-claim.claim-index in
    let claim = c.claim-item.result in
    let passes : is_named_by c.args.pin (get_or claims index claim) ≡ true = ap (is_named_by c.args.pin) (sym c.claim-item.is) ∙ sym c.names.ensures ∙ c.if-names.true in
    ap (λ n. Some n) c.id.ensures ∙ ap (λ (x : Claim). Some x.id) c.claim-item.is ∙ sym (ap (option_map id_of) (c.loop-claim.invariant ∙ find_here (is_named_by c.args.pin) claims index claim (omega arith) passes))

pub loop-claim-preserved : goal.loop-claim-preserved
loop-claim-preserved c =
    let claims = c.args.claims.now in
    let index = c.loop-claim.claim-index in
    let claim = c.claim-item.result in
    let fails : is_named_by c.args.pin (get_or claims index claim) ≡ false = ap (is_named_by c.args.pin) (sym c.claim-item.is) ∙ sym c.names.ensures ∙ c.if-names.false in
    c.loop-claim.invariant ∙ find_next (is_named_by c.args.pin) claims index claim (omega arith) fails

pub returns : goal.returns
returns c =
    let claims = c.args.claims.now in
    let all : c.loop-claim.claim-index ≡ length claims = omega arith in
    sym (ap (option_map id_of) (c.loop-claim.invariant ∙ ap (λ n. find (is_named_by c.args.pin) (drop n claims)) all ∙ find_end (is_named_by c.args.pin) claims))
