-- The CPUs of root but the caller.
use Rattle.std.proofs.Common.{ℕ, ◌==◌, ◌&&◌, not, ap, ◌∙◌}
use Rattle.jh_num.specs.Bits.{has_bit}
use Rattle.jh_history.proofs.GivenLemmas.{given_of_root}
use Rattle.jh_history.proofs.creation.given.Goals as goal

pub returns : goal.returns
returns c = λ f h k.
    let owned = c.cpus_of_root.result in
    c.without_bit.ensures k
    ∙ ap (λ (n : ℕ). has_bit owned k && not (k == n)) c.from.ensures
    ∙ given_of_root c.args.image.now f owned c.args.caller (c.cpus_of_root.ensures f h) k
