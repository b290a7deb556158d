-- The CPU's byte has its bit, and all else stays.
use Rattle.std.proofs.Common.{◌≡◌, ◌/◌, ◌<◌, ◌^◌, rules, arith}
use Rattle.std.proofs.lemmas.List.Elements.{All-set}
use Rattle.jh_plan.proofs.CpuLemmas.{set_named}
use Rattle.jh_plan.proofs.cpus.put_cpu.Goals as goal

pub returns : goal.returns
returns c =
    let at : c.from-byte.result ≡ c.args.cpu / 8 = search rules in
    let small : c.with_bit.result < 2 ^ 8 = search rules in
    record {
      names = λ k. set_named c.args.set.now c.args.cpu k c.from-byte.result c.with_bit.result at (omega (arith, at, c.requires)) c.with_bit.ensures.here c.with_bit.ensures.others;
      each = All-set (λ byte. byte < 2 ^ 8) c.args.set.now c.from-byte.result c.with_bit.result small;
    }
