-- One byte more, and one that may not be read.
use Rattle.std.proofs.Common.{◌≡◌, ℕ, ◌+◌, ◌++◌, List, Option, Some, None, ap, sym, ◌∙◌}
use Rattle.std.specs.Prelude.{option_map}
use Rattle.jh_history.specs.Private.PlainView.{root_byte}
use Rattle.jh_history.proofs.ReadLemmas.{bytes_by_grown, bytes_by_missing}
use Rattle.jh_history.proofs.plain_known.PlainRootBytes.append.Goals as goal

pub returns-in-None : goal.returns-in-None
returns-in-None c =
    let byte : ℕ → Option ℕ = root_byte c.args.self.now in
    let none : byte (c.args.at + c.loop-k.k) ≡ None = ap (λ (n : ℕ). byte (c.args.at + n)) (sym c.from.ensures) ∙ sym c.read.ensures ∙ c.in-None.is in
    ap (option_map (λ (row : List ℕ). c.args.bytes.now.items ++ row)) (bytes_by_missing byte c.args.at c.loop-k.k c.args.count c.loop-k-test.true none)

pub loop-k-preserved : goal.loop-k-preserved
loop-k-preserved c =
    let byte : ℕ → Option ℕ = root_byte c.args.self.now in
    let some : byte (c.args.at + c.loop-k.k) ≡ Some c.in-Some.byte = ap (λ (n : ℕ). byte (c.args.at + n)) (sym c.from.ensures) ∙ sym c.read.ensures ∙ c.in-Some.is in
    bytes_by_grown byte c.args.at c.loop-k.k c.in-Some.byte c.args.bytes.now.items c.loop-k.bytes.items c.loop-k.invariant some ∙ ap Some (sym c.in_ok-push-in-Some.ensures.items)
