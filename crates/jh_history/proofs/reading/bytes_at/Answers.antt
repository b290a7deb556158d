-- One row more, and one of which a byte may not be read.
use Rattle.std.proofs.Common.{◌≡◌, ℕ, ◌+◌, ◌-◌, ◌≤◌, ◌++◌, List, Option, Some, None, Bool, cond, ap, sym, ◌∙◌, arith}
use Rattle.std.specs.Prelude.{option_map}
use Rattle.jh_history.specs.ReadView.{bytes_by}
use Rattle.jh_history.proofs.ReadLemmas.{bytes_by_row, bytes_by_no_row}
use Rattle.jh_history.proofs.reading.bytes_at.Goals as goal

pub returns-then-not-branch : goal.returns-then-not-branch
returns-then-not-branch g c =
    let byte : ℕ → Option ℕ = g.R.RootBytes.readable c.args.root.now in
    let old : List ℕ = c.loop-next.bytes.items in
    let k : ℕ = c.loop-next.next - c.args.at in
    let begun = c.loop-next.invariant.0 in
    let here : c.args.at + k ≡ c.loop-next.next = omega arith in
    let few = c.row_length-here.ensures.few in
    let count = c.from.ensures in
    let within : k + c.row_length-here.result ≤ c.args.count = omega arith in
    let lacks : option_map (λ (bs : List ℕ). old ++ bs) (bytes_by byte c.loop-next.next c.row_length-here.result) ≡ None =
    c.in_ok-append.ensures ∙ ap (λ (b : Bool). cond b (Some c.append.new.bytes.items) None) c.if-not-branch.true in
    sym (bytes_by_no_row byte c.args.at k c.row_length-here.result c.args.count old within (ap (λ (a : ℕ). option_map (λ (bs : List ℕ). old ++ bs) (bytes_by byte a c.row_length-here.result)) here ∙ lacks))

pub loop-next-preserved : goal.loop-next-preserved
loop-next-preserved g c =
    let byte : ℕ → Option ℕ = g.R.RootBytes.readable c.args.root.now in
    let old : List ℕ = c.loop-next.bytes.items in
    let k : ℕ = c.loop-next.next - c.args.at in
    let begun = c.loop-next.invariant.0 in
    let here : c.args.at + k ≡ c.loop-next.next = omega arith in
    let few = c.row_length-here.ensures.few in
    let wide = c.from-in-loop-next.ensures in
    let more : (c.loop-next.next + c.from-in-loop-next.result) - c.args.at ≡ k + c.row_length-here.result = omega arith in
    let low : c.args.at ≤ c.loop-next.next + c.from-in-loop-next.result = omega arith in
    let high : c.loop-next.next + c.from-in-loop-next.result ≤ c.args.at + c.from.result = omega arith in
    let whole : option_map (λ (bs : List ℕ). old ++ bs) (bytes_by byte c.loop-next.next c.row_length-here.result) ≡ Some c.append.new.bytes.items =
    c.in_ok-append.ensures ∙ ap (λ (b : Bool). cond b (Some c.append.new.bytes.items) None) c.if-not-branch.false in
    (low, high, ap (bytes_by byte c.args.at) more ∙ bytes_by_row byte c.args.at k c.row_length-here.result old c.append.new.bytes.items c.loop-next.invariant.2 (ap (λ (a : ℕ). option_map (λ (bs : List ℕ). old ++ bs) (bytes_by byte a c.row_length-here.result)) here ∙ whole))
