-- Items of another number tell no words; of the right number, each gives the word at its index.
use Rattle.std.proofs.Common.{◌≡◌, ◌≢◌, ℕ, ◌<◌, ◌≤◌, List, length, take, Option, Some, sym, ap, ◌∙◌, arith}
use Rattle.std.specs.Prelude.{option_and_then}
use Rattle.std.proofs.Math.ListN.{length-set}
use Rattle.std.proofs.lemmas.List.{take_more_set, take_all, length-replicate}
use Rattle.serde_json.specs.Data.{Items}
use Rattle.serde_json.specs.View.{items_view}
use Rattle.jh_spec.specs.Json.{items_told}
use Rattle.jh_spec.specs.Fields.{u32_told}
use Rattle.jh_spec.proofs.ListPrefixes.{counted, words_none, words_some, none_told, all_told, one_told}
use Rattle.jh_spec.proofs.numbers.ArrayU32FromJson.from_json.Goals as goal

-- the words of a value by its array's items
abbrev words_in : ℕ → Option Items → Option (List ℕ)
words_in count items = counted count (option_and_then (items_told u32_told) items)

pub returns-then-len : goal.returns-then-len
returns-then-len g c =
    let vec = c.in_ok-items.items.now in
    let differs : length vec.items ≢ g.row.N = λ e. c.if-len.true (omega (arith, vec.ok.0, c.len.ensures, e)) in
    sym (words_none u32_told g.row.N vec.items differs) ∙ ap (words_in g.row.N) c.in_ok-items.ensures

pub loop-k-init : goal.loop-k-init
loop-k-init g c = record { told = none_told u32_told c.in_ok-items.items.now.items; len = length-replicate g.row.N 0 }

pub loop-k-preserved : goal.loop-k-preserved
loop-k-preserved g c =
    let vec = c.in_ok-items.items.now in
    let k = c.loop-k.k in
    let words = c.loop-k.words in
    let word = c.in_ok-words.field-0 in
    let in_words : k < length words = omega (arith, c.loop-k.invariant.len) in
    let in_items : k < length vec.items = omega (arith, vec.ok.0, c.len.ensures, c.if-len.false) in
    record {
      told = rw (take_more_set words k word in_words)
          (one_told u32_told vec.items k (take k words) c.index.result.now word in_items c.index.ensures (sym c.in_ok-words.ensures) c.loop-k.invariant.told);
      len = length-set words k word ∙ c.loop-k.invariant.len;
    }

pub returns : goal.returns
returns g c =
    let vec = c.in_ok-items.items.now in
    let k = c.loop-k.k in
    let words = c.loop-k.words in
    let all_words : length words ≤ k = omega (arith, c.loop-k.invariant.len) in
    let all_items : length vec.items ≤ k = omega (arith, vec.ok.0, c.len.ensures, c.if-len.false) in
    let told : items_told u32_told (items_view vec.items) ≡ Some words
    = all_told u32_told vec.items k (take k words) all_items c.loop-k.invariant.told ∙ ap Some (take_all k words all_words) in
    sym (words_some g.row.N words c.loop-k.invariant.len) ∙ ap (counted g.row.N) (sym told) ∙ ap (words_in g.row.N) c.in_ok-items.ensures
