-- The eight bytes take the place of eight.
use Rattle.std.proofs.Common.{rules, ◌≡◌, ◌+◌, ◌-◌, length}
use Rattle.std.proofs.lemmas.List.{append-nil, drop_all, places, with_items_is}
use Rattle.std.specs.Int.{to_le_bytes, w64}
use borrow.Rule.Slice.PartMut.{put_mid}
use Rattle.jh_frames.specs.Memory.{OwnView, AreOwnBytes}
use Rattle.jh_frames.proofs.WordLemmas.{word_put}
use Rattle.jh_frames.proofs.own.Own.set_word.Goals as goal

pub returns-clause-at : goal.returns-clause-at
returns-clause-at c =
    let k = c.args.at - c.self.inside.base in
    let own : OwnView = record { base = c.self.inside.base; bytes = c.deref_mut.result.now } in
    let after = put_mid k (k + 8 - k) own.bytes c.write_u64.new.buf in
    let bytes : c.write_u64.new.buf ≡ to_le_bytes w64 c.args.word = search (rules, c.write_u64.ensures, append-nil, drop_all) in
    let inside : AreOwnBytes own c.args.at 8 = record { above = search rules; below = search rules } in
    let long : length after ≡ length own.bytes = search (rules, places) in
    rw (with_items_is c.self.inside.bytes after (search (rules, places))) (word_put own c.args.at c.args.word c.write_u64.new.buf inside c.ranges.word.fits bytes (k + 8 - k) long)
