-- The page is given whole or not at all.
use Rattle.std.proofs.Common.{◌≡◌, ℕ, ◌+◌, ◌-◌, ◌%◌, ◌^◌, ◌<◌, None, Some, sym, subst, arith}
use Rattle.std.specs.List.{range_with_len}
use Rattle.std.specs.Option.{option_map}
use Rattle.jh_walk.specs.Paths.{behind}
use Rattle.jh_reach.specs.Places.{Sight, hit_at, place_given, places_from, sight_of}
use Rattle.jh_reach.proofs.PlaceLemmas.{page_none, page_run, seen, given_some, given_not}
use Rattle.jh_reach.proofs.page.run_in.Goals as goal

pub returns-then-not-allows-clause-places : goal.returns-then-not-allows-clause-places
returns-then-not-allows-clause-places c =
    let s : Sight = sight_of c.args.frames.now c.args.cache.now c.args.cpu c.args.base in
    let page : ℕ = c.args.access.at - c.args.access.at % 4096 in
    let whole : (k : ℕ) → k < 4096 → hit_at s (page + k) ≡ option_map (behind k) (hit_at s page) = λ k small. c.a_page_is_given_whole.ensures s.word s.base.table page k (omega arith) small in
    let hit : hit_at s page ≡ Some c.in_ok-look.look.hit = seen s page c.in_ok-look.look (hit_at s page) c.in_ok-look.ensures.value in
    subst (λ n. None ≡ places_from (place_given s c.args.access.needs) n c.args.access.width) (omega arith)
    (sym (page_none s c.args.access.needs page (c.args.access.at % 4096) c.args.access.width whole (omega arith) (omega arith) (given_not s c.args.access.needs page c.in_ok-look.look.hit hit (sym c.if-not-allows.ensures))))

pub returns-clause-places : goal.returns-clause-places
returns-clause-places c =
    let s : Sight = sight_of c.args.frames.now c.args.cache.now c.args.cpu c.args.base in
    let page : ℕ = c.args.access.at - c.args.access.at % 4096 in
    let whole : (k : ℕ) → k < 4096 → hit_at s (page + k) ≡ option_map (behind k) (hit_at s page) = λ k small. c.a_page_is_given_whole.ensures s.word s.base.table page k (omega arith) small in
    let hit : hit_at s page ≡ Some c.in_ok-look.look.hit = seen s page c.in_ok-look.look (hit_at s page) c.in_ok-look.ensures.value in
    subst (λ n. Some (range_with_len (c.in_ok-look.look.hit.out + c.args.access.at % 4096) c.args.access.width) ≡ places_from (place_given s c.args.access.needs) n c.args.access.width) (omega arith)
    (sym (page_run s c.args.access.needs page (c.args.access.at % 4096) c.args.access.width c.in_ok-look.look.hit whole (omega arith) (given_some s c.args.access.needs page c.in_ok-look.look.hit hit (sym c.if-not-allows.ensures))))

pub returns-clause-page : goal.returns-clause-page
returns-clause-page c =
    let s : Sight = sight_of c.args.frames.now c.args.cache.now c.args.cpu c.args.base in
    let page : ℕ = c.args.access.at - c.args.access.at % 4096 in
    let hit : hit_at s page ≡ Some c.in_ok-look.look.hit = seen s page c.in_ok-look.look (hit_at s page) c.in_ok-look.ensures.value in
    let same : c.in_ok-look.look.hit.out % 4096 ≡ page % 4096 = c.a_hit_keeps_the_offset.ensures s.word s.base.table page c.in_ok-look.look.hit hit in
    let below : c.in_ok-look.look.hit.out < 2 ^ 48 = c.a_hit_lies_below_the_end.ensures.place s.word s.base.table page c.in_ok-look.look.hit hit in
    let aligned : c.in_ok-look.look.hit.out % 4096 ≡ 0 = omega arith in
    record { page = omega arith; below = omega arith }
