-- At each way out: what the parts looked at and read is what the access does.
use Rattle.std.proofs.Common.{◌≡◌, [], ap, ◌∙◌}
use Rattle.std.specs.Option.{option_map}
use Rattle.jh_num.specs.Counted.{Counted}
use Rattle.jh_walk.specs.Walks.{levels}
use Rattle.jh_reach.specs.Places.{Sight, places_in_both, sight_of}
use Rattle.jh_reach.specs.Looks.{reads_of}
use Rattle.jh_reach.proofs.LookLemmas.{WalksReadFew, start_kept, low_kept, both_kept, kept_counts, both_looks, low_none, high_none, both_runs}
use Rattle.jh_reach.proofs.ReadLemmas.{kept}
use Rattle.jh_reach.proofs.looking.look.Goals as goal

pub invariant_of-looks-in_err-one : goal.invariant_of-looks-in_err-one
invariant_of-looks-in_err-one c =
    let s : Sight = sight_of c.args.frames.now c.args.cache.now c.args.cpu c.args.base in
    let few : WalksReadFew s = λ page. c.a_walk_reads_few.ensures s.word levels s.base.table page in
    let start : c.looks-2.inside.read ≡ kept [] = start_kept c.looks-2.inside.read (ap (λ v. v.read) c.looks-2.view_is ∙ c.new.ensures.read) c.looks-2.invariant in
    let all : c.run_in.new.read ≡ kept (reads_of s c.args.access) = low_kept s c.args.access c.split.result.0 c.looks-2.inside.read c.run_in.new.read few c.split.ensures.low c.split.ensures.split c.in_err-one.ensures.given start c.run_in.ensures.read in
    kept_counts c.run_in.new.read (reads_of s c.args.access) all

pub returns-in_err-one-clause-runs : goal.returns-in_err-one-clause-runs
returns-in_err-one-clause-runs c =
    let s : Sight = sight_of c.args.frames.now c.args.cache.now c.args.cpu c.args.base in
    ap (option_map places_in_both) c.from_residual.ensures ∙ low_none s c.args.access c.split.result.0 c.split.ensures.low c.split.ensures.split c.in_err-one.ensures.places

pub returns-in_err-one-clause-read : goal.returns-in_err-one-clause-read
returns-in_err-one-clause-read c =
    let s : Sight = sight_of c.args.frames.now c.args.cache.now c.args.cpu c.args.base in
    let few : WalksReadFew s = λ page. c.a_walk_reads_few.ensures s.word levels s.base.table page in
    let start : c.looks-2.inside.read ≡ kept [] = start_kept c.looks-2.inside.read (ap (λ v. v.read) c.looks-2.view_is ∙ c.new.ensures.read) c.looks-2.invariant in
    let all : c.run_in.new.read ≡ kept (reads_of s c.args.access) = low_kept s c.args.access c.split.result.0 c.looks-2.inside.read c.run_in.new.read few c.split.ensures.low c.split.ensures.split c.in_err-one.ensures.given start c.run_in.ensures.read in
    ap (λ (k : Counted). k.probes) all

pub invariant_of-looks-in_err-other : goal.invariant_of-looks-in_err-other
invariant_of-looks-in_err-other c =
    let s : Sight = sight_of c.args.frames.now c.args.cache.now c.args.cpu c.args.base in
    let few : WalksReadFew s = λ page. c.a_walk_reads_few.ensures s.word levels s.base.table page in
    let start : c.looks-2.inside.read ≡ kept [] = start_kept c.looks-2.inside.read (ap (λ v. v.read) c.looks-2.view_is ∙ c.new.ensures.read) c.looks-2.invariant in
    let all : c.run_in-2.new.read ≡ kept (reads_of s c.args.access) = both_kept s c.args.access c.split.result.0 c.split.result.1 c.looks-2.inside.read c.run_in.new.read c.run_in-2.new.read few c.split.ensures.low c.split.ensures.high c.split.ensures.split c.in_ok-one.ensures.given start c.run_in.ensures.read c.run_in-2.ensures.read in
    kept_counts c.run_in-2.new.read (reads_of s c.args.access) all

pub returns-in_err-other-clause-runs : goal.returns-in_err-other-clause-runs
returns-in_err-other-clause-runs c =
    let s : Sight = sight_of c.args.frames.now c.args.cache.now c.args.cpu c.args.base in
    ap (option_map places_in_both) c.from_residual-in_err-other.ensures ∙ high_none s c.args.access c.split.result.1 c.split.result.0.width c.split.ensures.high c.split.ensures.split c.in_err-other.ensures.places

pub returns-in_err-other-clause-looked : goal.returns-in_err-other-clause-looked
returns-in_err-other-clause-looked c =
    let s : Sight = sight_of c.args.frames.now c.args.cache.now c.args.cpu c.args.base in
    both_looks s c.args.access c.split.result.0 c.split.result.1 c.run_in.new.seen c.run_in-2.new.seen c.split.ensures.low c.split.ensures.high c.split.ensures.split c.in_ok-one.ensures.given c.run_in.ensures.seen c.run_in-2.ensures.seen

pub returns-in_err-other-clause-read : goal.returns-in_err-other-clause-read
returns-in_err-other-clause-read c =
    let s : Sight = sight_of c.args.frames.now c.args.cache.now c.args.cpu c.args.base in
    let few : WalksReadFew s = λ page. c.a_walk_reads_few.ensures s.word levels s.base.table page in
    let start : c.looks-2.inside.read ≡ kept [] = start_kept c.looks-2.inside.read (ap (λ v. v.read) c.looks-2.view_is ∙ c.new.ensures.read) c.looks-2.invariant in
    let all : c.run_in-2.new.read ≡ kept (reads_of s c.args.access) = both_kept s c.args.access c.split.result.0 c.split.result.1 c.looks-2.inside.read c.run_in.new.read c.run_in-2.new.read few c.split.ensures.low c.split.ensures.high c.split.ensures.split c.in_ok-one.ensures.given start c.run_in.ensures.read c.run_in-2.ensures.read in
    ap (λ (k : Counted). k.probes) all

pub invariant_of-looks-2 : goal.invariant_of-looks-2
invariant_of-looks-2 c =
    let s : Sight = sight_of c.args.frames.now c.args.cache.now c.args.cpu c.args.base in
    let few : WalksReadFew s = λ page. c.a_walk_reads_few.ensures s.word levels s.base.table page in
    let start : c.looks-2.inside.read ≡ kept [] = start_kept c.looks-2.inside.read (ap (λ v. v.read) c.looks-2.view_is ∙ c.new.ensures.read) c.looks-2.invariant in
    let all : c.run_in-2.new.read ≡ kept (reads_of s c.args.access) = both_kept s c.args.access c.split.result.0 c.split.result.1 c.looks-2.inside.read c.run_in.new.read c.run_in-2.new.read few c.split.ensures.low c.split.ensures.high c.split.ensures.split c.in_ok-one.ensures.given start c.run_in.ensures.read c.run_in-2.ensures.read in
    kept_counts c.run_in-2.new.read (reads_of s c.args.access) all

pub returns-clause-runs : goal.returns-clause-runs
returns-clause-runs c =
    let s : Sight = sight_of c.args.frames.now c.args.cache.now c.args.cpu c.args.base in
    both_runs s c.args.access c.split.result.0 c.split.result.1 c.in_ok-one.one c.in_ok-other.other c.split.ensures.low c.split.ensures.high c.split.ensures.split c.in_ok-one.ensures.places c.in_ok-other.ensures.places

pub returns-clause-looked : goal.returns-clause-looked
returns-clause-looked c =
    let s : Sight = sight_of c.args.frames.now c.args.cache.now c.args.cpu c.args.base in
    both_looks s c.args.access c.split.result.0 c.split.result.1 c.run_in.new.seen c.run_in-2.new.seen c.split.ensures.low c.split.ensures.high c.split.ensures.split c.in_ok-one.ensures.given c.run_in.ensures.seen c.run_in-2.ensures.seen

pub returns-clause-read : goal.returns-clause-read
returns-clause-read c =
    let s : Sight = sight_of c.args.frames.now c.args.cache.now c.args.cpu c.args.base in
    let few : WalksReadFew s = λ page. c.a_walk_reads_few.ensures s.word levels s.base.table page in
    let start : c.looks-2.inside.read ≡ kept [] = start_kept c.looks-2.inside.read (ap (λ v. v.read) c.looks-2.view_is ∙ c.new.ensures.read) c.looks-2.invariant in
    let all : c.run_in-2.new.read ≡ kept (reads_of s c.args.access) = both_kept s c.args.access c.split.result.0 c.split.result.1 c.looks-2.inside.read c.run_in.new.read c.run_in-2.new.read few c.split.ensures.low c.split.ensures.high c.split.ensures.split c.in_ok-one.ensures.given start c.run_in.ensures.read c.run_in-2.ensures.read in
    ap (λ (k : Counted). k.probes) all
