-- What the code of one turn does is one turn of the edit.
use Rattle.std.proofs.Common.{◌≡◌, ℕ, ◌+◌, ◌-◌, ◌*◌, ◌<◌, ◌≤◌, ◌⊎◌, inl, inr, ap, ◌∙◌, sym, subst, Bool, true, false, List, map, if◌then◌else◌, arith, refl, ⊎_elim}
use Rattle.std.proofs.lemmas.Bool.{cases_Bool, false≢true}
use Rattle.jh_frames.specs.Memory.{FramesView}
use Rattle.jh_pool.specs.Pages.{IsTakenPage, PoolView, is_free}
use Rattle.jh_cache.specs.declared.translation.Translation.{Translation}
use Rattle.jh_cache.specs.Translations.{flushed}
use Rattle.jh_walk.specs.Pages.{Grows}
use Rattle.jh_walk.specs.Walks.{levels}
use Rattle.jh_shape.specs.Wanted.{Wants}
use Rattle.jh_edit.specs.Plans.{EditView, IsDoneBelow}
use Rattle.jh_edit.specs.Tables.{words}
use Rattle.jh_edit.specs.Moves.{IsPoolAfter, IsTurn, Move, Prune, Empty, Fill, Make, Link, TakeAway, End, is_flushed, is_given, is_taken}
use Rattle.jh_edit.specs.Private.Steps.{IsStep}

-- once it is counted, what the step does is a turn
pub step_turn : (tag : ℕ) (want : Wants) (edit mid seen : EditView) (f f' : FramesView) (p p' : PoolView) (c c' : List (List Translation)) (move : Move) → 0 < edit.left → IsStep tag want edit mid f f' p p' c c' move → seen ≡ mid
    → IsTurn edit (record seen { left = seen.left - 1 }) want (words f) (words f') move
step_turn tag want edit mid seen f f' p p' c c' move some step is =
    let same : mid.left ≡ edit.left = step.left in
    let less : seen.left ≡ mid.left = ap (λ (e : EditView). e.left) is in
    record {
      left = omega arith;
      table = ap (λ (e : EditView). e.table) is ∙ step.table;
      removing = ap (λ (e : EditView). e.removing) is ∙ step.removing;
      at = step.at;
      ahead = ap (λ (e : EditView). e.ahead) is ∙ step.ahead;
      cursor = λ aims. subst (λ (e : EditView). IsDoneBelow want (words f) e.cursor levels edit.table 0) (sym is) (step.cursor aims);
      moved = step.moved;
    }

-- ---- the cache

-- a turn that flushes nothing gives no page back
keeps_pages : (table : ℕ) (move : Move) → is_flushed move ≡ false → (page : ℕ) → is_given table move page ≡ false
keeps_pages table (Prune there link) kept page = absurd (false≢true (sym kept))
keeps_pages table (Empty t) kept page = refl
keeps_pages table (Fill t) kept page = refl
keeps_pages table (Make slot made) kept page = refl
keeps_pages table (Link ahead) kept page = refl
keeps_pages table (TakeAway link) kept page = absurd (false≢true (sym kept))
keeps_pages table End kept page = absurd (false≢true (sym kept))

taken_if : (b free : Bool) → free ≡ false → (if b then false else free) ≡ false
taken_if true free taken = refl
taken_if false free taken = taken

still_taken : (table : ℕ) (move : Move) (p p' : PoolView) → IsPoolAfter table move p p' → is_flushed move ≡ false → (page : ℕ) → IsTakenPage p page → IsTakenPage p' page
still_taken table move p p' after kept page taken = record {
  in_range = record {
    aligned = taken.in_range.aligned;
    above = subst (λ b. b ≤ page) (sym after.base) taken.in_range.above;
    below = subst (λ b. page < b + 4096 * p'.size) (sym after.base) (subst (λ s. page < p.base + 4096 * s) (sym after.size) taken.in_range.below);
  };
  taken = after.free page
      ∙ (ap (λ b. if b then true else if is_taken move page then false else is_free p page) (keeps_pages table move kept page) ∙ taken_if (is_taken move page) (is_free p page) taken.taken);
}

-- all translations of the tag are flushed, or all words that read valid stay and no page is given back
pub step_cache : (tag : ℕ) (want : Wants) (edit mid : EditView) (f f' : FramesView) (p p' : PoolView) (c c' : List (List Translation)) (move : Move) → IsStep tag want edit mid f f' p p' c c' move
    → (is_flushed move ≡ false → Grows (words f) (words f') levels edit.table)
    → (c' ≡ map (flushed tag) c) ⊎ ((c' ≡ c) × (Grows (words f) (words f') levels edit.table × ((page : ℕ) → IsTakenPage p page → IsTakenPage p' page)))
step_cache tag want edit mid f f' p p' c c' move step grows = ⊎_elim
    (λ flushes. inl (step.cache ∙ ap (λ b. if b then map (flushed tag) c else c) flushes))
    (λ kept. inr (step.cache ∙ ap (λ b. if b then map (flushed tag) c else c) kept, (grows kept, still_taken edit.table move p p' step.pool kept)))
    (cases_Bool (is_flushed move))
