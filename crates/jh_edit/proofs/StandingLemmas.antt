-- Where nothing is cached, nothing is after a flush.
use Rattle.std.proofs.Common.{◌≡◌, ℕ, zero, suc, ap, List, [], ◌∷◌, map}
use Rattle.jh_cache.specs.declared.translation.Translation.{Translation}
use Rattle.jh_cache.specs.Translations.{flushed, translations_of}

pub flushed_none : (tag : ℕ) (lists : List (List Translation)) → ((cpu : ℕ) → translations_of lists cpu ≡ []) → (cpu : ℕ) → translations_of (map (flushed tag) lists) cpu ≡ []
flushed_none tag [] none cpu = none cpu
flushed_none tag (list ∷ lists) none zero = ap (flushed tag) (none 0)
flushed_none tag (list ∷ lists) none (suc cpu) = flushed_none tag lists (λ k. none (suc k)) cpu
