-- Where files tell what they hold, a file hands out one text, and a text tells one value.
use Rattle.std.proofs.Common.{◌≡◌, ◌≢◌, ℕ, ◌+◌, List, Some, None, refl, sym, ◌∙◌}
use Rattle.serde_json.specs.Data.{Data}
use Rattle.jh_outside.specs.Reads.{KnownFile, HandsOut}
use Rattle.jh_cellcfg.specs.declared.config.SystemConfig.{SystemConfig}
use Rattle.jh_syscfg.specs.Layout.{IsSystem, IsSystemWithinLimits, system_spelling}
use Rattle.jh_spec.specs.Json.{IsText}
use Rattle.jh_image.specs.Files.{max_file_size, Contents, Hands}
use Rattle.jh_image.specs.Laws.{AreKnown}

-- two systems with one spelling are one
abbrev pub OneSpelling : Type 0
OneSpelling = (a b : SystemConfig) → IsSystem a → IsSystem b → IsSystemWithinLimits a → IsSystemWithinLimits b → system_spelling a ≡ system_spelling b → a ≡ b

pub hands_one : (told : KnownFile) (most : ℕ) (one other : List ℕ) → told ≢ None → HandsOut told most one → HandsOut told most other → one ≡ other
hands_one None most one other tells h k = absurd (tells refl)
hands_one (Some None) most one other tells h k = absurd h
hands_one (Some (Some held)) most one other tells h k = h ∙ sym k

pub bytes_one : (contents : Contents) (name one other : List ℕ) → AreKnown contents → Hands contents name one → Hands contents name other → one ≡ other
bytes_one contents name one other told h k = hands_one (contents name) (max_file_size + 1) one other (told name) h k

pub text_one : (bytes : List ℕ) (one other : Data) → IsText bytes one → IsText bytes other → one ≡ other
text_one bytes one other h k = let same : Some one ≡ Some other = sym h.value ∙ k.value in cc
