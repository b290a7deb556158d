-- What `pack` ends with.
use Rattle.std.specs.Prelude.{◌≡◌, ◌<◌, ℕ, ◌⊎◌, List, length, Ok, Err, codes}
use Rattle.jh_cellcfg.specs.Spelling.{spelling}
use Rattle.jh_syscfg.specs.Layout.{system_spelling}
use Rattle.jh_spec.specs.Specs.{IsSpecAnswer}
use Rattle.jh_spec.specs.declared.spec.Spec.{Spec}
use Rattle.jh_spec.specs.declared.spec.Spec.TheVariants.{Cell, System}
use Rattle.jh_spec.specs.declared.fault.JsonFault.TheVariants.{Json, Member}
use Rattle.jh_image.specs.Files.{Contents}
use Rattle.jh_image.specs.Texts.{member_text}
use Rattle.jh_cli.specs.Reading.{Reply, FileKind, Reads, RefusesOversize}
use Rattle.jh_cli.specs.declared.status.Status.TheVariants.{Good}
use Rattle.jh_cli.specs.Limits.{asked_of_a_file}

-- the bytes of a file tell this configuration
abbrev pub IsSpecFile : List ℕ → Spec → Type 0
IsSpecFile bytes spec = (length bytes < asked_of_a_file) × IsSpecAnswer bytes (Ok spec)

-- the bytes of a file are no JSON object's text, which these words tell
abbrev pub IsNoObjectFile : List ℕ → List ℕ → Type 0
IsNoObjectFile bytes words = (length bytes < asked_of_a_file) × IsSpecAnswer bytes (Err Json) × (words ≡ codes "json")

-- the bytes of a file are a JSON object's whose member of this name has a fault, which these words tell
pub record HasFaultyMember (bytes words : List ℕ) : Type 0 where
  pub within : length bytes < asked_of_a_file
  pub name : List ℕ
  pub faulty : IsSpecAnswer bytes (Err (Member name))
  pub told : words ≡ member_text name

-- a SPEC's file of these bytes is refused by these words: it is too large, no object's text, or a member has a fault
abbrev pub SpecRefusal : List ℕ → List ℕ → Type 0
SpecRefusal bytes words = RefusesOversize bytes words ⊎ IsNoObjectFile bytes words ⊎ HasFaultyMember bytes words

-- a SPEC's file
abbrev pub spec_file : FileKind Spec
spec_file = record { most = asked_of_a_file; Refusal = SpecRefusal; Form = IsSpecFile }

-- the configuration's one spelling
abbrev pub packed : Spec → List ℕ
packed (Cell cell) = spelling cell
packed (System system) = system_spelling system

-- what a pack of this file ends with
abbrev pub Packs : Contents → List ℕ → Reply → Type 0
Packs contents name = Reads contents name spec_file (λ spec reply. reply ≡ record { status = Good; text = packed spec })
