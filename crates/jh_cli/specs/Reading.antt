-- Where a call ends at a file, and where it goes on with what the file spells.
use Rattle.std.specs.Prelude.{◌≡◌, ◌≤◌, ℕ, ◌⊎◌, List, length, codes}
use Rattle.jh_outside.specs.Count.{Rose}
use Rattle.jh_outside.specs.Reads.{HandsOut}
use Rattle.jh_image.specs.Files.{Contents}
use Rattle.jh_cli.specs.Lines.{fault_line, refusal_line}
use Rattle.jh_cli.specs.declared.status.Status.{Status}
use Rattle.jh_cli.specs.declared.status.Status.TheVariants.{Refused, ReadFault}
use Rattle.jh_cli.specs.Limits.{asked_of_a_file}

-- what a call says: a status, and the text that is written before it
pub record Reply : Type 0 where
  pub status : Status
  pub text : List ℕ

-- the reply tells a fault of reading only where the count of faults rose, and its line names the read that failed
abbrev pub IsCountedFault : ℕ → ℕ → List ℕ → Reply → Type 0
IsCountedFault old new failed reply = reply.status ≡ ReadFault → Rose old new × (reply.text ≡ fault_line failed)

-- the reply refuses the file of this name, of which so many bytes are asked, by words that `Why` has for what it
-- hands out
pub record IsRefused (most : ℕ) (contents : Contents) (name : List ℕ) (Why : List ℕ → List ℕ → Type 0) (reply : Reply) : Type 0 where
  pub bytes : List ℕ
  pub handed : HandsOut (contents name) most bytes
  pub words : List ℕ
  pub why : Why bytes words
  pub told : reply ≡ record { status = Refused; text = refusal_line name words }

-- the call ends at this file: it could not be read, or is refused
abbrev pub EndsAt : ℕ → Contents → List ℕ → (List ℕ → List ℕ → Type 0) → Reply → Type 0
EndsAt most contents name Why reply = (reply ≡ record { status = ReadFault; text = fault_line name }) ⊎ IsRefused most contents name Why reply

-- the call ends at this file, which may have at most 1 MiB: it could not be read, or is refused
abbrev pub EndsAtFile : Contents → List ℕ → (List ℕ → List ℕ → Type 0) → Reply → Type 0
EndsAtFile contents name Why reply = EndsAt asked_of_a_file contents name Why reply

-- a kind of file: how many bytes are asked of one, which bytes are refused by which words, and which spell which value
pub record FileKind (A : Type 0) : Type 1 where
  pub most : ℕ
  pub Refusal : List ℕ → List ℕ → Type 0
  pub Form : List ℕ → A → Type 0

module _ {A : Type 0} where
  -- the file hands out bytes that spell this value, where so many are asked
  pub record SpellsAt (most : ℕ) (contents : Contents) (name : List ℕ) (Form : List ℕ → A → Type 0) (value : A) : Type 0 where
    pub bytes : List ℕ
    pub handed : HandsOut (contents name) most bytes
    pub spelled : Form bytes value

  -- the file, which may have at most 1 MiB, hands out bytes that spell this value
  abbrev pub Spells : Contents → List ℕ → (List ℕ → A → Type 0) → A → Type 0
  Spells contents name Form value = SpellsAt asked_of_a_file contents name Form value

  -- a file of this kind is read: the call ends at it, or goes on with what it spells
  abbrev pub Reads : Contents → List ℕ → FileKind A → (A → Reply → Type 0) → Reply → Type 0
  Reads contents name kind next reply =
      EndsAt kind.most contents name kind.Refusal reply ⊎ ((value : A) × SpellsAt kind.most contents name kind.Form value × next value reply)

-- the bytes are all that were asked, of which one is too many: the words are `oversize`
abbrev pub RefusesOversizeAt : ℕ → List ℕ → List ℕ → Type 0
RefusesOversizeAt most bytes words = (most ≤ length bytes) × (words ≡ codes "oversize")

-- the same of a file, which may have at most 1 MiB
abbrev pub RefusesOversize : List ℕ → List ℕ → Type 0
RefusesOversize bytes words = RefusesOversizeAt asked_of_a_file bytes words
