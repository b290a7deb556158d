-- The verdict on a journal's file.
use Rattle.std.specs.Prelude.{ℕ, List}
use Rattle.jh_script.specs.declared.image.Image.{Image}
use Rattle.jh_history.specs.declared.entry.Entry.{Entry}
use Rattle.jh_audit.specs.Judges.{Judges}
use Rattle.jh_image.specs.Files.{Contents}
use Rattle.jh_cli.specs.declared.audit.Judged.{Judged}
use Rattle.jh_cli.specs.Limits.{asked_of_a_journal}
use Rattle.jh_cli.specs.Reading.{SpellsAt}
use Rattle.jh_cli.specs.Audit.{IsJournalFile}

-- the file of this name spells a journal of the form, and the verdict is that on it
pub record JudgesFile (contents : Contents) (name : List ℕ) (image : Image) (judged : Judged) : Type 0 where
  pub entries : List Entry
  pub spelled : SpellsAt asked_of_a_journal contents name IsJournalFile (record { form = judged.form; entries = entries })
  pub judges : Judges image judged.form entries judged.verdict
