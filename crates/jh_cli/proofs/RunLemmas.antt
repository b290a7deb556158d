-- What a run that ended so tells.
use Rattle.std.proofs.Common.{◌≡◌, ◌≤◌, ℕ, List, length, ◌↔◌, ◌⊎◌, refl, sym, ap, subst, ◌∙◌, inl, inr, arith}
use Rattle.jh_script.specs.declared.image.Image.{Image}
use Rattle.jh_history.specs.declared.form.Form.TheVariants.{Two}
use Rattle.jh_history.specs.declared.entry.Entry.{Entry}
use Rattle.jh_history.specs.Due.{IsLegal, IsQuiet}
use Rattle.jh_run.specs.Ends.{is_full, IsFullAndBusy}
use Rattle.jh_run.specs.Soak.{soak_image}
use Rattle.jh_run.specs.declared.ended.Ended.{Ended}
use Rattle.jh_run.specs.declared.ended.Ended.TheVariants.{Unstopped, Full}
use Rattle.jh_text.specs.Faults.{max_entries}
use Rattle.jh_cli.specs.Lines.{exit_number}
use Rattle.jh_cli.specs.Reading.{Reply, IsCountedFault}
use Rattle.jh_cli.specs.declared.status.Status.{Status}
use Rattle.jh_cli.specs.declared.status.Status.TheVariants as status
use Rattle.jh_cli.specs.Play.{played_status}
use Rattle.jh_cli.specs.Run.{EndsRun, IsMadeByRun, IsToldRun}
use Rattle.jh_cli.specs.Soak.{Soaks}
use Rattle.jh_cli.proofs.StatusLemmas.{run_ends}

ends_run : (image : Image) (entries : List Entry) (ended : Ended) → ((ended ≡ Unstopped) ↔ IsQuiet image Two entries) → ((ended ≡ Full) ↔ IsFullAndBusy image Two max_entries entries)
    → EndsRun image entries (played_status (is_full ended))
ends_run image entries Unstopped quiet full = quiet.0 refl
ends_run image entries Full quiet full = full.0 refl

pub made_by_run : (image : Image) (entries : List Entry) (ended : Ended) (status : Status) → IsLegal image Two entries → length entries ≤ max_entries → ((ended ≡ Unstopped) ↔ IsQuiet image Two entries)
    → ((ended ≡ Full) ↔ IsFullAndBusy image Two max_entries entries) → status ≡ played_status (is_full ended) → IsMadeByRun image entries status
made_by_run image entries ended status legal few quiet full is = record { legal = legal; few = few; ends = subst (EndsRun image entries) (sym is) (ends_run image entries ended quiet full) }

-- a soak reads no file
other : (reply : Reply) (one : Status) → reply.status ≡ one → ¬ (exit_number one ≡ exit_number status.ReadFault) → reply.status ≡ status.ReadFault → ⊥
other reply one is differs also = differs (ap exit_number (sym is ∙ also))

pub soak_counted : (old new : ℕ) (failed word : List ℕ) (reply : Reply) → Soaks word reply → IsCountedFault old new failed reply
soak_counted old new failed word reply (inl none) read = absurd (other reply status.Refused (ap (λ (s : Reply). s.status) none.1) (omega arith) read)
soak_counted old new failed word reply (inr (rounds, are, soaked)) read = absurd (by (run_ends (soak_image rounds) soaked.entries reply.status soaked.run.ends)) where
  by : (reply.status ≡ status.Good) ⊎ (reply.status ≡ status.Full) → ⊥
  by (inl is) = other reply status.Good is (omega arith) read
  by (inr is) = other reply status.Full is (omega arith) read

-- nor does a run that has opened its board
pub ran_counted : (old new : ℕ) (failed : List ℕ) (image : Image) (reply : Reply) → IsToldRun image reply → IsCountedFault old new failed reply
ran_counted old new failed image reply ran read = absurd (by (run_ends image ran.entries reply.status ran.run.ends)) where
  by : (reply.status ≡ status.Good) ⊎ (reply.status ≡ status.Full) → ⊥
  by (inl is) = other reply status.Good is (omega arith) read
  by (inr is) = other reply status.Full is (omega arith) read
