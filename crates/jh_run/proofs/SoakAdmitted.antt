-- The board of `soak` is admitted.
use Rattle.std.proofs.Common.{◌≤◌, ℕ}
use Rattle.jh_history.specs.Admitted.{IsAdmittedSystem, IsAdmitted}
use Rattle.jh_run.specs.Soak.{soak_system, soak_image}
use Rattle.jh_run.proofs.SoakClean.{soak_clean}
use Rattle.jh_run.proofs.SoakTables.{few_pages}
use Rattle.jh_run.proofs.SoakPreloads.{preloads_sound, preloads_apart}
use Rattle.jh_run.proofs.SoakPrograms.{programs_sound, programs_owned}

system_admitted : IsAdmittedSystem soak_system
system_admitted = record { clean = soak_clean; room = few_pages }

pub soak_admitted : (n : ℕ) → n ≤ 400 → IsAdmitted (soak_image n)
unfolding soak_image
soak_admitted n h = record {
  system = system_admitted;
  preloads = preloads_sound;
  apart = preloads_apart;
  programs = programs_sound n h;
  owned = programs_owned n;
}
