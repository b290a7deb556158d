-- Nothing is found in the system of `soak` alone.
use Rattle.std.proofs.Common.{◌≡◌, [], refl}
use Rattle.jh_check.specs.Lists.{found_from, only_if}
use Rattle.jh_check.specs.Regions.{pair_breaks, region_breaks, hypervisor_breaks}
use Rattle.jh_check.specs.Devices.{device_breaks, cpus_break}
use Rattle.jh_check.specs.Findings.{findings, finding_of, beside, between, from_cell, in_pairs, in_cell, in_regions, in_hypervisor, in_devices_of, in_devices, in_cpus, found_by}
use Rattle.jh_run.specs.Soak.{soak_system}

pub soak_clean : findings soak_system [] ≡ []
unfolding findings finding_of beside between from_cell in_pairs in_cell in_regions in_hypervisor in_devices_of in_devices in_cpus found_by found_from only_if pair_breaks region_breaks hypervisor_breaks device_breaks cpus_break soak_system
soak_clean = refl
