-- The board is admitted.
use Rattle.std.proofs.Common.{◌≡◌, sym, subst}
use Rattle.jh_script.specs.declared.image.Image.{Image}
use Rattle.jh_history.specs.Admitted.{IsAdmitted}
use Rattle.jh_run.specs.Soak.{soak_image}
use Rattle.jh_run.proofs.SoakAdmitted.{soak_admitted}
use Rattle.jh_run.proofs.soak.soak_image.Goals as goal

pub returns-clause-admitted : goal.returns-clause-admitted
unfolding soak_image
returns-clause-admitted c =
    let made : soak_image c.args.n ≡ record { system = c.in_ok-soak_system.field-0; preloads = c.in_ok-preloads.field-0; programs = c.in_ok-programs_of.field-0 } =
    λ i. record { system = sym c.in_ok-soak_system.ensures i; preloads = sym c.in_ok-preloads.ensures i; programs = sym c.in_ok-programs_of.ensures i } in
    subst (λ (image : Image). IsAdmitted image) made (soak_admitted c.args.n c.requires.1)
