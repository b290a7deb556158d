-- The lines of the findings so far are told.
use Rattle.std.proofs.Common.{◌≡◌, [], ◌∷◌, ◌++◌}
use Rattle.std.specs.Prelude.{take, string_bytes}
use Rattle.std.specs.List.{flat_map}
use Rattle.jh_check.specs.Texts.{finding_text}
use Rattle.jh_cli.proofs.check.findings_text.Given as goal

abbrev pub invariant-loop-finding : goal.invariant-loop-finding
invariant-loop-finding l = string_bytes l.text ≡ flat_map (λ f. finding_text f ++ 10 ∷ []) (take l.finding-index l.fn.found)
