-- A text with zero bytes behind it.
use Rattle.std.proofs.Common.{◌≡◌, ℕ, ◌-◌, ◌≤◌, List, ◌++◌, length, replicate, Bool, true, false, Some, None, sym, ap, ◌∙◌}
use Rattle.std.specs.Prelude.{◌&&◌, not, if◌then◌else◌}
use Rattle.std.specs.List.{list_any}
use Rattle.std.proofs.lemmas.Bool.{le-leb}
use Rattle.jh_cellcfg.specs.Limits.{is_name, is_zero}
use Rattle.jh_spec.specs.Cells.{padded_name}

name_by : (text whole : List ℕ) (good : Bool) → length text ≤ 32 → list_any is_zero text ≡ false → whole ≡ text ++ replicate (32 - length text) 0 → is_name whole ≡ good
    → padded_name text ≡ (if true && not false && good then Some whole else None)
name_by text whole good le free is named =
    λ i. if le-leb (length text) 32 le i && not (free i) && (ap is_name (sym is) ∙ named) i then Some (sym is i) else None

pub name_good : (text whole : List ℕ) → length text ≤ 32 → list_any is_zero text ≡ false → whole ≡ text ++ replicate (32 - length text) 0 → is_name whole ≡ true → Some whole ≡ padded_name text
name_good text whole le free is named = sym (name_by text whole true le free is named)

pub name_bad : (text whole : List ℕ) → length text ≤ 32 → list_any is_zero text ≡ false → whole ≡ text ++ replicate (32 - length text) 0 → is_name whole ≡ false → None ≡ padded_name text
name_bad text whole le free is named = sym (name_by text whole false le free is named)
