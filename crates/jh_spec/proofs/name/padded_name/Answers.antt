-- The text is copied over zeros, and what it makes with those behind it is a name or isn't.
use Rattle.std.proofs.Common.{◌≡◌, ◌++◌, length, false, sym, ◌∙◌}
use Rattle.std.specs.List.{list_any}
use Rattle.std.proofs.lemmas.List.{drop-replicate}
use Rattle.jh_cellcfg.specs.Limits.{is_zero}
use Rattle.jh_spec.proofs.PaddedNames.{name_good, name_bad}
use Rattle.jh_spec.proofs.name.padded_name.Goals as goal

pub returns-then-is_name-clause-told : goal.returns-then-is_name-clause-told
returns-then-is_name-clause-told c =
    let text = c.args.text.now in
    let free : list_any is_zero text ≡ false = sym c.contains.ensures.value ∙ c.if-contains.false in
    name_good text _ c.if-text-gt32.false free (λ i. c.copy_from_slice.ensures.after i ++ drop-replicate (length text) 32 0 i) (sym c.is_name.ensures ∙ c.if-is_name.true)

pub returns-else-is_name-clause-told : goal.returns-else-is_name-clause-told
returns-else-is_name-clause-told c =
    let text = c.args.text.now in
    let free : list_any is_zero text ≡ false = sym c.contains.ensures.value ∙ c.if-contains.false in
    name_bad text _ c.if-text-gt32.false free (λ i. c.copy_from_slice.ensures.after i ++ drop-replicate (length text) 32 0 i) (sym c.is_name.ensures ∙ c.if-is_name.false)
