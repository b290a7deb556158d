-- The start, the fields and root stand one behind another, and make all of the bytes.
use Rattle.std.proofs.Common.{◌≡◌, List, ℕ, ◌-◌, ◌++◌, codes, length, take, drop, sym, ap, ◌∙◌, arith}
use Rattle.std.proofs.lemmas.List.{take_all, length-drop}
use Rattle.jh_cellcfg.specs.Spelling.{u16_bytes, body_bytes}
use Rattle.jh_syscfg.specs.Layout.{platform_bytes}
use Rattle.jh_syscfg.proofs.read.read_whole.Goals as goal

pub returns-clause-spelled : goal.returns-clause-spelled
returns-clause-spelled c =
    let bytes = c.args.bytes.now in
    let p = c.platform_at.result.0 in
    let whole : take (length bytes - 8) (drop 8 bytes) ≡ drop 8 bytes = take_all (length bytes - 8) (drop 8 bytes) (omega (arith, length-drop 8 bytes)) in
    let behind : drop 8 bytes ≡ platform_bytes p ++ body_bytes c.in_ok-root.root
    = sym whole ∙ c.platform_at.ensures.taken ∙ ap (λ (l : List ℕ). platform_bytes p ++ l) c.in_ok-root.ensures.spelled in
    c.in_ok-check_start.ensures.start ∙ ap (λ (l : List ℕ). codes "JHSYST" ++ (u16_bytes 13 ++ l)) behind
