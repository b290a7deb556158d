-- Bytes without a fault spell a system.
use Rattle.std.proofs.Common.{◌≡◌, ℕ, ◌+◌, ◌<◌, List, [], ◌∷◌, ◌++◌, length, drop, None, All, refl, sym, ap, ◌∙◌, length-drop, length-append, arith}
use Rattle.std.specs.Prelude.{nat_lt, codes}
use Rattle.std.proofs.lemmas.Bool.{ltb-false}
use Rattle.std.proofs.lemmas.List.{drop-drop}
use Rattle.jh_cellcfg.specs.declared.config.SystemConfig.{SystemConfig}
use Rattle.jh_cellcfg.specs.declared.fault.ConfigFault.TheVariants.{Short}
use Rattle.jh_cellcfg.specs.Faults.{fault_if, start_fault, body_fault}
use Rattle.jh_cellcfg.specs.Spelling.{u16_bytes}
use Rattle.jh_cellcfg.proofs.Public.{IsBytes_drop, body_found, all_bytes, rest_of, head_of, passed, start_found}
use Rattle.jh_syscfg.specs.Layout.{platform_bytes, system_spelling, IsSystem, IsSystemWithinLimits}
use Rattle.jh_syscfg.specs.SystemFaults.{system_fault}
use Rattle.jh_syscfg.proofs.Platforms.{platform_field}
use Rattle.jh_syscfg.proofs.Systems.{behind_platform}

pub system_found : (bytes : List ℕ) → All (λ byte. byte < 256) bytes → system_fault bytes ≡ None
    → (s : SystemConfig) × IsSystem s × IsSystemWithinLimits s × (bytes ≡ system_spelling s)
system_found bytes each none =
    let short = fault_if (nat_lt (length bytes) 220) (Short 220) in
    let body = body_fault 96 (drop 96 bytes) in
    let all = all_bytes bytes each in
    let long = ltb-false (length bytes) 220 (passed (nat_lt (length bytes) 220) (Short 220) (head_of short (start_fault (codes "JHSYST") bytes ∷ body ∷ []) none)) in
    let later = rest_of short (start_fault (codes "JHSYST") bytes ∷ body ∷ []) none in
    let start = start_found (codes "JHSYST") bytes refl all (omega arith) (head_of (start_fault (codes "JHSYST") bytes) (body ∷ []) later) in
    let t = platform_field.takes (drop 8 bytes) (IsBytes_drop 8 bytes all) (omega (arith, length-drop 8 bytes)) in
    let p = t.value in
    let rest_is : drop 96 bytes ≡ t.rest = sym (drop-drop 88 8 bytes) ∙ ap (drop 88) t.is ∙ behind_platform p t.rest t.fits in
    let len : length (drop 8 bytes) ≡ 88 + length t.rest = ap length t.is ∙ length-append (platform_bytes p) t.rest ∙ ap (λ (k : ℕ). k + length t.rest) (platform_field.len p t.fits) in
    let found = body_found 96 t.rest t.more (omega (arith, length-drop 8 bytes)) (ap (body_fault 96) (sym rest_is) ∙ head_of body [] (rest_of (start_fault (codes "JHSYST") bytes) (body ∷ []) later)) in
    let s : SystemConfig = record { platform = p; root = found.0 } in (
      s,
      record { platform = t.fits; root = found.1 },
      record { root = found.2 },
      start ∙ ap (λ (l : List ℕ). codes "JHSYST" ++ (u16_bytes 13 ++ l)) (t.is ∙ ap (λ (l : List ℕ). platform_bytes p ++ l) found.3),
    )
