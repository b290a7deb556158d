-- What the format promises of all systems: one spelling each, which has no fault.
use Rattle.std.proofs.Common.{◌≡◌, ℕ, ◌≤◌, List, [], ◌∷◌, ◌++◌, length, drop, Option, None, Result, Ok, Err, refl, sym, ap, ◌∙◌, length-append, arith}
use Rattle.std.specs.Prelude.{codes, IfOk}
use Rattle.std.proofs.lemmas.Bool.{le-ltb}
use Rattle.std.proofs.lemmas.List.{drop_at}
use Rattle.jh_cellcfg.specs.declared.config.Platform.{Platform}
use Rattle.jh_cellcfg.specs.declared.config.SystemConfig.{SystemConfig}
use Rattle.jh_cellcfg.specs.declared.fault.ConfigFault.{ConfigFault}
use Rattle.jh_cellcfg.specs.declared.fault.ConfigFault.TheVariants.{Short}
use Rattle.jh_cellcfg.specs.Faults.{fault_if, first_of, body_fault, refusal}
use Rattle.jh_cellcfg.specs.Spelling.{body_bytes}
use Rattle.jh_cellcfg.proofs.Public.{length_body_bytes, body_unfaulted, one_body, started}
use Rattle.jh_syscfg.specs.Layout.{platform_bytes, system_spelling, IsPlatform, IsSystem, IsSystemWithinLimits}
use Rattle.jh_syscfg.specs.SystemFaults.{system_fault, GivesSystem}
use Rattle.jh_syscfg.proofs.Platforms.{platform_splits, platform_field}

-- what stands behind 88 bytes of a platform
pub behind_platform : (p : Platform) (rest : List ℕ) → IsPlatform p → drop 88 (platform_bytes p ++ rest) ≡ rest
behind_platform p rest fits = drop_at (platform_bytes p) rest 88 (platform_field.len p fits)

-- two systems with one spelling are one
pub one_system_spelling : (a b : SystemConfig) → IsSystem a → IsSystem b → IsSystemWithinLimits a → IsSystemWithinLimits b → system_spelling a ≡ system_spelling b → a ≡ b
one_system_spelling a b fa fb la lb e =
    let split = platform_splits a.platform b.platform (body_bytes a.root) (body_bytes b.root) fa.platform fb.platform (ap (drop 8) e) in
    let root : a.root ≡ b.root = one_body a.root b.root fa.root fb.root la.root lb.root split.rest_is in
    λ i. record { platform = split.record_is i; root = root i }

-- ---- a spelling has no fault

unfaulted_whole : (short start body : Option ConfigFault) → short ≡ None → start ≡ None → body ≡ None → first_of (short ∷ start ∷ body ∷ []) ≡ None
unfaulted_whole short start body a b c = λ i. first_of (a i ∷ b i ∷ c i ∷ [])

pub system_unfaulted : (s : SystemConfig) → IsSystem s → IsSystemWithinLimits s → system_fault (system_spelling s) ≡ None
system_unfaulted s fits limits =
    let p = s.platform in
    let platform = platform_field.len p fits.platform in
    let body = length_body_bytes s.root fits.root limits.root in
    let long : 220 ≤ length (system_spelling s) = omega (arith, length-append (platform_bytes p) (body_bytes s.root), platform, body) in
    unfaulted_whole _ _ _
    (ap (λ t. fault_if t (Short 220)) (le-ltb (length (system_spelling s)) 220 long))
    (started (codes "JHSYST") (platform_bytes p ++ body_bytes s.root) refl)
    (ap (body_fault 96) (behind_platform p (body_bytes s.root) fits.platform) ∙ body_unfaulted 96 s.root fits.root limits.root)

-- an answer that is spelled so, or refused by the first fault, gives what is spelled so
pub gives_system : (bytes : List ℕ) (answer : Result SystemConfig ConfigFault)
    → IfOk answer IsSystem → IfOk answer IsSystemWithinLimits → IfOk answer (λ system. bytes ≡ system_spelling system) → refusal answer ≡ system_fault bytes
    → (system : SystemConfig) → IsSystem system → IsSystemWithinLimits system → bytes ≡ system_spelling system → GivesSystem answer system
gives_system bytes (Ok other) typed within spelled fault system fits limits is = record {
  unrefused = refl;
  found = one_system_spelling other system typed fits within limits (sym spelled ∙ is);
}
gives_system bytes (Err e) typed within spelled fault system fits limits is = record { unrefused = fault ∙ ap system_fault is ∙ system_unfaulted system fits limits; found = tt }
