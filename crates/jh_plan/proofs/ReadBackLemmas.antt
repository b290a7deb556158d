-- A spelling that root may read is read as its configuration.
use Rattle.std.proofs.Common.{◌≡◌, ℕ, ◌+◌, ◌≤◌, Some, None, Option, List, ◌∷◌, zero, suc, length, take, map, refl, sym, ap, ◌∙◌, arith}
use Rattle.std.specs.Prelude.{option_map, option_and_then}
use Rattle.std.proofs.lemmas.Option.{none-some, same_Some}
use Rattle.std.proofs.lemmas.List.{take-map}
use Rattle.jh_cellcfg.specs.declared.config.CellConfig.{CellConfig}
use Rattle.jh_cellcfg.specs.Faults.{header_fault, size_by_header}
use Rattle.jh_cellcfg.specs.Reading.{config_of}
use Rattle.jh_cellcfg.specs.Spelling.{spelling}
use Rattle.jh_script.specs.declared.image.Image.{Image}
use Rattle.jh_history.specs.declared.place.Place.{Place}
use Rattle.jh_history.specs.declared.access.Access.TheVariants.{Read}
use Rattle.jh_history.specs.declared.reading.ReadCell.TheVariants.{Reads}
use Rattle.jh_history.specs.Access.{places_from}
use Rattle.jh_history.specs.Configs.{bytes_at, read_at, read_behind, read_from, read_whole}
use Rattle.jh_history.specs.Facts.{Facts}
use Rattle.jh_history.specs.Grants.{granted}

-- ---- the first places of a row

first_more : (o : Option Place) (rest part : Option (List Place)) (k : ℕ) (ps : List Place) → ((qs : List Place) → rest ≡ Some qs → part ≡ Some (take k qs))
    → option_and_then (λ (p : Place). option_map (λ (xs : List Place). p ∷ xs) rest) o ≡ Some ps → option_and_then (λ (p : Place). option_map (λ (xs : List Place). p ∷ xs) part) o ≡ Some (take (suc k) ps)
first_more None rest part k ps h e = absurd (none-some ps e)
first_more (Some p) None part k ps h e = absurd (none-some ps e)
first_more (Some p) (Some qs) part k ps h e = ap (option_map (λ (xs : List Place). p ∷ xs)) (h qs refl) ∙ ap (λ (xs : List Place). Some (take (suc k) xs)) (same_Some (p ∷ qs) ps e)

first_places : (place : ℕ → Option Place) (at n k : ℕ) (ps : List Place) → k ≤ n → places_from place at n ≡ Some ps → places_from place at k ≡ Some (take k ps)
first_places place at n zero ps le e = refl
first_places place at zero (suc k) ps le e = absurd (omega (arith, le))
first_places place at (suc n) (suc k) ps le e =
    first_more (place at) (places_from place (at + 1) n) (places_from place (at + 1) k) k ps (λ qs h. first_places place (at + 1) n k qs (omega (arith, le)) h) e

first_by : (byte : Place → ℕ) (place : ℕ → Option Place) (at n k : ℕ) (bs : List ℕ) (o : Option (List Place)) → places_from place at n ≡ o → k ≤ n → option_map (map byte) o ≡ Some bs → option_map (map byte) (places_from place at k) ≡ Some (take k bs)
first_by byte place at n k bs None whole le e = absurd (none-some bs e)
first_by byte place at n k bs (Some ps) whole le e =
    ap (option_map (map byte)) (first_places place at n k ps le whole)
    ∙ ap Some (sym (take-map byte k ps) ∙ ap (take k) (same_Some (map byte ps) bs e))

first_bytes : (image : Image) (f : Facts) (at n k : ℕ) (bs : List ℕ) → k ≤ n → bytes_at image f at n ≡ Some bs → bytes_at image f at k ≡ Some (take k bs)
first_bytes image f at n k bs le e =
    let place = granted image f image.system.root.id Read in
    first_by f.byte place at n k bs (places_from place at n) refl le e

-- ---- a spelling

-- what the laws of spellings say of one
pub record IsTold (config : CellConfig) : Type 0 where
  pub size : size_by_header (take 132 (spelling config)) ≡ length (spelling config)
  pub fault : header_fault (take 132 (spelling config)) ≡ None
  pub tells : config_of (spelling config) ≡ config

pub read_back : (image : Image) (f : Facts) (at : ℕ) (config : CellConfig) → IsTold config → 132 ≤ length (spelling config) → bytes_at image f at (length (spelling config)) ≡ Some (spelling config) → read_at image f at ≡ Reads config
unfolding read_at
read_back image f at config told long spelled =
    let bytes = bytes_at image f at in
    let whole : List ℕ = spelling config in
    let header : List ℕ = take 132 whole in
    ap (read_from bytes) (first_bytes image f at (length whole) 132 whole long spelled)
    ∙ ap (read_behind bytes header) told.fault
    ∙ ap read_whole (ap bytes told.size ∙ spelled)
    ∙ ap Reads told.tells
