-- The names of an object that aren't listed, over the keys of its map.
use Rattle.std.proofs.Common.{◌≡◌, ℕ, List, [], ◌∷◌, Bool, map, nat_eq, Option, Some, None, Bor, refl, sym, ap, ◌∙◌}
use Rattle.std.specs.Prelude.{String, string_bytes, if◌then◌else◌}
use Rattle.std.specs.declared.alloc.Global.{Global}
use Rattle.std.specs.List.{list_any}
use Rattle.std.specs.Cmp.Lexicographic.{pointwise}
use Rattle.serde_json.specs.declared.value.Value.{Value}
use Rattle.serde_json.specs.View.{members_view}
use Rattle.jh_num.proofs.Public.{list_any_map}
use Rattle.jh_spec.specs.Json.{first_unlisted_of}

abbrev pub key_unlisted : List (List ℕ) → List (String Global) → Option (List ℕ)
key_unlisted names [] = None
key_unlisted names (key ∷ keys) = if list_any (λ listed. pointwise nat_eq listed (string_bytes key)) names then key_unlisted names keys else Some (string_bytes key)

pub first_unlisted_keys : (names : List (List ℕ)) (entries : List (String Global × Value)) → first_unlisted_of names (members_view entries) ≡ key_unlisted names (map (λ entry. entry.0) entries)
first_unlisted_keys names [] = refl
first_unlisted_keys names (e ∷ es) =
    ap (λ (rest : Option (List ℕ)). if list_any (λ listed. pointwise nat_eq listed (string_bytes e.0)) names then rest else Some (string_bytes e.0)) (first_unlisted_keys names es)

-- the test of the next key
pub next_key : (names : List (Bor (List ℕ))) (key : String Global) (keys : List (String Global)) (text : List ℕ) (found : Bool)
    → text ≡ string_bytes key → found ≡ list_any (λ listed. pointwise nat_eq listed.now text) names
    → key_unlisted (map (λ listed. listed.now) names) (key ∷ keys) ≡ (if found then key_unlisted (map (λ listed. listed.now) names) keys else Some (string_bytes key))
next_key names key keys text found is test =
    let tests : list_any (λ listed. pointwise nat_eq listed (string_bytes key)) (map (λ listed. listed.now) names) ≡ found
    = list_any_map (λ listed. listed.now) (λ listed. pointwise nat_eq listed (string_bytes key)) names
    ∙ ap (λ (t : List ℕ). list_any (λ listed. pointwise nat_eq listed.now t) names) (sym is) ∙ sym test in
    ap (λ (b : Bool). if b then key_unlisted (map (λ listed. listed.now) names) keys else Some (string_bytes key)) tests
