-- What fills leave of a CPU's translations.
use Rattle.std.specs.Prelude.{◌≡◌, ℕ, ◌%◌, Bool, ◌&&◌, not, if◌then◌else◌, List, Contains, Some, fold}
use Rattle.std.specs.List.{list_any}
use Rattle.jh_cache.specs.declared.translation.Translation.{Translation}
use Rattle.jh_cache.specs.Translations.{filled, is_for, without}
use Rattle.jh_reach.specs.declared.access.Access.{Access}
use Rattle.jh_reach.specs.declared.looks.Look.{Look}
use Rattle.jh_reach.specs.Places.{Sight, hit_at}
use Rattle.jh_reach.specs.Looks.{LooksView, pages_in}

-- the translation that the look gives, of the tag
abbrev pub translation_of : ℕ → Look → Translation
translation_of tag look = record { tag = tag; page = look.page; hit = look.hit }

-- the access may be made, and the CPU lacked a translation of one of its pages
abbrev pub is_to_fill : LooksView → Bool
is_to_fill looks = looks.whole && list_any (λ (look : Look). not look.cached) looks.looked

-- the list with the translations of all looks filled, in order
abbrev pub with_looks : ℕ → List Look → List Translation → List Translation
with_looks tag looks list = fold (λ (rest : List Translation) (look : Look). filled (translation_of tag look) rest) list looks

-- the list after the access was made: all its pages are filled where one was missed, else it is as it was
abbrev pub filled_with : ℕ → LooksView → List Translation → List Translation
filled_with tag looks list = if is_to_fill looks then with_looks tag looks.looked list else list

-- the list without the translations of the looks' pages, of the tag
abbrev pub without_looks : ℕ → List Look → List Translation → List Translation
without_looks tag looks list = fold (λ (rest : List Translation) (look : Look). without (is_for tag look.page) rest) list looks

-- the translation is of the cell's tag and of a page of the access, and is what a walk finds there
pub record IsOfAccess (s : Sight) (access : Access) (t : Translation) : Type 0 where
  pub tag : t.tag ≡ s.base.tag
  pub page : Contains (pages_in access) t.page
  pub aligned : t.page % 4096 ≡ 0
  pub found : hit_at s t.page ≡ Some t.hit
