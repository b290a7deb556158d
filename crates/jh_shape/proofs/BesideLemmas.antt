-- What more cells beside a cell, and the marks of those beside it, change of what is wanted.
use Rattle.std.proofs.Common.{◌≡◌, ℕ, Bool, List, [], ◌∷◌, map, refl, sym, ap, ◌∙◌, arith}
use Rattle.std.specs.List.{list_any}
use Rattle.std.specs.Prelude.{◌↔◌}
use Rattle.jh_cellcfg.specs.declared.live.Live.{Live}
use Rattle.jh_cellcfg.specs.declared.region.Region.{Region}
use Rattle.jh_num.proofs.Public.{IsFound_from_list_any, list_any_from_Contains, list_any_map}
use Rattle.jh_shape.specs.declared.want.Want.TheVariants.{Table}
use Rattle.jh_shape.specs.Claims.{Claims, Holder, holder_of}
use Rattle.jh_shape.specs.Laws.{HasSameHolders, IsBesideMore}
use Rattle.jh_shape.specs.Lives.{configs_of}
use Rattle.jh_shape.specs.Pages.{live_root_claims, root_claims, tables_of}
use Rattle.jh_shape.specs.Shapes.{are_cut, holder_of_live, meets_in_part, want_of}
use Rattle.jh_shape.proofs.LawLemmas.{table_from, table_is}
use Rattle.jh_shape.proofs.OrderLemmas.{CutsMore, table_more, tables_of_more}

-- a cell that cuts places stands among more cells too
more_cut : (few many : Claims) → IsBesideMore few many → CutsMore few many
more_cut few many h =
    record {
      regions = h.regions;
      root = h.root;
      cut = λ place size e.
          let cuts : Holder → Bool = λ (holder : Holder). list_any (λ (region : Region). meets_in_part region place size) holder.regions in
          let f = IsFound_from_list_any cuts few.holders e in
          list_any_from_Contains cuts many.holders f.0 (h.holders f.0 f.1.among) f.1.passes;
    }

-- and so a table stays one
pub table_stays : (few many : Claims) (level start : ℕ) → IsBesideMore few many → want_of few level start ≡ Table → want_of many level start ≡ Table
table_stays few many level start h t =
    table_from many level start (table_more few many (more_cut few many h) level start (table_is few level start t))

-- which places are cut is told by the regions of the cells alone
cut_by_regions : (holders : List Holder) (place size : ℕ) → list_any (λ (regions : List Region). list_any (λ (region : Region). meets_in_part region place size) regions) (map (λ (holder : Holder). holder.regions) holders) ≡ are_cut holders place size
cut_by_regions holders place size =
    list_any_map (λ (holder : Holder). holder.regions) (λ (regions : List Region). list_any (λ (region : Region). meets_in_part region place size) regions) holders

same_cut : (one other : Claims) → HasSameHolders one other → CutsMore one other
same_cut one other h =
    record {
      regions = sym h.regions;
      root = sym h.root;
      cut = λ place size e.
          let cuts : List (List Region) → Bool = λ held. list_any (λ (regions : List Region). list_any (λ (region : Region). meets_in_part region place size) regions) held in
          sym (cut_by_regions other.holders place size) ∙ sym (ap cuts h.holders) ∙ cut_by_regions one.holders place size ∙ e;
    }

turned : (one other : Claims) → HasSameHolders one other → HasSameHolders other one
turned one other h = record { regions = sym h.regions; root = sym h.root; holders = sym h.holders }

table_there_too : (one other : Claims) (level start : ℕ) → HasSameHolders one other → want_of one level start ≡ Table → want_of other level start ≡ Table
table_there_too one other level start h t =
    table_from other level start (table_more one other (same_cut one other h) level start (table_is one level start t))

pub same_tables : (one other : Claims) (level start : ℕ) → HasSameHolders one other → (want_of one level start ≡ Table) ↔ (want_of other level start ≡ Table)
same_tables one other level start h = (table_there_too one other level start h, table_there_too other one level start (turned one other h))

pub same_pages : (one other : Claims) → HasSameHolders one other → tables_of one ≡ tables_of other
same_pages one other h =
    let a = tables_of_more one other (same_cut one other h) in
    let b = tables_of_more other one (same_cut other one (turned one other h)) in
    omega arith

-- live cells have the regions of their configurations
held_alike : (lives : List Live) → map (λ (holder : Holder). holder.regions) (map holder_of_live lives) ≡ map (λ (holder : Holder). holder.regions) (map holder_of (configs_of lives))
held_alike [] = refl
held_alike (live ∷ lives) = ap (λ (held : List (List Region)). live.config.memory_regions ∷ held) (held_alike lives)

pub live_alike : (regions : List Region) (lives : List Live) → HasSameHolders (live_root_claims regions lives) (root_claims regions (configs_of lives))
live_alike regions lives = record { regions = refl; root = refl; holders = held_alike lives }
