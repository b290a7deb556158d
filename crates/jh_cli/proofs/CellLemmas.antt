-- Cells that are read one after another.
use Rattle.std.proofs.Common.{◌≡◌, ℕ, suc, ◌+◌, ◌<◌, List, [], ◌∷◌, ◌++◌, length, get_or, sym, ◌∙◌, ap, subst, arith}
use Rattle.std.specs.Prelude.{map, take, drop}
use Rattle.std.proofs.Math.Seq.{split_at, take-suc}
use Rattle.std.proofs.lemmas.List.{map-append}
use Rattle.jh_outside.specs.declared.files.Files.{Ghosts}
use Rattle.jh_outside.specs.Trail.{AsksAll}
use Rattle.jh_outside.proofs.Public.{up_to_last}
use Rattle.jh_cellcfg.specs.declared.config.CellConfig.{CellConfig}
use Rattle.jh_cli.specs.declared.ending.CallFault.{CallFault}
use Rattle.jh_image.specs.Files.{Contents}
use Rattle.jh_cli.specs.Reading.{Spells, EndsAtFile}
use Rattle.jh_cli.specs.Check.{IsCellFile, CellRefusal, SpellCells}
use Rattle.jh_cli.specs.Private.Endings.{OnEnded}
use Rattle.jh_cli.specs.Order.{last_ask, AsksTo, AsksToCell}
use Rattle.jh_cli.proofs.StopLemmas.{both_ended}

-- one file more spells one cell more
pub spell_more : (contents : Contents) (names : List (List ℕ)) (cells : List CellConfig) (name : List ℕ) (cell : CellConfig)
    → SpellCells contents names cells → Spells contents name IsCellFile cell → SpellCells contents (names ++ name ∷ []) (cells ++ cell ∷ [])
spell_more contents [] [] name cell all one = (one, tt)
spell_more contents [] (c ∷ cs) name cell all one = absurd all
spell_more contents (n ∷ ns) [] name cell all one = absurd all
spell_more contents (n ∷ ns) (c ∷ cs) name cell all one = (all.0, spell_more contents ns cs name cell all.1 one)

-- after so many names, the cells that were read; `f` gives a name's bytes
pub spell_next : {X : Type 0} (f : X → List ℕ) (contents : Contents) (names : List X) (i : ℕ) (d : X) (cells : List CellConfig) (cell : CellConfig)
    → i < length names → SpellCells contents (map f (take i names)) cells → Spells contents (f (get_or names i d)) IsCellFile cell → SpellCells contents (map f (take (i + 1) names)) (cells ++ cell ∷ [])
spell_next {X} f contents names i d cells cell lt all one =
    let next : i + 1 ≡ suc i = omega arith in
    let more : take (i + 1) names ≡ take i names ++ get_or names i d ∷ [] = ap (λ n. take n names) next ∙ take-suc names i d lt in
    let mapped : map f (take (i + 1) names) ≡ map f (take i names) ++ f (get_or names i d) ∷ [] = ap (λ (xs : List X). map f xs) more ∙ map-append f (take i names) (get_or names i d ∷ []) in
    subst (λ (ns : List (List ℕ)). SpellCells contents ns (cells ++ cell ∷ [])) (sym mapped) (spell_more contents (map f (take i names)) cells (f (get_or names i d)) cell all one)

-- the next name's file stops the call, and is the last that is read
pub stops_next : {X : Type 0} {S : Type 0} (files : Ghosts S) (f : X → List ℕ) (contents : Contents) (names : List X) (i : ℕ) (d : X) (cells : List CellConfig) (s t u : S)
    → i < length names → SpellCells contents (map f (take i names)) cells → AsksAll files (map f (take i names)) s t
    → (stop : CallFault) → OnEnded stop (EndsAtFile contents (f (get_or names i d)) CellRefusal) → OnEnded stop (AsksTo files t u [] (f (get_or names i d))) → OnEnded stop (AsksToCell files s u contents (map f names))
stops_next {X} files f contents names i d cells s t u lt all first stop ends last =
    let before = map f (take i names) in
    let name = f (get_or names i d) in
    let split : map f names ≡ before ++ name ∷ map f (drop (suc i) names) =
    ap (λ (xs : List X). map f xs) (split_at names i d lt) ∙ map-append f (take i names) (get_or names i d ∷ drop (suc i) names) in
    both_ended (EndsAtFile contents name CellRefusal) (AsksTo files t u [] name) (AsksToCell files s u contents (map f names)) stop
    (λ reply at asked. record {
      ends = record { before = before; name = name; rest = map f (drop (suc i) names); split = split; cells = cells; spelled = all; stops = at };
      asked = up_to_last files s t u before (last_ask reply.status name) first asked;
    })
    ends last
