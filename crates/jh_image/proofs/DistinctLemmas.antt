-- Programs of different CPUs.
use Rattle.std.proofs.Common.{◌≡◌, ℕ, ◌+◌, ◌-◌, ◌<◌, ◌≤◌, length-drop, List, ◌&&◌, not, true, length, get_or, take, drop, map, sym, ap, ◌∙◌, arith}
use Rattle.std.specs.List.{list_any}
use Rattle.std.proofs.lemmas.List.{at_drop_more, at_drop_all, take_all}
use Rattle.jh_num.proofs.Public.{list_any_map}
use Rattle.jh_image.specs.declared.board.ProgramFile.{ProgramFile}
use Rattle.jh_image.specs.Boards.{are_distinct, named_cpu_of, is_same_cpu}

pub distinct_at : (files : List ProgramFile) (i : ℕ) (file : ProgramFile) → i < length files → file ≡ get_or files i file
    → are_distinct (map named_cpu_of (drop i files)) ≡ (not (list_any (λ (other : ProgramFile). is_same_cpu (named_cpu_of file) (named_cpu_of other)) (drop (i + 1) files)) && are_distinct (map named_cpu_of (drop (i + 1) files)))
unfolding are_distinct
distinct_at files i file lt is =
    at_drop_more (λ fs. are_distinct (map named_cpu_of fs)) files i file lt
    ∙ ap (λ f. not (list_any (is_same_cpu (named_cpu_of f)) (map named_cpu_of (drop (i + 1) files))) && are_distinct (map named_cpu_of (drop (i + 1) files))) (sym is)
    ∙ ap (λ b. not b && are_distinct (map named_cpu_of (drop (i + 1) files))) (list_any_map named_cpu_of (is_same_cpu (named_cpu_of file)) (drop (i + 1) files))

pub distinct_end : (files : List ProgramFile) (i : ℕ) → length files ≤ i → are_distinct (map named_cpu_of (drop i files)) ≡ true
unfolding are_distinct
distinct_end files i le = at_drop_all (λ fs. are_distinct (map named_cpu_of fs)) files i le

pub later_is : (files : List ProgramFile) (i : ℕ) → i < length files → take (length files - (i + 1)) (drop (i + 1) files) ≡ drop (i + 1) files
later_is files i lt = take_all (length files - (i + 1)) (drop (i + 1) files) (omega (arith, length-drop (i + 1) files))
