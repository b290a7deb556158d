-- By the law of each kind of turn.
use Rattle.std.proofs.Common.{arith}
use Rattle.jh_shape.specs.Shapes.{want_of}
use Rattle.jh_edit.specs.OneTurn.{is_root_next}
use Rattle.jh_edit.proofs.OneTurnLemmas.{turn_kept}
use Rattle.jh_edit.proofs.turning.turns_keep_the_forest.Goals as goal

pub returns : goal.returns
returns c = λ claims rootward coming editing editing' stage stage' on forest edit turn.
    let roots = c.turns_of_root_keep_the_forest.ensures in
    let builds = c.turns_of_a_coming_cell_keep_the_forest.ensures in
    let removals = c.turns_of_a_removal_keep_the_forest.ensures in
    let first = c.a_fresh_cell_keeps_the_forest.ensures in
    turn_kept rootward coming
    (λ k e e' s s' o f d t. record { forest = roots.forest k rootward coming e e' s s' o f d t; edit = roots.edit k rootward coming e e' s s' o f d t; falls = let l = roots.left rootward e e' s s' t in omega arith })
    (λ id bound n k e e' s s' o f d t. record {
      forest = first.forest k rootward coming id bound n e e' s s' o f d t;
      edit = first.edit k rootward coming id bound n e e' s s' o f d t;
      falls = let l = first.left k rootward coming id bound n e e' s s' o f d t in omega arith;
    })
    (λ id m n k e e' s s' o f d t. record { forest = builds.forest k rootward coming id m n e e' s s' o f d t; edit = builds.edit k rootward coming id m n e e' s s' o f d t; falls = let l = builds.left coming id m n e e' s s' t in omega arith })
    (λ id m n k e e' s s' o f d t. record {
      forest = removals.forest k rootward coming (want_of rootward) id m n e e' s s' o f d t;
      edit = removals.edit k rootward coming (want_of rootward) id m n e e' s s' o f d t;
      falls = let l = removals.left (want_of rootward) id m n e e' s s' t in omega arith;
    })
    (is_root_next editing) claims editing editing' stage stage' on forest edit turn
