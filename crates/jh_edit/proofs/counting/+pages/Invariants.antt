-- Each call goes one level down; the pages are those of the slots gone over.
use Rattle.std.proofs.Common.{◌≡◌, ◌+◌, ◌-◌, ◌*◌, ◌≤◌}
use Rattle.jh_num.specs.Below.{sum_below}
use Rattle.jh_desc.specs.Descriptors.{read_of}
use Rattle.jh_frames.specs.Memory.{byte_at, word_in}
use Rattle.jh_walk.specs.Counts.{by_next}
use Rattle.jh_walk.specs.Pages.{pages_reached}
use Rattle.jh_edit.proofs.counting.+pages.Given as goal

abbrev pub decreases-pages_at : goal.decreases-pages_at
decreases-pages_at l = 2 * l.left + 1

abbrev pub decreases-pages_from : goal.decreases-pages_from
decreases-pages_from l = 2 * l.left

abbrev pub invariant-pages_from-loop-slot : goal.invariant-pages_from-loop-slot
invariant-pages_from-loop-slot l =
    (l.pages ≡ 1 + sum_below l.slot (λ i. by_next (pages_reached (word_in (byte_at l.f)) (l.left - 1)) (read_of (word_in (byte_at l.f) (l.table + 8 * i)) l.level)))
    × (l.pages ≤ 1 + l.slot * 262657)
