-- Each of the eight parts is put behind those before it.
use Rattle.std.proofs.Common.{append_assoc}
use Rattle.jh_cellcfg.proofs.write.write_parts.Goals as goal

pub returns : goal.returns
returns c = simp append_assoc at (rw (c.in_ok-out-7.ensures, c.in_ok-out-6.ensures, c.in_ok-out-5.ensures, c.in_ok-out-4.ensures, c.in_ok-out-3.ensures, c.in_ok-out-2.ensures, c.in_ok-out.ensures, c.as_slice.ensures.value) at c.write_list-7.ensures)
