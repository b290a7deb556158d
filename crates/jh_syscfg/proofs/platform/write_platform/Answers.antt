-- Field by field, each behind the bytes of those before it.
use Rattle.std.proofs.Common.{append_assoc}
use Rattle.jh_syscfg.proofs.platform.write_platform.Goals as goal

pub returns : goal.returns
returns c = simp append_assoc at (rw (c.in_ok-u16.ensures, c.in_ok-u8-2.ensures, c.in_ok-u8.ensures, c.in_ok-u64.ensures, c.in_ok-write.ensures, c.in_ok-out-2.ensures, c.in_ok-out.ensures) at c.bytes.ensures)
