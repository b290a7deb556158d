-- The lemmas that this crate hands up: what a proof of another crate may cite, and all that it can.
pub use Rattle.jh_ivshmem.proofs.ChangeLemmas.{cleared_spec, raised_spec, register_written_spec, taken_spec}
pub use Rattle.jh_ivshmem.proofs.OrderLemmas.{apart_turned, pairs_of}
pub use Rattle.jh_ivshmem.proofs.NamedLemmas.{named_cell, named_device}
pub use Rattle.jh_ivshmem.proofs.ApartLemmas.{device_turned}
pub use Rattle.jh_ivshmem.proofs.LawLemmas.{closed, closed_control, raised_keeps_pending, raised_others, raised_pending}
pub use Rattle.jh_ivshmem.proofs.BesidesLemmas.{own_device}
