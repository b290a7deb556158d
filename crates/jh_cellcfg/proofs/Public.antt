-- The lemmas that this crate hands up: what a proof of another crate may cite, and all that it can.
pub use Rattle.jh_cellcfg.proofs.Splits.{array_splits, region_splits, u16_splits, u32_splits, u64_splits, u8_splits}
unfoldable pub use Rattle.jh_cellcfg.proofs.Splits.{Splits}
pub use Rattle.jh_cellcfg.proofs.Faultless.{body_unfaulted, length_body_bytes, one_body, started}
pub use Rattle.jh_cellcfg.proofs.Fields.{Field, IsBytes_drop, array_field, both, region_field, u16_field, u32_field, u64_field, u8_field}
pub use Rattle.jh_cellcfg.proofs.SpelledCells.{all_bytes, body_found, head_of, passed, rest_of, start_found}
pub use Rattle.jh_cellcfg.proofs.AddressLemmas.{has_address_first, has_address_from, has_address_last, has_some, same_region}
unfoldable pub use Rattle.jh_cellcfg.proofs.AddressLemmas.{no_region}
