-- Sixteen fields, each put behind those before it, are the bytes of a device.
use Rattle.std.proofs.Common.{◌++◌}
use Rattle.std.specs.List.{flat_map}
use Rattle.jh_cellcfg.specs.Spelling.{u8_bytes, u16_bytes, u32_bytes, u64_bytes, device_bytes}
use Rattle.jh_cellcfg.proofs.Writing.{written_as, sixteen}
use Rattle.jh_cellcfg.proofs.record.PciDeviceRecord.write.Goals as goal

pub returns : goal.returns
returns c =
    let d = c.args.self.now in
    written_as c.u16-7.result (c.in_ok-u8-6.field-0.written.items ++ u16_bytes d.shmem_protocol) (c.args.out.written.items ++ device_bytes d)
    (rw (c.in_ok-u8-6.ensures, c.in_ok-u8-5.ensures, c.in_ok-u32.ensures, c.in_ok-u64.ensures, c.in_ok-u16-6.ensures, c.in_ok-u16-5.ensures, c.in_ok-u8-4.ensures, c.in_ok-u8-3.ensures, c.in_ok-u16-4.ensures, c.in_ok-u16-3.ensures, c.in_ok-words.ensures, c.in_ok-u16-2.ensures, c.in_ok-u16.ensures, c.in_ok-u8-2.ensures, c.in_ok-u8.ensures)
    (sixteen c.args.out.written.items (u8_bytes d.kind) (u8_bytes d.iommu) (u16_bytes d.domain) (u16_bytes d.bdf)
    (flat_map u32_bytes d.bar_mask) (u16_bytes d.caps_start) (u16_bytes d.num_caps) (u8_bytes d.num_msi_vectors)
    (u8_bytes d.msi_bits) (u16_bytes d.num_msix_vectors) (u16_bytes d.msix_region_size) (u64_bytes d.msix_address)
    (u32_bytes d.shmem_regions_start) (u8_bytes d.shmem_dev_id) (u8_bytes d.shmem_peers) (u16_bytes d.shmem_protocol)))
    c.u16-7.ensures
