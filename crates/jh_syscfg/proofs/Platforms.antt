-- What stands before root's name ends by itself, and can be taken from any bytes.
use Rattle.jh_cellcfg.specs.Spelling.{console_bytes}
use Rattle.jh_cellcfg.specs.Typed.{IsConsole}
use Rattle.jh_cellcfg.proofs.Public.{Splits, u8_splits, u16_splits, u32_splits, u64_splits, array_splits, region_splits, Field, both, array_field, u32_field, region_field, u64_field, u16_field, u8_field}
use Rattle.jh_syscfg.specs.Layout.{platform_bytes, IsPlatform}

-- ---- two with the same bytes are one

console_splits : Splits console_bytes IsConsole
console_splits a b x y fa fb e =
    let s_address = u64_splits a.address b.address _ _ fa.address fb.address e in
    let s_size = u32_splits a.size b.size _ _ fa.size fb.size s_address.rest_is in
    let s_kind = u16_splits a.kind b.kind _ _ fa.kind fb.kind s_size.rest_is in
    let s_flags = u16_splits a.flags b.flags _ _ fa.flags fb.flags s_kind.rest_is in
    let s_divider = u32_splits a.divider b.divider _ _ fa.divider fb.divider s_flags.rest_is in
    let s_gate_nr = u32_splits a.gate_nr b.gate_nr _ _ fa.gate_nr fb.gate_nr s_divider.rest_is in
    let s_clock_reg = u64_splits a.clock_reg b.clock_reg x y fa.clock_reg fb.clock_reg s_gate_nr.rest_is in
    record {
      record_is = λ i. record { address = s_address.record_is i; size = s_size.record_is i; kind = s_kind.record_is i; flags = s_flags.record_is i; divider = s_divider.record_is i; gate_nr = s_gate_nr.record_is i; clock_reg = s_clock_reg.record_is i };
      rest_is = s_clock_reg.rest_is;
    }

pub platform_splits : Splits platform_bytes IsPlatform
platform_splits a b x y fa fb e =
    let s_flags = u32_splits a.flags b.flags _ _ fa.flags fb.flags e in
    let s_hypervisor_memory = region_splits a.hypervisor_memory b.hypervisor_memory _ _ fa.hypervisor_memory fb.hypervisor_memory s_flags.rest_is in
    let s_debug_console = console_splits a.debug_console b.debug_console _ _ fa.debug_console fb.debug_console s_hypervisor_memory.rest_is in
    let s_base = u64_splits a.pci_mmconfig_base b.pci_mmconfig_base _ _ fa.pci_mmconfig_base fb.pci_mmconfig_base s_debug_console.rest_is in
    let s_end_bus = u8_splits a.pci_mmconfig_end_bus b.pci_mmconfig_end_bus _ _ s_base.rest_is in
    let s_is_virtual = u8_splits a.pci_is_virtual b.pci_is_virtual _ _ s_end_bus.rest_is in
    let s_domain = u16_splits a.pci_domain b.pci_domain _ _ fa.pci_domain fb.pci_domain s_is_virtual.rest_is in
    let s_root_head = array_splits 8 a.root_head b.root_head x y fa.root_head fb.root_head s_domain.rest_is in
    record {
      record_is = λ i. record {
        flags = s_flags.record_is i;
        hypervisor_memory = s_hypervisor_memory.record_is i;
        debug_console = s_debug_console.record_is i;
        pci_mmconfig_base = s_base.record_is i;
        pci_mmconfig_end_bus = s_end_bus.record_is i;
        pci_is_virtual = s_is_virtual.record_is i;
        pci_domain = s_domain.record_is i;
        root_head = s_root_head.record_is i;
      };
      rest_is = s_root_head.rest_is;
    }

-- ---- any bytes spell one

console_field : Field console_bytes IsConsole 32
console_field =
    let parts = (both u64_field (both u32_field (both u16_field (both u16_field (both u32_field (both u32_field u64_field)))))) in
    record {
      len = λ x h. parts.len (x.address, (x.size, (x.kind, (x.flags, (x.divider, (x.gate_nr, x.clock_reg)))))) (h.address, (h.size, (h.kind, (h.flags, (h.divider, (h.gate_nr, h.clock_reg))))));
      takes = λ bytes all long.
          let t = parts.takes bytes all long in
          record {
            value = record { address = t.value.0; size = t.value.1.0; kind = t.value.1.1.0; flags = t.value.1.1.1.0; divider = t.value.1.1.1.1.0; gate_nr = t.value.1.1.1.1.1.0; clock_reg = t.value.1.1.1.1.1.1 };
            rest = t.rest;
            is = t.is;
            fits = record { address = t.fits.0; size = t.fits.1.0; kind = t.fits.1.1.0; flags = t.fits.1.1.1.0; divider = t.fits.1.1.1.1.0; gate_nr = t.fits.1.1.1.1.1.0; clock_reg = t.fits.1.1.1.1.1.1 };
            more = t.more;
          };
    }

pub platform_field : Field platform_bytes IsPlatform 88
platform_field =
    let parts = (both u32_field (both region_field (both console_field (both u64_field (both u8_field (both u8_field (both u16_field (array_field 8)))))))) in
    record {
      len = λ x h. parts.len
          (x.flags, (x.hypervisor_memory, (x.debug_console, (x.pci_mmconfig_base, (x.pci_mmconfig_end_bus, (x.pci_is_virtual, (x.pci_domain, x.root_head)))))))
          (h.flags, (h.hypervisor_memory, (h.debug_console, (h.pci_mmconfig_base, (h.pci_mmconfig_end_bus, (h.pci_is_virtual, (h.pci_domain, h.root_head)))))));
      takes = λ bytes all long.
          let t = parts.takes bytes all long in
          record {
            value = record { flags = t.value.0; hypervisor_memory = t.value.1.0; debug_console = t.value.1.1.0; pci_mmconfig_base = t.value.1.1.1.0; pci_mmconfig_end_bus = t.value.1.1.1.1.0; pci_is_virtual = t.value.1.1.1.1.1.0; pci_domain = t.value.1.1.1.1.1.1.0; root_head = t.value.1.1.1.1.1.1.1 };
            rest = t.rest;
            is = t.is;
            fits = record { flags = t.fits.0; hypervisor_memory = t.fits.1.0; debug_console = t.fits.1.1.0; pci_mmconfig_base = t.fits.1.1.1.0; pci_mmconfig_end_bus = t.fits.1.1.1.1.0; pci_is_virtual = t.fits.1.1.1.1.1.0; pci_domain = t.fits.1.1.1.1.1.1.0; root_head = t.fits.1.1.1.1.1.1.1 };
            more = t.more;
          };
    }
