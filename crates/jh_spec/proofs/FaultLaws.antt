-- Which member is at fault.
use Rattle.std.proofs.Common.{◌≡◌, ◌↔◌, ℕ, Bool, true, false, cond, List, [], ◌∷◌, ◌++◌, codes, Option, Some, None, Result, Ok, Err, is_some, is_none, is_err, refl, sym, ap, ◌∙◌, subst}
use Rattle.std.specs.Prelude.{option_map}
use Rattle.std.specs.List.{find}
use Rattle.std.specs.Option.{option_map_or, option_or}
use Rattle.std.proofs.lemmas.Option.{same_Some, none-some}
use Rattle.serde_json.specs.Data.{Data}
use Rattle.serde_json.specs.Find.{get, as_object}
use Rattle.jh_cellcfg.specs.declared.config.CellConfig.{CellConfig}
use Rattle.jh_spec.specs.declared.fault.JsonFault.{JsonFault}
use Rattle.jh_spec.specs.declared.fault.JsonFault.TheVariants.{Json, Member, NoMemory}
use Rattle.jh_spec.specs.declared.spec.Spec.{Spec}
use Rattle.jh_spec.specs.declared.spec.Spec.TheVariants.{Cell as CellSpec, System as SystemSpec}
use Rattle.jh_spec.specs.declared.spec.Kind.{Kind}
use Rattle.jh_spec.specs.declared.spec.Kind.TheVariants.{Cell, System}
use Rattle.jh_spec.specs.Faults.{told_and_then, ◌>>=◌, member_told, no_name}
use Rattle.jh_spec.specs.Json.{first_unlisted}
use Rattle.jh_spec.specs.Fields.{u8_at, u16_at, u32_at, u64_at}
use Rattle.jh_spec.specs.Cells.{cell_name, cpu_set_size, cpu_set_in, regions_in, irqchips_in, devices_in, console_at, region_at, cell_names, system_names, identity_told, lists_told, settings_told, cell_told, root_of, root_in, root_told, platform_told, system_told}
use Rattle.jh_spec.specs.Specs.{names_with_kind, kind_told, told_by, object_told, spec_told}
use Rattle.jh_spec.specs.Laws.{cell_members, root_member, system_members, first_at_fault, blame}

-- ---- members as they are told one after another

-- the first of the members that is marked as at fault, else the other name
abbrev blamed : List (List ℕ × Bool) → Option (List ℕ) → Option (List ℕ)
blamed [] other = other
blamed (member ∷ members) other = cond member.1 (Some member.0) (blamed members other)

-- that is the first at fault, or else the other name
abbrev name_of : Option (List ℕ × Bool) → Option (List ℕ)
name_of found = option_map (λ (member : List ℕ × Bool). member.0) found

first_by : (b : Bool) (member : List ℕ × Bool) (found : Option (List ℕ × Bool)) (other rest : Option (List ℕ)) → option_or (name_of found) other ≡ rest → option_or (name_of (cond b (Some member) found)) other ≡ cond b (Some member.0) rest
first_by true member found other rest h = refl
first_by false member found other rest h = h

first_blamed : (members : List (List ℕ × Bool)) (other : Option (List ℕ)) → option_or (first_at_fault members) other ≡ blamed members other
first_blamed [] other = refl
first_blamed (m ∷ ms) other = first_by m.1 m (find (λ (member : List ℕ × Bool). member.1) ms) other (blamed ms other) (first_blamed ms other)

-- a cell's members of its name, id, flags and CPU bitmap, each with whether it is at fault
abbrev identity_members : Data → List (List ℕ × Bool)
identity_members d =
    (codes "name", is_none (cell_name d))
    ∷ (codes "id", is_none (u32_at (codes "id") d))
    ∷ (codes "flags", is_none (u32_at (codes "flags") d))
    ∷ (codes "cpu_set_size", is_none (cpu_set_size d))
    ∷ (codes "cpus", option_map_or (λ bytes. is_none (cpu_set_in bytes d)) (cpu_set_size d) false)
    ∷ []

-- a cell's members that are lists, each with whether it is at fault
abbrev lists_members : Data → List (List ℕ × Bool)
lists_members d =
    (codes "regions", is_none (regions_in d))
    ∷ (codes "irqchips", is_none (irqchips_in d))
    ∷ (codes "devices", is_none (devices_in d))
    ∷ []

-- a cell's other members, each with whether it is at fault
abbrev settings_members : Data → List (List ℕ × Bool)
settings_members d =
    (codes "vpci_irq_base", is_none (u32_at (codes "vpci_irq_base") d))
    ∷ (codes "cpu_reset_address", is_none (u64_at (codes "cpu_reset_address") d))
    ∷ (codes "msg_reply_timeout", is_none (u64_at (codes "msg_reply_timeout") d))
    ∷ (codes "console", is_none (console_at (codes "console") d))
    ∷ []

-- a system's members but root, each with whether it is at fault
abbrev platform_members : Data → List (List ℕ × Bool)
platform_members d =
    (codes "flags", is_none (u32_at (codes "flags") d))
    ∷ (codes "hypervisor", is_none (region_at (codes "hypervisor") d))
    ∷ (codes "debug_console", is_none (console_at (codes "debug_console") d))
    ∷ (codes "mmconfig_base", is_none (u64_at (codes "mmconfig_base") d))
    ∷ (codes "end_bus", is_none (u8_at (codes "end_bus") d))
    ∷ (codes "is_virtual", is_none (u8_at (codes "is_virtual") d))
    ∷ (codes "domain", is_none (u16_at (codes "domain") d))
    ∷ []

-- ---- one chain

-- the answer is Ok where none is blamed, and else the fault of that member
IsBlamed : {X : Type 0} → Result X JsonFault → Option (List ℕ) → Type 0
IsBlamed (Ok x) found = found ≡ None
IsBlamed (Err (Member m)) found = found ≡ Some m
IsBlamed (Err Json) found = ⊥
IsBlamed (Err NoMemory) found = ⊥

-- one member, and what is behind it
one : {X Y : Type 0} (name : List ℕ) (o : Option X) (next : X → Result Y JsonFault) (ms : List (List ℕ × Bool)) → ((x : X) → o ≡ Some x → IsBlamed (next x) (blamed ms None))
    → IsBlamed (member_told name o >>= next) (blamed ((name, is_none o) ∷ ms) None)
unfolding told_and_then IsBlamed
one name None next ms rest = refl
one name (Some x) next ms rest = rest x refl

ended : {X : Type 0} (x : X) → IsBlamed (Ok x) None
unfolding IsBlamed
ended x = refl

-- the bitmap of CPUs is looked at where its size is told
cpus_one : {Y : Type 0} (d : Data) (bytes : ℕ) → cpu_set_size d ≡ Some bytes → (next : List ℕ → Result Y JsonFault) → ((x : List ℕ) → cpu_set_in bytes d ≡ Some x → IsBlamed (next x) None)
    → IsBlamed (member_told (codes "cpus") (cpu_set_in bytes d) >>= next) (blamed ((codes "cpus", option_map_or (λ b. is_none (cpu_set_in b d)) (cpu_set_size d) false) ∷ []) None)
cpus_one d bytes is next rest =
    subst (λ (o : Option ℕ). IsBlamed (member_told (codes "cpus") (cpu_set_in bytes d) >>= next) (blamed ((codes "cpus", option_map_or (λ (b : ℕ). is_none (cpu_set_in b d)) o false) ∷ []) None))
    (sym is) (one (codes "cpus") (cpu_set_in bytes d) next [] rest)

identity_blamed : (d : Data) → IsBlamed (identity_told d) (blamed (identity_members d) None)
unfolding identity_told
identity_blamed d =
    one (codes "name") (cell_name d) _ ((codes "id", is_none (u32_at (codes "id") d)) ∷ (codes "flags", is_none (u32_at (codes "flags") d)) ∷ (codes "cpu_set_size", is_none (cpu_set_size d)) ∷ (codes "cpus", option_map_or (λ b. is_none (cpu_set_in b d)) (cpu_set_size d) false) ∷ []) (λ name _.
    one (codes "id") (u32_at (codes "id") d) _ ((codes "flags", is_none (u32_at (codes "flags") d)) ∷ (codes "cpu_set_size", is_none (cpu_set_size d)) ∷ (codes "cpus", option_map_or (λ b. is_none (cpu_set_in b d)) (cpu_set_size d) false) ∷ []) (λ id _.
    one (codes "flags") (u32_at (codes "flags") d) _ ((codes "cpu_set_size", is_none (cpu_set_size d)) ∷ (codes "cpus", option_map_or (λ b. is_none (cpu_set_in b d)) (cpu_set_size d) false) ∷ []) (λ flags _.
    one (codes "cpu_set_size") (cpu_set_size d) _ ((codes "cpus", option_map_or (λ b. is_none (cpu_set_in b d)) (cpu_set_size d) false) ∷ []) (λ bytes sized.
    cpus_one d bytes sized _ (λ cpu_set _. ended _)))))

lists_blamed : (d : Data) → IsBlamed (lists_told d) (blamed (lists_members d) None)
unfolding lists_told
lists_blamed d =
    one (codes "regions") (regions_in d) _ ((codes "irqchips", is_none (irqchips_in d)) ∷ (codes "devices", is_none (devices_in d)) ∷ []) (λ memory_regions _.
    one (codes "irqchips") (irqchips_in d) _ ((codes "devices", is_none (devices_in d)) ∷ []) (λ irqchips _.
    one (codes "devices") (devices_in d) _ ([]) (λ pci_devices _. ended _)))

settings_blamed : (d : Data) → IsBlamed (settings_told d) (blamed (settings_members d) None)
unfolding settings_told
settings_blamed d =
    one (codes "vpci_irq_base") (u32_at (codes "vpci_irq_base") d) _ ((codes "cpu_reset_address", is_none (u64_at (codes "cpu_reset_address") d)) ∷ (codes "msg_reply_timeout", is_none (u64_at (codes "msg_reply_timeout") d)) ∷ (codes "console", is_none (console_at (codes "console") d)) ∷ []) (λ vpci_irq_base _.
    one (codes "cpu_reset_address") (u64_at (codes "cpu_reset_address") d) _ ((codes "msg_reply_timeout", is_none (u64_at (codes "msg_reply_timeout") d)) ∷ (codes "console", is_none (console_at (codes "console") d)) ∷ []) (λ cpu_reset_address _.
    one (codes "msg_reply_timeout") (u64_at (codes "msg_reply_timeout") d) _ ((codes "console", is_none (console_at (codes "console") d)) ∷ []) (λ msg_reply_timeout _.
    one (codes "console") (console_at (codes "console") d) _ ([]) (λ console _. ended _))))

platform_blamed : (d : Data) → IsBlamed (platform_told d) (blamed (platform_members d) None)
unfolding platform_told
platform_blamed d =
    one (codes "flags") (u32_at (codes "flags") d) _ ((codes "hypervisor", is_none (region_at (codes "hypervisor") d)) ∷ (codes "debug_console", is_none (console_at (codes "debug_console") d)) ∷ (codes "mmconfig_base", is_none (u64_at (codes "mmconfig_base") d)) ∷ (codes "end_bus", is_none (u8_at (codes "end_bus") d)) ∷ (codes "is_virtual", is_none (u8_at (codes "is_virtual") d)) ∷ (codes "domain", is_none (u16_at (codes "domain") d)) ∷ []) (λ flags _.
    one (codes "hypervisor") (region_at (codes "hypervisor") d) _ ((codes "debug_console", is_none (console_at (codes "debug_console") d)) ∷ (codes "mmconfig_base", is_none (u64_at (codes "mmconfig_base") d)) ∷ (codes "end_bus", is_none (u8_at (codes "end_bus") d)) ∷ (codes "is_virtual", is_none (u8_at (codes "is_virtual") d)) ∷ (codes "domain", is_none (u16_at (codes "domain") d)) ∷ []) (λ hypervisor_memory _.
    one (codes "debug_console") (console_at (codes "debug_console") d) _ ((codes "mmconfig_base", is_none (u64_at (codes "mmconfig_base") d)) ∷ (codes "end_bus", is_none (u8_at (codes "end_bus") d)) ∷ (codes "is_virtual", is_none (u8_at (codes "is_virtual") d)) ∷ (codes "domain", is_none (u16_at (codes "domain") d)) ∷ []) (λ debug_console _.
    one (codes "mmconfig_base") (u64_at (codes "mmconfig_base") d) _ ((codes "end_bus", is_none (u8_at (codes "end_bus") d)) ∷ (codes "is_virtual", is_none (u8_at (codes "is_virtual") d)) ∷ (codes "domain", is_none (u16_at (codes "domain") d)) ∷ []) (λ pci_mmconfig_base _.
    one (codes "end_bus") (u8_at (codes "end_bus") d) _ ((codes "is_virtual", is_none (u8_at (codes "is_virtual") d)) ∷ (codes "domain", is_none (u16_at (codes "domain") d)) ∷ []) (λ pci_mmconfig_end_bus _.
    one (codes "is_virtual") (u8_at (codes "is_virtual") d) _ ((codes "domain", is_none (u16_at (codes "domain") d)) ∷ []) (λ pci_is_virtual _.
    one (codes "domain") (u16_at (codes "domain") d) _ ([]) (λ pci_domain _. ended _)))))))

-- ---- chains of chains

blamed_append : (ms ns : List (List ℕ × Bool)) (other : Option (List ℕ)) → blamed (ms ++ ns) other ≡ blamed ms (blamed ns other)
blamed_append [] ns other = refl
blamed_append (m ∷ ms) ns other = ap (λ rest. cond m.1 (Some m.0) rest) (blamed_append ms ns other)

none_by : (b : Bool) (name : List ℕ) (rest more other : Option (List ℕ)) → cond b (Some name) rest ≡ None → (rest ≡ None → more ≡ other) → cond b (Some name) more ≡ other
none_by true name rest more other h later = absurd (none-some name (sym h))
none_by false name rest more other h later = later h

blamed_none : (ms : List (List ℕ × Bool)) (other : Option (List ℕ)) → blamed ms None ≡ None → blamed ms other ≡ other
blamed_none [] other h = refl
blamed_none (m ∷ ms) other h = none_by m.1 m.0 (blamed ms None) (blamed ms other) other h (λ rest. blamed_none ms other rest)

some_by : (b : Bool) (name found : List ℕ) (rest more : Option (List ℕ)) → cond b (Some name) rest ≡ Some found → (rest ≡ Some found → more ≡ Some found) → cond b (Some name) more ≡ Some found
some_by true name found rest more h later = h
some_by false name found rest more h later = later h

blamed_some : (ms : List (List ℕ × Bool)) (other : Option (List ℕ)) (found : List ℕ) → blamed ms None ≡ Some found → blamed ms other ≡ Some found
blamed_some [] other found h = absurd (none-some found h)
blamed_some (m ∷ ms) other found h = some_by m.1 m.0 found (blamed ms None) (blamed ms other) h (λ rest. blamed_some ms other found rest)

then_blamed : {X Y : Type 0} (r : Result X JsonFault) (next : X → Result Y JsonFault) (ms : List (List ℕ × Bool)) (other : Option (List ℕ)) → IsBlamed r (blamed ms None)
    → ((x : X) → IsBlamed (next x) other) → IsBlamed (r >>= next) (blamed ms other)
unfolding told_and_then IsBlamed
then_blamed (Ok x) next ms other is rest = subst (IsBlamed (next x)) (sym (blamed_none ms other is)) (rest x)
then_blamed (Err (Member m)) next ms other is rest = blamed_some ms other m is
then_blamed (Err Json) next ms other is rest = absurd is
then_blamed (Err NoMemory) next ms other is rest = absurd is

listed_by : {Y : Type 0} (y : Y) (o : Option (List ℕ)) → IsBlamed (no_name o >>= λ _. Ok y) o
unfolding told_and_then IsBlamed
listed_by y None = refl
listed_by y (Some name) = refl

cell_blamed : (names : List (List ℕ)) (d : Data) → IsBlamed (cell_told names d) (blamed (cell_members d) (first_unlisted names d))
unfolding cell_told
cell_blamed names d =
    subst (IsBlamed (cell_told names d))
    (sym (blamed_append (identity_members d) (lists_members d ++ settings_members d) (first_unlisted names d)
    ∙ ap (blamed (identity_members d)) (blamed_append (lists_members d) (settings_members d) (first_unlisted names d))))
    (then_blamed (identity_told d) _ (identity_members d) (blamed (lists_members d) (blamed (settings_members d) (first_unlisted names d))) (identity_blamed d) (λ identity.
    then_blamed (lists_told d) _ (lists_members d) (blamed (settings_members d) (first_unlisted names d)) (lists_blamed d) (λ lists.
    then_blamed (settings_told d) _ (settings_members d) (first_unlisted names d) (settings_blamed d) (λ settings. listed_by _ (first_unlisted names d)))))

root_by : (o : Option Data) → IsBlamed (root_in o) (blamed ((codes "root", option_map_or (λ root. is_err (cell_told cell_names root)) o true) ∷ []) None)
unfolding IsBlamed
root_by None = refl
root_by (Some root) = told (cell_told cell_names root)
  where
    told : (r : Result CellConfig JsonFault) → IsBlamed (root_of r) (blamed ((codes "root", is_err r) ∷ []) None)
    told (Ok config) = refl
    told (Err fault) = refl

system_blamed : (d : Data) → IsBlamed (system_told d) (blamed (system_members d) (first_unlisted (codes "kind" ∷ system_names) d))
unfolding system_told
system_blamed d =
    subst (IsBlamed (system_told d)) (sym (blamed_append (platform_members d) (root_member d ∷ []) (first_unlisted (codes "kind" ∷ system_names) d)))
    (then_blamed (platform_told d) _ (platform_members d) (blamed (root_member d ∷ []) (first_unlisted (codes "kind" ∷ system_names) d)) (platform_blamed d) (λ platform.
    then_blamed (root_told d) _ (root_member d ∷ []) (first_unlisted (codes "kind" ∷ system_names) d) (root_by (get (codes "root") d)) (λ root. listed_by _ (first_unlisted (codes "kind" ∷ system_names) d))))

made : {X Y : Type 0} (r : Result X JsonFault) (f : X → Y) (found : Option (List ℕ)) → IsBlamed r found → IsBlamed (r >>= λ x. Ok (f x)) found
unfolding told_and_then IsBlamed
made (Ok x) f found is = is
made (Err (Member m)) f found is = is
made (Err Json) f found is = absurd is
made (Err NoMemory) f found is = absurd is

first_is : {X : Type 0} (r : Result X JsonFault) (members : List (List ℕ × Bool)) (other : Option (List ℕ)) → IsBlamed r (blamed members other) → IsBlamed r (option_or (first_at_fault members) other)
first_is r members other is = subst (IsBlamed r) (sym (first_blamed members other)) is

kind_blamed : (kind : Option Kind) (d : Data) → IsBlamed (told_by kind d) (blame kind d)
unfolding IsBlamed
kind_blamed None d = refl
kind_blamed (Some Cell) d = made (cell_told names_with_kind d) CellSpec (blame (Some Cell) d) (first_is (cell_told names_with_kind d) (cell_members d) (first_unlisted names_with_kind d) (cell_blamed names_with_kind d))
kind_blamed (Some System) d = made (system_told d) SystemSpec (blame (Some System) d) (first_is (system_told d) (system_members d) (first_unlisted (codes "kind" ∷ system_names) d) (system_blamed d))

-- ---- the laws

abbrev fault_of : List ℕ → Result Spec JsonFault
fault_of m = Err (Member m)

same_member : (m n : List ℕ) → fault_of m ≡ fault_of n → m ≡ n
same_member m n h = cc

member_by : (r : Result Spec JsonFault) (found : Option (List ℕ)) → IsBlamed r found → (m : List ℕ) → (r ≡ Err (Member m)) ↔ (found ≡ Some m)
unfolding IsBlamed
member_by (Ok x) found is m = ((λ h. cc), (λ h. absurd (none-some m (sym is ∙ h))))
member_by (Err (Member n)) found is m = ((λ h. is ∙ ap (λ k. Some k) (same_member n m h)), (λ h. ap (λ k. Err (Member k)) (same_Some n m (sym is ∙ h))))
member_by (Err Json) found is m = absurd is
member_by (Err NoMemory) found is m = absurd is

told_by_none : (r : Result Spec JsonFault) (found : Option (List ℕ)) → IsBlamed r found → ((spec : Spec) × (r ≡ Ok spec)) ↔ (found ≡ None)
unfolding IsBlamed
told_by_none (Ok x) found is = ((λ h. is), (λ h. (x, refl)))
told_by_none (Err (Member n)) found is = ((λ h. let e = h.1 in cc), (λ h. absurd (none-some n (sym h ∙ is))))
told_by_none (Err Json) found is = absurd is
told_by_none (Err NoMemory) found is = absurd is

of_object : (d : Data) → is_some (as_object d) ≡ true → spec_told d ≡ object_told d
of_object d h = ap (λ b. cond b (object_told d) (Err Json)) h

pub member_law : (d : Data) (m : List ℕ) → is_some (as_object d) ≡ true → (spec_told d ≡ Err (Member m)) ↔ (blame (kind_told d) d ≡ Some m)
member_law d m object =
    let law = member_by (object_told d) (blame (kind_told d) d) (kind_blamed (kind_told d) d) m in
    ((λ h. law.0 (sym (of_object d object) ∙ h)), (λ h. of_object d object ∙ law.1 h))

pub told_law : (d : Data) → is_some (as_object d) ≡ true → ((spec : Spec) × (spec_told d ≡ Ok spec)) ↔ (blame (kind_told d) d ≡ None)
told_law d object =
    let law = told_by_none (object_told d) (blame (kind_told d) d) (kind_blamed (kind_told d) d) in
    ((λ h. law.0 (h.0, sym (of_object d object) ∙ h.1)), (λ h. let made = law.1 h in (made.0, of_object d object ∙ made.1)))
