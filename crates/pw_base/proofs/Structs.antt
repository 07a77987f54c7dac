-- Each struct is read back as it was written, and was written as it is read, field by field.
use Rattle.std.proofs.Common.{◌≡◌, ℕ, ◌+◌, ◌<◌, ◌^◌, List, ◌++◌, length, Some, refl, subst, FitsSigned, w64}
use Rattle.std.specs.Int.{cast_signed, cast_unsigned}
use Rattle.std.proofs.lemmas.Bool.{leb-true}
use Rattle.pw_base.specs.Bytes.{AreBytes}
use Rattle.pw_base.specs.Field.{field, field_at}
use Rattle.pw_base.specs.Laid.{Has}
use Rattle.pw_base.specs.Structs.{slice_at, Header, header_size, header_bytes, header_at, Section, section_size, section_bytes, section_at, Segment, segment_size, segment_bytes, segment_at, Sym, symbol_size, symbol_bytes, symbol_at, Rela, rela_size, rela_bytes, rela_at, Dynamic, dynamic_size, dynamic_bytes, dynamic_at}
use Rattle.pw_base.specs.StructLaws.{IsReadAsWritten, HeaderFits, SectionFits, SegmentFits, SymFits, RelaFits, DynamicFits}
use Rattle.pw_base.proofs.Fields.{length-field, some_is}
use Rattle.pw_base.proofs.LaidParts.{Has-field, Has-join}
use Rattle.pw_base.proofs.StructFields.{bind_some, longer, takes_last, takes_slice, has_field, has_slice, signed_fits, signed_again, bits_fit, bits_again}

-- ---- the file header

header_sized : (s : Header) → HeaderFits s → length (header_bytes s) ≡ header_size
unfolding header_bytes
header_sized s fits =
    let to_ident = fits.ident in
    let to_kind = longer _ (field 2 s.kind) 16 2 to_ident (length-field 2 s.kind) in
    let to_machine = longer _ (field 2 s.machine) 18 2 to_kind (length-field 2 s.machine) in
    let to_version = longer _ (field 4 s.version) 20 4 to_machine (length-field 4 s.version) in
    let to_entry = longer _ (field 8 s.entry) 24 8 to_version (length-field 8 s.entry) in
    let to_phoff = longer _ (field 8 s.phoff) 32 8 to_entry (length-field 8 s.phoff) in
    let to_shoff = longer _ (field 8 s.shoff) 40 8 to_phoff (length-field 8 s.shoff) in
    let to_flags = longer _ (field 4 s.flags) 48 4 to_shoff (length-field 4 s.flags) in
    let to_ehsize = longer _ (field 2 s.ehsize) 52 2 to_flags (length-field 2 s.ehsize) in
    let to_phentsize = longer _ (field 2 s.phentsize) 54 2 to_ehsize (length-field 2 s.phentsize) in
    let to_phnum = longer _ (field 2 s.phnum) 56 2 to_phentsize (length-field 2 s.phnum) in
    let to_shentsize = longer _ (field 2 s.shentsize) 58 2 to_phnum (length-field 2 s.shentsize) in
    let to_shnum = longer _ (field 2 s.shnum) 60 2 to_shentsize (length-field 2 s.shnum) in
    let to_shstrndx = longer _ (field 2 s.shstrndx) 62 2 to_shnum (length-field 2 s.shstrndx) in
    to_shstrndx

header_read : (s : Header) (bytes : List ℕ) (off : ℕ) → HeaderFits s → Has bytes off (header_bytes s) → header_at bytes off ≡ Some s
unfolding header_bytes header_at
header_read s bytes off fits stands =
    let to_ident = fits.ident in
    let to_kind = longer _ (field 2 s.kind) 16 2 to_ident (length-field 2 s.kind) in
    let to_machine = longer _ (field 2 s.machine) 18 2 to_kind (length-field 2 s.machine) in
    let to_version = longer _ (field 4 s.version) 20 4 to_machine (length-field 4 s.version) in
    let to_entry = longer _ (field 8 s.entry) 24 8 to_version (length-field 8 s.entry) in
    let to_phoff = longer _ (field 8 s.phoff) 32 8 to_entry (length-field 8 s.phoff) in
    let to_shoff = longer _ (field 8 s.shoff) 40 8 to_phoff (length-field 8 s.shoff) in
    let to_flags = longer _ (field 4 s.flags) 48 4 to_shoff (length-field 4 s.flags) in
    let to_ehsize = longer _ (field 2 s.ehsize) 52 2 to_flags (length-field 2 s.ehsize) in
    let to_phentsize = longer _ (field 2 s.phentsize) 54 2 to_ehsize (length-field 2 s.phentsize) in
    let to_phnum = longer _ (field 2 s.phnum) 56 2 to_phentsize (length-field 2 s.phnum) in
    let to_shentsize = longer _ (field 2 s.shentsize) 58 2 to_phnum (length-field 2 s.shentsize) in
    let to_shnum = longer _ (field 2 s.shnum) 60 2 to_shentsize (length-field 2 s.shnum) in
    let shstrndx_found = takes_last bytes off 62 2 _ s.shstrndx to_shnum fits.shstrndx stands in
    let shnum_found = takes_last bytes off 60 2 _ s.shnum to_shentsize fits.shnum shstrndx_found.1 in
    let shentsize_found = takes_last bytes off 58 2 _ s.shentsize to_phnum fits.shentsize shnum_found.1 in
    let phnum_found = takes_last bytes off 56 2 _ s.phnum to_phentsize fits.phnum shentsize_found.1 in
    let phentsize_found = takes_last bytes off 54 2 _ s.phentsize to_ehsize fits.phentsize phnum_found.1 in
    let ehsize_found = takes_last bytes off 52 2 _ s.ehsize to_flags fits.ehsize phentsize_found.1 in
    let flags_found = takes_last bytes off 48 4 _ s.flags to_shoff fits.flags ehsize_found.1 in
    let shoff_found = takes_last bytes off 40 8 _ s.shoff to_phoff fits.shoff flags_found.1 in
    let phoff_found = takes_last bytes off 32 8 _ s.phoff to_entry fits.phoff shoff_found.1 in
    let entry_found = takes_last bytes off 24 8 _ s.entry to_version fits.entry phoff_found.1 in
    let version_found = takes_last bytes off 20 4 _ s.version to_machine fits.version entry_found.1 in
    let machine_found = takes_last bytes off 18 2 _ s.machine to_kind fits.machine version_found.1 in
    let kind_found = takes_last bytes off 16 2 _ s.kind to_ident fits.kind machine_found.1 in
    let ident_found = takes_slice bytes off 16 s.ident fits.ident kind_found.1 in
    rw (ident_found, kind_found.0, machine_found.0, version_found.0, entry_found.0, phoff_found.0, shoff_found.0, flags_found.0, ehsize_found.0, phentsize_found.0, phnum_found.0, shentsize_found.0, shnum_found.0, shstrndx_found.0) refl

abbrev header_of : List ℕ → ℕ → ℕ → ℕ → ℕ → ℕ → ℕ → ℕ → ℕ → ℕ → ℕ → ℕ → ℕ → ℕ → Header
header_of ident kind machine version entry phoff shoff flags ehsize phentsize phnum shentsize shnum shstrndx = record { ident = ident; kind = kind; machine = machine; version = version; entry = entry; phoff = phoff; shoff = shoff; flags = flags; ehsize = ehsize; phentsize = phentsize; phnum = phnum; shentsize = shentsize; shnum = shnum; shstrndx = shstrndx }

header_stands : (bytes : List ℕ) (off : ℕ) (ident : List ℕ)
    (kind machine version entry phoff shoff flags ehsize phentsize phnum shentsize shnum shstrndx : ℕ) → AreBytes bytes →
    slice_at 16 bytes off ≡ Some ident → field_at 2 bytes (off + 16) ≡ Some kind →
    field_at 2 bytes (off + 18) ≡ Some machine → field_at 4 bytes (off + 20) ≡ Some version →
    field_at 8 bytes (off + 24) ≡ Some entry → field_at 8 bytes (off + 32) ≡ Some phoff →
    field_at 8 bytes (off + 40) ≡ Some shoff → field_at 4 bytes (off + 48) ≡ Some flags →
    field_at 2 bytes (off + 52) ≡ Some ehsize → field_at 2 bytes (off + 54) ≡ Some phentsize →
    field_at 2 bytes (off + 56) ≡ Some phnum → field_at 2 bytes (off + 58) ≡ Some shentsize →
    field_at 2 bytes (off + 60) ≡ Some shnum → field_at 2 bytes (off + 62) ≡ Some shstrndx
    → HeaderFits (header_of ident kind machine version entry phoff shoff flags ehsize phentsize phnum shentsize shnum shstrndx) × Has bytes off (header_bytes (header_of ident kind machine version entry phoff shoff flags ehsize phentsize phnum shentsize shnum shstrndx))
unfolding header_bytes
header_stands bytes off ident kind machine version entry phoff shoff flags ehsize phentsize phnum shentsize shnum shstrndx are ident_found kind_found machine_found version_found entry_found phoff_found shoff_found flags_found ehsize_found phentsize_found phnum_found shentsize_found shnum_found shstrndx_found =
    let ident_has = has_slice 16 bytes off ident ident_found in
    let kind_has = has_field 2 bytes (off + 16) kind are (leb-true 1 2 refl) kind_found in
    let machine_has = has_field 2 bytes (off + 18) machine are (leb-true 1 2 refl) machine_found in
    let version_has = has_field 4 bytes (off + 20) version are (leb-true 1 4 refl) version_found in
    let entry_has = has_field 8 bytes (off + 24) entry are (leb-true 1 8 refl) entry_found in
    let phoff_has = has_field 8 bytes (off + 32) phoff are (leb-true 1 8 refl) phoff_found in
    let shoff_has = has_field 8 bytes (off + 40) shoff are (leb-true 1 8 refl) shoff_found in
    let flags_has = has_field 4 bytes (off + 48) flags are (leb-true 1 4 refl) flags_found in
    let ehsize_has = has_field 2 bytes (off + 52) ehsize are (leb-true 1 2 refl) ehsize_found in
    let phentsize_has = has_field 2 bytes (off + 54) phentsize are (leb-true 1 2 refl) phentsize_found in
    let phnum_has = has_field 2 bytes (off + 56) phnum are (leb-true 1 2 refl) phnum_found in
    let shentsize_has = has_field 2 bytes (off + 58) shentsize are (leb-true 1 2 refl) shentsize_found in
    let shnum_has = has_field 2 bytes (off + 60) shnum are (leb-true 1 2 refl) shnum_found in
    let shstrndx_has = has_field 2 bytes (off + 62) shstrndx are (leb-true 1 2 refl) shstrndx_found in
    let to_ident = ident_has.0 in
    let to_kind = longer _ (field 2 kind) 16 2 to_ident (length-field 2 kind) in
    let to_machine = longer _ (field 2 machine) 18 2 to_kind (length-field 2 machine) in
    let to_version = longer _ (field 4 version) 20 4 to_machine (length-field 4 version) in
    let to_entry = longer _ (field 8 entry) 24 8 to_version (length-field 8 entry) in
    let to_phoff = longer _ (field 8 phoff) 32 8 to_entry (length-field 8 phoff) in
    let to_shoff = longer _ (field 8 shoff) 40 8 to_phoff (length-field 8 shoff) in
    let to_flags = longer _ (field 4 flags) 48 4 to_shoff (length-field 4 flags) in
    let to_ehsize = longer _ (field 2 ehsize) 52 2 to_flags (length-field 2 ehsize) in
    let to_phentsize = longer _ (field 2 phentsize) 54 2 to_ehsize (length-field 2 phentsize) in
    let to_phnum = longer _ (field 2 phnum) 56 2 to_phentsize (length-field 2 phnum) in
    let to_shentsize = longer _ (field 2 shentsize) 58 2 to_phnum (length-field 2 shentsize) in
    let to_shnum = longer _ (field 2 shnum) 60 2 to_shentsize (length-field 2 shnum) in
    let with_kind = Has-join bytes off (off + 16) 16 _ (field 2 kind) to_ident refl ident_has.1 kind_has.1 in
    let with_machine = Has-join bytes off (off + 18) 18 _ (field 2 machine) to_kind refl with_kind machine_has.1 in
    let with_version = Has-join bytes off (off + 20) 20 _ (field 4 version) to_machine refl with_machine version_has.1 in
    let with_entry = Has-join bytes off (off + 24) 24 _ (field 8 entry) to_version refl with_version entry_has.1 in
    let with_phoff = Has-join bytes off (off + 32) 32 _ (field 8 phoff) to_entry refl with_entry phoff_has.1 in
    let with_shoff = Has-join bytes off (off + 40) 40 _ (field 8 shoff) to_phoff refl with_phoff shoff_has.1 in
    let with_flags = Has-join bytes off (off + 48) 48 _ (field 4 flags) to_shoff refl with_shoff flags_has.1 in
    let with_ehsize = Has-join bytes off (off + 52) 52 _ (field 2 ehsize) to_flags refl with_flags ehsize_has.1 in
    let with_phentsize = Has-join bytes off (off + 54) 54 _ (field 2 phentsize) to_ehsize refl with_ehsize phentsize_has.1 in
    let with_phnum = Has-join bytes off (off + 56) 56 _ (field 2 phnum) to_phentsize refl with_phentsize phnum_has.1 in
    let with_shentsize = Has-join bytes off (off + 58) 58 _ (field 2 shentsize) to_phnum refl with_phnum shentsize_has.1 in
    let with_shnum = Has-join bytes off (off + 60) 60 _ (field 2 shnum) to_shentsize refl with_shentsize shnum_has.1 in
    let with_shstrndx = Has-join bytes off (off + 62) 62 _ (field 2 shstrndx) to_shnum refl with_shnum shstrndx_has.1 in
    (record { ident = ident_has.0; kind = kind_has.0; machine = machine_has.0; version = version_has.0; entry = entry_has.0; phoff = phoff_has.0; shoff = shoff_has.0; flags = flags_has.0; ehsize = ehsize_has.0; phentsize = phentsize_has.0; phnum = phnum_has.0; shentsize = shentsize_has.0; shnum = shnum_has.0; shstrndx = shstrndx_has.0 }, with_shstrndx)

header_written : (s : Header) (bytes : List ℕ) (off : ℕ) → AreBytes bytes → header_at bytes off ≡ Some s →
    HeaderFits s × Has bytes off (header_bytes s)
unfolding header_at
header_written s bytes off are found =
    let ident = bind_some (slice_at 16 bytes off) _ s found in
    let kind = bind_some (field_at 2 bytes (off + 16)) _ s ident.2 in
    let machine = bind_some (field_at 2 bytes (off + 18)) _ s kind.2 in
    let version = bind_some (field_at 4 bytes (off + 20)) _ s machine.2 in
    let entry = bind_some (field_at 8 bytes (off + 24)) _ s version.2 in
    let phoff = bind_some (field_at 8 bytes (off + 32)) _ s entry.2 in
    let shoff = bind_some (field_at 8 bytes (off + 40)) _ s phoff.2 in
    let flags = bind_some (field_at 4 bytes (off + 48)) _ s shoff.2 in
    let ehsize = bind_some (field_at 2 bytes (off + 52)) _ s flags.2 in
    let phentsize = bind_some (field_at 2 bytes (off + 54)) _ s ehsize.2 in
    let phnum = bind_some (field_at 2 bytes (off + 56)) _ s phentsize.2 in
    let shentsize = bind_some (field_at 2 bytes (off + 58)) _ s phnum.2 in
    let shnum = bind_some (field_at 2 bytes (off + 60)) _ s shentsize.2 in
    let shstrndx = bind_some (field_at 2 bytes (off + 62)) _ s shnum.2 in
    let same = some_is (header_of ident.0 kind.0 machine.0 version.0 entry.0 phoff.0 shoff.0 flags.0 ehsize.0 phentsize.0 phnum.0 shentsize.0 shnum.0 shstrndx.0) s shstrndx.2 in
    subst (λ (t : Header). HeaderFits t × Has bytes off (header_bytes t)) same (header_stands bytes off ident.0 kind.0 machine.0 version.0 entry.0 phoff.0 shoff.0 flags.0 ehsize.0 phentsize.0 phnum.0 shentsize.0 shnum.0 shstrndx.0 are ident.1 kind.1 machine.1 version.1 entry.1 phoff.1 shoff.1 flags.1 ehsize.1 phentsize.1 phnum.1 shentsize.1 shnum.1 shstrndx.1)

pub header_is_read_as_written : IsReadAsWritten HeaderFits header_bytes header_at header_size
header_is_read_as_written = record { sized = header_sized; read = header_read; written = header_written }

-- ---- a section header

section_sized : (s : Section) → SectionFits s → length (section_bytes s) ≡ section_size
unfolding section_bytes
section_sized s fits =
    let to_name = length-field 4 s.name in
    let to_kind = longer _ (field 4 s.kind) 4 4 to_name (length-field 4 s.kind) in
    let to_flags = longer _ (field 8 s.flags) 8 8 to_kind (length-field 8 s.flags) in
    let to_addr = longer _ (field 8 s.addr) 16 8 to_flags (length-field 8 s.addr) in
    let to_offset = longer _ (field 8 s.offset) 24 8 to_addr (length-field 8 s.offset) in
    let to_size = longer _ (field 8 s.size) 32 8 to_offset (length-field 8 s.size) in
    let to_link = longer _ (field 4 s.link) 40 4 to_size (length-field 4 s.link) in
    let to_info = longer _ (field 4 s.info) 44 4 to_link (length-field 4 s.info) in
    let to_addralign = longer _ (field 8 s.addralign) 48 8 to_info (length-field 8 s.addralign) in
    let to_entsize = longer _ (field 8 s.entsize) 56 8 to_addralign (length-field 8 s.entsize) in
    to_entsize

section_read : (s : Section) (bytes : List ℕ) (off : ℕ) → SectionFits s → Has bytes off (section_bytes s) → section_at bytes off ≡ Some s
unfolding section_bytes section_at
section_read s bytes off fits stands =
    let to_name = length-field 4 s.name in
    let to_kind = longer _ (field 4 s.kind) 4 4 to_name (length-field 4 s.kind) in
    let to_flags = longer _ (field 8 s.flags) 8 8 to_kind (length-field 8 s.flags) in
    let to_addr = longer _ (field 8 s.addr) 16 8 to_flags (length-field 8 s.addr) in
    let to_offset = longer _ (field 8 s.offset) 24 8 to_addr (length-field 8 s.offset) in
    let to_size = longer _ (field 8 s.size) 32 8 to_offset (length-field 8 s.size) in
    let to_link = longer _ (field 4 s.link) 40 4 to_size (length-field 4 s.link) in
    let to_info = longer _ (field 4 s.info) 44 4 to_link (length-field 4 s.info) in
    let to_addralign = longer _ (field 8 s.addralign) 48 8 to_info (length-field 8 s.addralign) in
    let entsize_found = takes_last bytes off 56 8 _ s.entsize to_addralign fits.entsize stands in
    let addralign_found = takes_last bytes off 48 8 _ s.addralign to_info fits.addralign entsize_found.1 in
    let info_found = takes_last bytes off 44 4 _ s.info to_link fits.info addralign_found.1 in
    let link_found = takes_last bytes off 40 4 _ s.link to_size fits.link info_found.1 in
    let size_found = takes_last bytes off 32 8 _ s.size to_offset fits.size link_found.1 in
    let offset_found = takes_last bytes off 24 8 _ s.offset to_addr fits.offset size_found.1 in
    let addr_found = takes_last bytes off 16 8 _ s.addr to_flags fits.addr offset_found.1 in
    let flags_found = takes_last bytes off 8 8 _ s.flags to_kind fits.flags addr_found.1 in
    let kind_found = takes_last bytes off 4 4 _ s.kind to_name fits.kind flags_found.1 in
    let name_found = Has-field bytes off 4 s.name fits.name kind_found.1 in
    rw (name_found, kind_found.0, flags_found.0, addr_found.0, offset_found.0, size_found.0, link_found.0, info_found.0, addralign_found.0, entsize_found.0) refl

abbrev section_of : ℕ → ℕ → ℕ → ℕ → ℕ → ℕ → ℕ → ℕ → ℕ → ℕ → Section
section_of name kind flags addr offset size link info addralign entsize = record { name = name; kind = kind; flags = flags; addr = addr; offset = offset; size = size; link = link; info = info; addralign = addralign; entsize = entsize }

section_stands : (bytes : List ℕ) (off : ℕ) (name kind flags addr offset size link info addralign entsize : ℕ) →
    AreBytes bytes → field_at 4 bytes off ≡ Some name → field_at 4 bytes (off + 4) ≡ Some kind →
    field_at 8 bytes (off + 8) ≡ Some flags → field_at 8 bytes (off + 16) ≡ Some addr →
    field_at 8 bytes (off + 24) ≡ Some offset → field_at 8 bytes (off + 32) ≡ Some size →
    field_at 4 bytes (off + 40) ≡ Some link → field_at 4 bytes (off + 44) ≡ Some info →
    field_at 8 bytes (off + 48) ≡ Some addralign → field_at 8 bytes (off + 56) ≡ Some entsize
    → SectionFits (section_of name kind flags addr offset size link info addralign entsize) × Has bytes off (section_bytes (section_of name kind flags addr offset size link info addralign entsize))
unfolding section_bytes
section_stands bytes off name kind flags addr offset size link info addralign entsize are name_found kind_found flags_found addr_found offset_found size_found link_found info_found addralign_found entsize_found =
    let name_has = has_field 4 bytes off name are (leb-true 1 4 refl) name_found in
    let kind_has = has_field 4 bytes (off + 4) kind are (leb-true 1 4 refl) kind_found in
    let flags_has = has_field 8 bytes (off + 8) flags are (leb-true 1 8 refl) flags_found in
    let addr_has = has_field 8 bytes (off + 16) addr are (leb-true 1 8 refl) addr_found in
    let offset_has = has_field 8 bytes (off + 24) offset are (leb-true 1 8 refl) offset_found in
    let size_has = has_field 8 bytes (off + 32) size are (leb-true 1 8 refl) size_found in
    let link_has = has_field 4 bytes (off + 40) link are (leb-true 1 4 refl) link_found in
    let info_has = has_field 4 bytes (off + 44) info are (leb-true 1 4 refl) info_found in
    let addralign_has = has_field 8 bytes (off + 48) addralign are (leb-true 1 8 refl) addralign_found in
    let entsize_has = has_field 8 bytes (off + 56) entsize are (leb-true 1 8 refl) entsize_found in
    let to_name = length-field 4 name in
    let to_kind = longer _ (field 4 kind) 4 4 to_name (length-field 4 kind) in
    let to_flags = longer _ (field 8 flags) 8 8 to_kind (length-field 8 flags) in
    let to_addr = longer _ (field 8 addr) 16 8 to_flags (length-field 8 addr) in
    let to_offset = longer _ (field 8 offset) 24 8 to_addr (length-field 8 offset) in
    let to_size = longer _ (field 8 size) 32 8 to_offset (length-field 8 size) in
    let to_link = longer _ (field 4 link) 40 4 to_size (length-field 4 link) in
    let to_info = longer _ (field 4 info) 44 4 to_link (length-field 4 info) in
    let to_addralign = longer _ (field 8 addralign) 48 8 to_info (length-field 8 addralign) in
    let with_kind = Has-join bytes off (off + 4) 4 _ (field 4 kind) to_name refl name_has.1 kind_has.1 in
    let with_flags = Has-join bytes off (off + 8) 8 _ (field 8 flags) to_kind refl with_kind flags_has.1 in
    let with_addr = Has-join bytes off (off + 16) 16 _ (field 8 addr) to_flags refl with_flags addr_has.1 in
    let with_offset = Has-join bytes off (off + 24) 24 _ (field 8 offset) to_addr refl with_addr offset_has.1 in
    let with_size = Has-join bytes off (off + 32) 32 _ (field 8 size) to_offset refl with_offset size_has.1 in
    let with_link = Has-join bytes off (off + 40) 40 _ (field 4 link) to_size refl with_size link_has.1 in
    let with_info = Has-join bytes off (off + 44) 44 _ (field 4 info) to_link refl with_link info_has.1 in
    let with_addralign = Has-join bytes off (off + 48) 48 _ (field 8 addralign) to_info refl with_info addralign_has.1 in
    let with_entsize = Has-join bytes off (off + 56) 56 _ (field 8 entsize) to_addralign refl with_addralign entsize_has.1 in
    (record { name = name_has.0; kind = kind_has.0; flags = flags_has.0; addr = addr_has.0; offset = offset_has.0; size = size_has.0; link = link_has.0; info = info_has.0; addralign = addralign_has.0; entsize = entsize_has.0 }, with_entsize)

section_written : (s : Section) (bytes : List ℕ) (off : ℕ) → AreBytes bytes → section_at bytes off ≡ Some s →
    SectionFits s × Has bytes off (section_bytes s)
unfolding section_at
section_written s bytes off are found =
    let name = bind_some (field_at 4 bytes off) _ s found in
    let kind = bind_some (field_at 4 bytes (off + 4)) _ s name.2 in
    let flags = bind_some (field_at 8 bytes (off + 8)) _ s kind.2 in
    let addr = bind_some (field_at 8 bytes (off + 16)) _ s flags.2 in
    let offset = bind_some (field_at 8 bytes (off + 24)) _ s addr.2 in
    let size = bind_some (field_at 8 bytes (off + 32)) _ s offset.2 in
    let link = bind_some (field_at 4 bytes (off + 40)) _ s size.2 in
    let info = bind_some (field_at 4 bytes (off + 44)) _ s link.2 in
    let addralign = bind_some (field_at 8 bytes (off + 48)) _ s info.2 in
    let entsize = bind_some (field_at 8 bytes (off + 56)) _ s addralign.2 in
    let same = some_is (section_of name.0 kind.0 flags.0 addr.0 offset.0 size.0 link.0 info.0 addralign.0 entsize.0) s entsize.2 in
    subst (λ (t : Section). SectionFits t × Has bytes off (section_bytes t)) same (section_stands bytes off name.0 kind.0 flags.0 addr.0 offset.0 size.0 link.0 info.0 addralign.0 entsize.0 are name.1 kind.1 flags.1 addr.1 offset.1 size.1 link.1 info.1 addralign.1 entsize.1)

pub section_is_read_as_written : IsReadAsWritten SectionFits section_bytes section_at section_size
section_is_read_as_written = record { sized = section_sized; read = section_read; written = section_written }

-- ---- a program header

segment_sized : (s : Segment) → SegmentFits s → length (segment_bytes s) ≡ segment_size
unfolding segment_bytes
segment_sized s fits =
    let to_kind = length-field 4 s.kind in
    let to_flags = longer _ (field 4 s.flags) 4 4 to_kind (length-field 4 s.flags) in
    let to_offset = longer _ (field 8 s.offset) 8 8 to_flags (length-field 8 s.offset) in
    let to_vaddr = longer _ (field 8 s.vaddr) 16 8 to_offset (length-field 8 s.vaddr) in
    let to_paddr = longer _ (field 8 s.paddr) 24 8 to_vaddr (length-field 8 s.paddr) in
    let to_filesz = longer _ (field 8 s.filesz) 32 8 to_paddr (length-field 8 s.filesz) in
    let to_memsz = longer _ (field 8 s.memsz) 40 8 to_filesz (length-field 8 s.memsz) in
    let to_align = longer _ (field 8 s.align) 48 8 to_memsz (length-field 8 s.align) in
    to_align

segment_read : (s : Segment) (bytes : List ℕ) (off : ℕ) → SegmentFits s → Has bytes off (segment_bytes s) → segment_at bytes off ≡ Some s
unfolding segment_bytes segment_at
segment_read s bytes off fits stands =
    let to_kind = length-field 4 s.kind in
    let to_flags = longer _ (field 4 s.flags) 4 4 to_kind (length-field 4 s.flags) in
    let to_offset = longer _ (field 8 s.offset) 8 8 to_flags (length-field 8 s.offset) in
    let to_vaddr = longer _ (field 8 s.vaddr) 16 8 to_offset (length-field 8 s.vaddr) in
    let to_paddr = longer _ (field 8 s.paddr) 24 8 to_vaddr (length-field 8 s.paddr) in
    let to_filesz = longer _ (field 8 s.filesz) 32 8 to_paddr (length-field 8 s.filesz) in
    let to_memsz = longer _ (field 8 s.memsz) 40 8 to_filesz (length-field 8 s.memsz) in
    let align_found = takes_last bytes off 48 8 _ s.align to_memsz fits.align stands in
    let memsz_found = takes_last bytes off 40 8 _ s.memsz to_filesz fits.memsz align_found.1 in
    let filesz_found = takes_last bytes off 32 8 _ s.filesz to_paddr fits.filesz memsz_found.1 in
    let paddr_found = takes_last bytes off 24 8 _ s.paddr to_vaddr fits.paddr filesz_found.1 in
    let vaddr_found = takes_last bytes off 16 8 _ s.vaddr to_offset fits.vaddr paddr_found.1 in
    let offset_found = takes_last bytes off 8 8 _ s.offset to_flags fits.offset vaddr_found.1 in
    let flags_found = takes_last bytes off 4 4 _ s.flags to_kind fits.flags offset_found.1 in
    let kind_found = Has-field bytes off 4 s.kind fits.kind flags_found.1 in
    rw (kind_found, flags_found.0, offset_found.0, vaddr_found.0, paddr_found.0, filesz_found.0, memsz_found.0, align_found.0) refl

abbrev segment_of : ℕ → ℕ → ℕ → ℕ → ℕ → ℕ → ℕ → ℕ → Segment
segment_of kind flags offset vaddr paddr filesz memsz align = record { kind = kind; flags = flags; offset = offset; vaddr = vaddr; paddr = paddr; filesz = filesz; memsz = memsz; align = align }

segment_stands : (bytes : List ℕ) (off : ℕ) (kind flags offset vaddr paddr filesz memsz align : ℕ) → AreBytes bytes →
    field_at 4 bytes off ≡ Some kind → field_at 4 bytes (off + 4) ≡ Some flags → field_at 8 bytes (off + 8) ≡ Some offset →
    field_at 8 bytes (off + 16) ≡ Some vaddr → field_at 8 bytes (off + 24) ≡ Some paddr →
    field_at 8 bytes (off + 32) ≡ Some filesz → field_at 8 bytes (off + 40) ≡ Some memsz →
    field_at 8 bytes (off + 48) ≡ Some align
    → SegmentFits (segment_of kind flags offset vaddr paddr filesz memsz align) × Has bytes off (segment_bytes (segment_of kind flags offset vaddr paddr filesz memsz align))
unfolding segment_bytes
segment_stands bytes off kind flags offset vaddr paddr filesz memsz align are kind_found flags_found offset_found vaddr_found paddr_found filesz_found memsz_found align_found =
    let kind_has = has_field 4 bytes off kind are (leb-true 1 4 refl) kind_found in
    let flags_has = has_field 4 bytes (off + 4) flags are (leb-true 1 4 refl) flags_found in
    let offset_has = has_field 8 bytes (off + 8) offset are (leb-true 1 8 refl) offset_found in
    let vaddr_has = has_field 8 bytes (off + 16) vaddr are (leb-true 1 8 refl) vaddr_found in
    let paddr_has = has_field 8 bytes (off + 24) paddr are (leb-true 1 8 refl) paddr_found in
    let filesz_has = has_field 8 bytes (off + 32) filesz are (leb-true 1 8 refl) filesz_found in
    let memsz_has = has_field 8 bytes (off + 40) memsz are (leb-true 1 8 refl) memsz_found in
    let align_has = has_field 8 bytes (off + 48) align are (leb-true 1 8 refl) align_found in
    let to_kind = length-field 4 kind in
    let to_flags = longer _ (field 4 flags) 4 4 to_kind (length-field 4 flags) in
    let to_offset = longer _ (field 8 offset) 8 8 to_flags (length-field 8 offset) in
    let to_vaddr = longer _ (field 8 vaddr) 16 8 to_offset (length-field 8 vaddr) in
    let to_paddr = longer _ (field 8 paddr) 24 8 to_vaddr (length-field 8 paddr) in
    let to_filesz = longer _ (field 8 filesz) 32 8 to_paddr (length-field 8 filesz) in
    let to_memsz = longer _ (field 8 memsz) 40 8 to_filesz (length-field 8 memsz) in
    let with_flags = Has-join bytes off (off + 4) 4 _ (field 4 flags) to_kind refl kind_has.1 flags_has.1 in
    let with_offset = Has-join bytes off (off + 8) 8 _ (field 8 offset) to_flags refl with_flags offset_has.1 in
    let with_vaddr = Has-join bytes off (off + 16) 16 _ (field 8 vaddr) to_offset refl with_offset vaddr_has.1 in
    let with_paddr = Has-join bytes off (off + 24) 24 _ (field 8 paddr) to_vaddr refl with_vaddr paddr_has.1 in
    let with_filesz = Has-join bytes off (off + 32) 32 _ (field 8 filesz) to_paddr refl with_paddr filesz_has.1 in
    let with_memsz = Has-join bytes off (off + 40) 40 _ (field 8 memsz) to_filesz refl with_filesz memsz_has.1 in
    let with_align = Has-join bytes off (off + 48) 48 _ (field 8 align) to_memsz refl with_memsz align_has.1 in
    (record { kind = kind_has.0; flags = flags_has.0; offset = offset_has.0; vaddr = vaddr_has.0; paddr = paddr_has.0; filesz = filesz_has.0; memsz = memsz_has.0; align = align_has.0 }, with_align)

segment_written : (s : Segment) (bytes : List ℕ) (off : ℕ) → AreBytes bytes → segment_at bytes off ≡ Some s →
    SegmentFits s × Has bytes off (segment_bytes s)
unfolding segment_at
segment_written s bytes off are found =
    let kind = bind_some (field_at 4 bytes off) _ s found in
    let flags = bind_some (field_at 4 bytes (off + 4)) _ s kind.2 in
    let offset = bind_some (field_at 8 bytes (off + 8)) _ s flags.2 in
    let vaddr = bind_some (field_at 8 bytes (off + 16)) _ s offset.2 in
    let paddr = bind_some (field_at 8 bytes (off + 24)) _ s vaddr.2 in
    let filesz = bind_some (field_at 8 bytes (off + 32)) _ s paddr.2 in
    let memsz = bind_some (field_at 8 bytes (off + 40)) _ s filesz.2 in
    let align = bind_some (field_at 8 bytes (off + 48)) _ s memsz.2 in
    let same = some_is (segment_of kind.0 flags.0 offset.0 vaddr.0 paddr.0 filesz.0 memsz.0 align.0) s align.2 in
    subst (λ (t : Segment). SegmentFits t × Has bytes off (segment_bytes t)) same (segment_stands bytes off kind.0 flags.0 offset.0 vaddr.0 paddr.0 filesz.0 memsz.0 align.0 are kind.1 flags.1 offset.1 vaddr.1 paddr.1 filesz.1 memsz.1 align.1)

pub segment_is_read_as_written : IsReadAsWritten SegmentFits segment_bytes segment_at segment_size
segment_is_read_as_written = record { sized = segment_sized; read = segment_read; written = segment_written }

-- ---- a symbol

symbol_sized : (s : Sym) → SymFits s → length (symbol_bytes s) ≡ symbol_size
unfolding symbol_bytes
symbol_sized s fits =
    let to_name = length-field 4 s.name in
    let to_info = longer _ (field 1 s.info) 4 1 to_name (length-field 1 s.info) in
    let to_other = longer _ (field 1 s.other) 5 1 to_info (length-field 1 s.other) in
    let to_shndx = longer _ (field 2 s.shndx) 6 2 to_other (length-field 2 s.shndx) in
    let to_value = longer _ (field 8 s.value) 8 8 to_shndx (length-field 8 s.value) in
    let to_size = longer _ (field 8 s.size) 16 8 to_value (length-field 8 s.size) in
    to_size

symbol_read : (s : Sym) (bytes : List ℕ) (off : ℕ) → SymFits s → Has bytes off (symbol_bytes s) → symbol_at bytes off ≡ Some s
unfolding symbol_bytes symbol_at
symbol_read s bytes off fits stands =
    let to_name = length-field 4 s.name in
    let to_info = longer _ (field 1 s.info) 4 1 to_name (length-field 1 s.info) in
    let to_other = longer _ (field 1 s.other) 5 1 to_info (length-field 1 s.other) in
    let to_shndx = longer _ (field 2 s.shndx) 6 2 to_other (length-field 2 s.shndx) in
    let to_value = longer _ (field 8 s.value) 8 8 to_shndx (length-field 8 s.value) in
    let size_found = takes_last bytes off 16 8 _ s.size to_value fits.size stands in
    let value_found = takes_last bytes off 8 8 _ s.value to_shndx fits.value size_found.1 in
    let shndx_found = takes_last bytes off 6 2 _ s.shndx to_other fits.shndx value_found.1 in
    let other_found = takes_last bytes off 5 1 _ s.other to_info fits.other shndx_found.1 in
    let info_found = takes_last bytes off 4 1 _ s.info to_name fits.info other_found.1 in
    let name_found = Has-field bytes off 4 s.name fits.name info_found.1 in
    rw (name_found, info_found.0, other_found.0, shndx_found.0, value_found.0, size_found.0) refl

abbrev symbol_of : ℕ → ℕ → ℕ → ℕ → ℕ → ℕ → Sym
symbol_of name info other shndx value size = record { name = name; info = info; other = other; shndx = shndx; value = value; size = size }

symbol_stands : (bytes : List ℕ) (off : ℕ) (name info other shndx value size : ℕ) → AreBytes bytes →
    field_at 4 bytes off ≡ Some name → field_at 1 bytes (off + 4) ≡ Some info → field_at 1 bytes (off + 5) ≡ Some other →
    field_at 2 bytes (off + 6) ≡ Some shndx → field_at 8 bytes (off + 8) ≡ Some value →
    field_at 8 bytes (off + 16) ≡ Some size
    → SymFits (symbol_of name info other shndx value size) × Has bytes off (symbol_bytes (symbol_of name info other shndx value size))
unfolding symbol_bytes
symbol_stands bytes off name info other shndx value size are name_found info_found other_found shndx_found value_found size_found =
    let name_has = has_field 4 bytes off name are (leb-true 1 4 refl) name_found in
    let info_has = has_field 1 bytes (off + 4) info are (leb-true 1 1 refl) info_found in
    let other_has = has_field 1 bytes (off + 5) other are (leb-true 1 1 refl) other_found in
    let shndx_has = has_field 2 bytes (off + 6) shndx are (leb-true 1 2 refl) shndx_found in
    let value_has = has_field 8 bytes (off + 8) value are (leb-true 1 8 refl) value_found in
    let size_has = has_field 8 bytes (off + 16) size are (leb-true 1 8 refl) size_found in
    let to_name = length-field 4 name in
    let to_info = longer _ (field 1 info) 4 1 to_name (length-field 1 info) in
    let to_other = longer _ (field 1 other) 5 1 to_info (length-field 1 other) in
    let to_shndx = longer _ (field 2 shndx) 6 2 to_other (length-field 2 shndx) in
    let to_value = longer _ (field 8 value) 8 8 to_shndx (length-field 8 value) in
    let with_info = Has-join bytes off (off + 4) 4 _ (field 1 info) to_name refl name_has.1 info_has.1 in
    let with_other = Has-join bytes off (off + 5) 5 _ (field 1 other) to_info refl with_info other_has.1 in
    let with_shndx = Has-join bytes off (off + 6) 6 _ (field 2 shndx) to_other refl with_other shndx_has.1 in
    let with_value = Has-join bytes off (off + 8) 8 _ (field 8 value) to_shndx refl with_shndx value_has.1 in
    let with_size = Has-join bytes off (off + 16) 16 _ (field 8 size) to_value refl with_value size_has.1 in
    (record { name = name_has.0; info = info_has.0; other = other_has.0; shndx = shndx_has.0; value = value_has.0; size = size_has.0 }, with_size)

symbol_written : (s : Sym) (bytes : List ℕ) (off : ℕ) → AreBytes bytes → symbol_at bytes off ≡ Some s → SymFits s × Has bytes off (symbol_bytes s)
unfolding symbol_at
symbol_written s bytes off are found =
    let name = bind_some (field_at 4 bytes off) _ s found in
    let info = bind_some (field_at 1 bytes (off + 4)) _ s name.2 in
    let other = bind_some (field_at 1 bytes (off + 5)) _ s info.2 in
    let shndx = bind_some (field_at 2 bytes (off + 6)) _ s other.2 in
    let value = bind_some (field_at 8 bytes (off + 8)) _ s shndx.2 in
    let size = bind_some (field_at 8 bytes (off + 16)) _ s value.2 in
    let same = some_is (symbol_of name.0 info.0 other.0 shndx.0 value.0 size.0) s size.2 in
    subst (λ (t : Sym). SymFits t × Has bytes off (symbol_bytes t)) same (symbol_stands bytes off name.0 info.0 other.0 shndx.0 value.0 size.0 are name.1 info.1 other.1 shndx.1 value.1 size.1)

pub symbol_is_read_as_written : IsReadAsWritten SymFits symbol_bytes symbol_at symbol_size
symbol_is_read_as_written = record { sized = symbol_sized; read = symbol_read; written = symbol_written }

-- ---- a relocation with an addend

rela_sized : (s : Rela) → RelaFits s → length (rela_bytes s) ≡ rela_size
unfolding rela_bytes
rela_sized s fits =
    let to_offset = length-field 8 s.offset in
    let to_info = longer _ (field 8 s.info) 8 8 to_offset (length-field 8 s.info) in
    let to_addend = longer _ (field 8 (cast_unsigned w64 s.addend)) 16 8 to_info (length-field 8 (cast_unsigned w64 s.addend)) in
    to_addend

rela_read : (s : Rela) (bytes : List ℕ) (off : ℕ) → RelaFits s → Has bytes off (rela_bytes s) → rela_at bytes off ≡ Some s
unfolding rela_bytes rela_at
rela_read s bytes off fits stands =
    let to_offset = length-field 8 s.offset in
    let to_info = longer _ (field 8 s.info) 8 8 to_offset (length-field 8 s.info) in
    let addend_found = takes_last bytes off 16 8 _ (cast_unsigned w64 s.addend) to_info (signed_fits s.addend fits.addend) stands in
    let info_found = takes_last bytes off 8 8 _ s.info to_offset fits.info addend_found.1 in
    let offset_found = Has-field bytes off 8 s.offset fits.offset info_found.1 in
    rw (offset_found, info_found.0, addend_found.0, signed_again s.addend fits.addend) refl

abbrev rela_of : ℕ → ℕ → ℕ → Rela
rela_of offset info addend = record { offset = offset; info = info; addend = cast_signed w64 addend }

rela_stands : (bytes : List ℕ) (off : ℕ) (offset info addend : ℕ) → AreBytes bytes → field_at 8 bytes off ≡ Some offset →
    field_at 8 bytes (off + 8) ≡ Some info → field_at 8 bytes (off + 16) ≡ Some addend
    → RelaFits (rela_of offset info addend) × Has bytes off (rela_bytes (rela_of offset info addend))
unfolding rela_bytes
rela_stands bytes off offset info addend are offset_found info_found addend_found =
    let offset_has = has_field 8 bytes off offset are (leb-true 1 8 refl) offset_found in
    let info_has = has_field 8 bytes (off + 8) info are (leb-true 1 8 refl) info_found in
    let addend_has = has_field 8 bytes (off + 16) addend are (leb-true 1 8 refl) addend_found in
    let addend_bits : Has bytes (off + 16) (field 8 (cast_unsigned w64 (cast_signed w64 addend))) = rw (bits_again addend addend_has.0) addend_has.1 in
    let to_offset = length-field 8 offset in
    let to_info = longer _ (field 8 info) 8 8 to_offset (length-field 8 info) in
    let with_info = Has-join bytes off (off + 8) 8 _ (field 8 info) to_offset refl offset_has.1 info_has.1 in
    let with_addend = Has-join bytes off (off + 16) 16 _ (field 8 (cast_unsigned w64 (cast_signed w64 addend))) to_info refl with_info addend_bits in
    (record { offset = offset_has.0; info = info_has.0; addend = bits_fit addend addend_has.0 }, with_addend)

rela_written : (s : Rela) (bytes : List ℕ) (off : ℕ) → AreBytes bytes → rela_at bytes off ≡ Some s → RelaFits s × Has bytes off (rela_bytes s)
unfolding rela_at
rela_written s bytes off are found =
    let offset = bind_some (field_at 8 bytes off) _ s found in
    let info = bind_some (field_at 8 bytes (off + 8)) _ s offset.2 in
    let addend = bind_some (field_at 8 bytes (off + 16)) _ s info.2 in
    let same = some_is (rela_of offset.0 info.0 addend.0) s addend.2 in
    subst (λ (t : Rela). RelaFits t × Has bytes off (rela_bytes t)) same (rela_stands bytes off offset.0 info.0 addend.0 are offset.1 info.1 addend.1)

pub rela_is_read_as_written : IsReadAsWritten RelaFits rela_bytes rela_at rela_size
rela_is_read_as_written = record { sized = rela_sized; read = rela_read; written = rela_written }

-- ---- an entry of the dynamic section

dynamic_sized : (s : Dynamic) → DynamicFits s → length (dynamic_bytes s) ≡ dynamic_size
unfolding dynamic_bytes
dynamic_sized s fits =
    let to_tag = length-field 8 (cast_unsigned w64 s.tag) in
    let to_val = longer _ (field 8 s.val) 8 8 to_tag (length-field 8 s.val) in
    to_val

dynamic_read : (s : Dynamic) (bytes : List ℕ) (off : ℕ) → DynamicFits s → Has bytes off (dynamic_bytes s) → dynamic_at bytes off ≡ Some s
unfolding dynamic_bytes dynamic_at
dynamic_read s bytes off fits stands =
    let to_tag = length-field 8 (cast_unsigned w64 s.tag) in
    let val_found = takes_last bytes off 8 8 _ s.val to_tag fits.val stands in
    let tag_found = Has-field bytes off 8 (cast_unsigned w64 s.tag) (signed_fits s.tag fits.tag) val_found.1 in
    rw (tag_found, val_found.0, signed_again s.tag fits.tag) refl

abbrev dynamic_of : ℕ → ℕ → Dynamic
dynamic_of tag val = record { tag = cast_signed w64 tag; val = val }

dynamic_stands : (bytes : List ℕ) (off : ℕ) (tag val : ℕ) → AreBytes bytes → field_at 8 bytes off ≡ Some tag → field_at 8 bytes (off + 8) ≡ Some val
    → DynamicFits (dynamic_of tag val) × Has bytes off (dynamic_bytes (dynamic_of tag val))
unfolding dynamic_bytes
dynamic_stands bytes off tag val are tag_found val_found =
    let tag_has = has_field 8 bytes off tag are (leb-true 1 8 refl) tag_found in
    let tag_bits : Has bytes off (field 8 (cast_unsigned w64 (cast_signed w64 tag))) = rw (bits_again tag tag_has.0) tag_has.1 in
    let val_has = has_field 8 bytes (off + 8) val are (leb-true 1 8 refl) val_found in
    let to_tag = length-field 8 (cast_unsigned w64 (cast_signed w64 tag)) in
    let with_val = Has-join bytes off (off + 8) 8 _ (field 8 val) to_tag refl tag_bits val_has.1 in
    (record { tag = bits_fit tag tag_has.0; val = val_has.0 }, with_val)

dynamic_written : (s : Dynamic) (bytes : List ℕ) (off : ℕ) → AreBytes bytes → dynamic_at bytes off ≡ Some s →
    DynamicFits s × Has bytes off (dynamic_bytes s)
unfolding dynamic_at
dynamic_written s bytes off are found =
    let tag = bind_some (field_at 8 bytes off) _ s found in
    let val = bind_some (field_at 8 bytes (off + 8)) _ s tag.2 in
    let same = some_is (dynamic_of tag.0 val.0) s val.2 in
    subst (λ (t : Dynamic). DynamicFits t × Has bytes off (dynamic_bytes t)) same (dynamic_stands bytes off tag.0 val.0 are tag.1 val.1)

pub dynamic_is_read_as_written : IsReadAsWritten DynamicFits dynamic_bytes dynamic_at dynamic_size
dynamic_is_read_as_written = record { sized = dynamic_sized; read = dynamic_read; written = dynamic_written }
