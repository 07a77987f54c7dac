-- The structs of an ELF64 file as plain records, each read at an offset and spelled, field by field in the order of the gABI.
use Rattle.std.specs.Prelude.{◌≡◌, ◌+◌, ◌<◌, ◌≤◌, ◌^◌, ℕ, ℤ, List, ◌++◌, length, take, drop, Option, Some, None, nat_le, if◌then◌else◌}
use Rattle.std.specs.Int.{w64, cast_signed, cast_unsigned}
use Rattle.pw_base.specs.Field.{field, field_at}

-- steps that read, each of which may pass the end: where one does, nothing is read
infixl 10 ◌>>=◌
abbrev pub ◌>>=◌ : {A B : Type 0} → Option A → (A → Option B) → Option B
(Some x) >>= f = f x
None >>= f = None

-- so many bytes at an offset, where they are all there
unfoldable pub slice_at : ℕ → List ℕ → ℕ → Option (List ℕ)
slice_at count bytes off = if nat_le (off + count) (length bytes) then Some (take count (drop off bytes)) else None

-- the file header (gABI, "ELF Header")
pub record Header : Type 0 where
  pub ident : List ℕ
  pub kind : ℕ
  pub machine : ℕ
  pub version : ℕ
  pub entry : ℕ
  pub phoff : ℕ
  pub shoff : ℕ
  pub flags : ℕ
  pub ehsize : ℕ
  pub phentsize : ℕ
  pub phnum : ℕ
  pub shentsize : ℕ
  pub shnum : ℕ
  pub shstrndx : ℕ

-- how many bytes the file header has
abbrev pub header_size : ℕ
header_size = 64

-- the bytes of the file header: its fields, one after another
unfoldable pub header_bytes : Header → List ℕ
header_bytes s =
    s.ident ++ field 2 s.kind ++ field 2 s.machine ++ field 4 s.version ++ field 8 s.entry ++ field 8 s.phoff
    ++ field 8 s.shoff ++ field 4 s.flags ++ field 2 s.ehsize ++ field 2 s.phentsize ++ field 2 s.phnum
    ++ field 2 s.shentsize ++ field 2 s.shnum ++ field 2 s.shstrndx

-- the file header at an offset, where all of its bytes are there
unfoldable pub header_at : List ℕ → ℕ → Option Header
header_at bytes off = do
  ident_is ← slice_at 16 bytes off
  kind_is ← field_at 2 bytes (off + 16)
  machine_is ← field_at 2 bytes (off + 18)
  version_is ← field_at 4 bytes (off + 20)
  entry_is ← field_at 8 bytes (off + 24)
  phoff_is ← field_at 8 bytes (off + 32)
  shoff_is ← field_at 8 bytes (off + 40)
  flags_is ← field_at 4 bytes (off + 48)
  ehsize_is ← field_at 2 bytes (off + 52)
  phentsize_is ← field_at 2 bytes (off + 54)
  phnum_is ← field_at 2 bytes (off + 56)
  shentsize_is ← field_at 2 bytes (off + 58)
  shnum_is ← field_at 2 bytes (off + 60)
  shstrndx_is ← field_at 2 bytes (off + 62)
  Some (record {
    ident = ident_is;
    kind = kind_is;
    machine = machine_is;
    version = version_is;
    entry = entry_is;
    phoff = phoff_is;
    shoff = shoff_is;
    flags = flags_is;
    ehsize = ehsize_is;
    phentsize = phentsize_is;
    phnum = phnum_is;
    shentsize = shentsize_is;
    shnum = shnum_is;
    shstrndx = shstrndx_is;
  })

-- a section header (gABI, "Sections")
pub record Section : Type 0 where
  pub name : ℕ
  pub kind : ℕ
  pub flags : ℕ
  pub addr : ℕ
  pub offset : ℕ
  pub size : ℕ
  pub link : ℕ
  pub info : ℕ
  pub addralign : ℕ
  pub entsize : ℕ

-- how many bytes a section header has
abbrev pub section_size : ℕ
section_size = 64

-- the bytes of a section header: its fields, one after another
unfoldable pub section_bytes : Section → List ℕ
section_bytes s =
    field 4 s.name ++ field 4 s.kind ++ field 8 s.flags ++ field 8 s.addr ++ field 8 s.offset ++ field 8 s.size
    ++ field 4 s.link ++ field 4 s.info ++ field 8 s.addralign ++ field 8 s.entsize

-- a section header at an offset, where all of its bytes are there
unfoldable pub section_at : List ℕ → ℕ → Option Section
section_at bytes off = do
  name_is ← field_at 4 bytes off
  kind_is ← field_at 4 bytes (off + 4)
  flags_is ← field_at 8 bytes (off + 8)
  addr_is ← field_at 8 bytes (off + 16)
  offset_is ← field_at 8 bytes (off + 24)
  size_is ← field_at 8 bytes (off + 32)
  link_is ← field_at 4 bytes (off + 40)
  info_is ← field_at 4 bytes (off + 44)
  addralign_is ← field_at 8 bytes (off + 48)
  entsize_is ← field_at 8 bytes (off + 56)
  Some (record {
    name = name_is;
    kind = kind_is;
    flags = flags_is;
    addr = addr_is;
    offset = offset_is;
    size = size_is;
    link = link_is;
    info = info_is;
    addralign = addralign_is;
    entsize = entsize_is;
  })

-- a program header (gABI, "Program Header")
pub record Segment : Type 0 where
  pub kind : ℕ
  pub flags : ℕ
  pub offset : ℕ
  pub vaddr : ℕ
  pub paddr : ℕ
  pub filesz : ℕ
  pub memsz : ℕ
  pub align : ℕ

-- how many bytes a program header has
abbrev pub segment_size : ℕ
segment_size = 56

-- the bytes of a program header: its fields, one after another
unfoldable pub segment_bytes : Segment → List ℕ
segment_bytes s =
    field 4 s.kind ++ field 4 s.flags ++ field 8 s.offset ++ field 8 s.vaddr ++ field 8 s.paddr ++ field 8 s.filesz
    ++ field 8 s.memsz ++ field 8 s.align

-- a program header at an offset, where all of its bytes are there
unfoldable pub segment_at : List ℕ → ℕ → Option Segment
segment_at bytes off = do
  kind_is ← field_at 4 bytes off
  flags_is ← field_at 4 bytes (off + 4)
  offset_is ← field_at 8 bytes (off + 8)
  vaddr_is ← field_at 8 bytes (off + 16)
  paddr_is ← field_at 8 bytes (off + 24)
  filesz_is ← field_at 8 bytes (off + 32)
  memsz_is ← field_at 8 bytes (off + 40)
  align_is ← field_at 8 bytes (off + 48)
  Some (record {
    kind = kind_is;
    flags = flags_is;
    offset = offset_is;
    vaddr = vaddr_is;
    paddr = paddr_is;
    filesz = filesz_is;
    memsz = memsz_is;
    align = align_is;
  })

-- a symbol (gABI, "Symbol Table")
pub record Sym : Type 0 where
  pub name : ℕ
  pub info : ℕ
  pub other : ℕ
  pub shndx : ℕ
  pub value : ℕ
  pub size : ℕ

-- how many bytes a symbol has
abbrev pub symbol_size : ℕ
symbol_size = 24

-- the bytes of a symbol: its fields, one after another
unfoldable pub symbol_bytes : Sym → List ℕ
symbol_bytes s = field 4 s.name ++ field 1 s.info ++ field 1 s.other ++ field 2 s.shndx ++ field 8 s.value ++ field 8 s.size

-- a symbol at an offset, where all of its bytes are there
unfoldable pub symbol_at : List ℕ → ℕ → Option Sym
symbol_at bytes off = do
  name_is ← field_at 4 bytes off
  info_is ← field_at 1 bytes (off + 4)
  other_is ← field_at 1 bytes (off + 5)
  shndx_is ← field_at 2 bytes (off + 6)
  value_is ← field_at 8 bytes (off + 8)
  size_is ← field_at 8 bytes (off + 16)
  Some (record { name = name_is; info = info_is; other = other_is; shndx = shndx_is; value = value_is; size = size_is })

-- a relocation with an addend (gABI, "Relocation")
pub record Rela : Type 0 where
  pub offset : ℕ
  pub info : ℕ
  pub addend : ℤ

-- how many bytes a relocation with an addend has
abbrev pub rela_size : ℕ
rela_size = 24

-- the bytes of a relocation with an addend: its fields, one after another
unfoldable pub rela_bytes : Rela → List ℕ
rela_bytes s = field 8 s.offset ++ field 8 s.info ++ field 8 (cast_unsigned w64 s.addend)

-- a relocation with an addend at an offset, where all of its bytes are there
unfoldable pub rela_at : List ℕ → ℕ → Option Rela
rela_at bytes off = do
  offset_is ← field_at 8 bytes off
  info_is ← field_at 8 bytes (off + 8)
  addend_is ← field_at 8 bytes (off + 16)
  Some (record { offset = offset_is; info = info_is; addend = cast_signed w64 addend_is })

-- an entry of the dynamic section (gABI, "Dynamic Section")
pub record Dynamic : Type 0 where
  pub tag : ℤ
  pub val : ℕ

-- how many bytes an entry of the dynamic section has
abbrev pub dynamic_size : ℕ
dynamic_size = 16

-- the bytes of an entry of the dynamic section: its fields, one after another
unfoldable pub dynamic_bytes : Dynamic → List ℕ
dynamic_bytes s = field 8 (cast_unsigned w64 s.tag) ++ field 8 s.val

-- an entry of the dynamic section at an offset, where all of its bytes are there
unfoldable pub dynamic_at : List ℕ → ℕ → Option Dynamic
dynamic_at bytes off = do
  tag_is ← field_at 8 bytes off
  val_is ← field_at 8 bytes (off + 8)
  Some (record { tag = cast_signed w64 tag_is; val = val_is })
