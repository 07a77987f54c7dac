-- The structs of the code as the plain records of the specification.
use Rattle.pw_base.specs.Structs as plain
use Rattle.pw_elf.specs.declared.header.Header as header_code
use Rattle.pw_elf.specs.declared.section.Section as section_code
use Rattle.pw_elf.specs.declared.segment.Segment as segment_code
use Rattle.pw_elf.specs.declared.symbol.Sym as symbol_code
use Rattle.pw_elf.specs.declared.rela.Rela as rela_code
use Rattle.pw_elf.specs.declared.dynamic.Dynamic as dynamic_code

-- the file header (gABI, "ELF Header")
abbrev pub header_of : header_code.Header → plain.Header
header_of s = record {
  ident = s.ident;
  kind = s.kind;
  machine = s.machine;
  version = s.version;
  entry = s.entry;
  phoff = s.phoff;
  shoff = s.shoff;
  flags = s.flags;
  ehsize = s.ehsize;
  phentsize = s.phentsize;
  phnum = s.phnum;
  shentsize = s.shentsize;
  shnum = s.shnum;
  shstrndx = s.shstrndx;
}

-- a section header (gABI, "Sections")
abbrev pub section_of : section_code.Section → plain.Section
section_of s = record {
  name = s.name;
  kind = s.kind;
  flags = s.flags;
  addr = s.addr;
  offset = s.offset;
  size = s.size;
  link = s.link;
  info = s.info;
  addralign = s.addralign;
  entsize = s.entsize;
}

-- a program header (gABI, "Program Header")
abbrev pub segment_of : segment_code.Segment → plain.Segment
segment_of s = record {
  kind = s.kind;
  flags = s.flags;
  offset = s.offset;
  vaddr = s.vaddr;
  paddr = s.paddr;
  filesz = s.filesz;
  memsz = s.memsz;
  align = s.align;
}

-- a symbol (gABI, "Symbol Table")
abbrev pub symbol_of : symbol_code.Sym → plain.Sym
symbol_of s = record { name = s.name; info = s.info; other = s.other; shndx = s.shndx; value = s.value; size = s.size }

-- a relocation with an addend (gABI, "Relocation")
abbrev pub rela_of : rela_code.Rela → plain.Rela
rela_of s = record { offset = s.offset; info = s.info; addend = s.addend }

-- an entry of the dynamic section (gABI, "Dynamic Section")
abbrev pub dynamic_of : dynamic_code.Dynamic → plain.Dynamic
dynamic_of s = record { tag = s.tag; val = s.val }
