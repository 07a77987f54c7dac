-- Each struct of an ELF64 file that is written is read back where it stands, and one that is read was written there.
use Rattle.std.specs.Prelude.{◌≡◌, ℕ, ◌<◌, ◌^◌, List, length, Option, Some, FitsSigned}
use Rattle.std.specs.Int.{w64}
use Rattle.pw_base.specs.Bytes.{AreBytes}
use Rattle.pw_base.specs.Laid.{Has}
use Rattle.pw_base.specs.Structs.{Header, Section, Segment, Sym, Rela, Dynamic}

-- the bytes of a struct and its reading fit each other: it has its size, it is read back at its offset, and what is read was written there
pub record IsReadAsWritten {S : Type 0} (Fits : S → Type 0) (spelled : S → List ℕ) (read_at : List ℕ → ℕ → Option S) (size : ℕ) : Type 0 where
  pub sized : (s : S) → Fits s → length (spelled s) ≡ size
  pub read : (s : S) (bytes : List ℕ) (off : ℕ) → Fits s → Has bytes off (spelled s) → read_at bytes off ≡ Some s
  pub written : (s : S) (bytes : List ℕ) (off : ℕ) → AreBytes bytes → read_at bytes off ≡ Some s → Fits s × Has bytes off (spelled s)

-- each field of the file header holds a value of its width
pub record HeaderFits (s : Header) : Type 0 where
  pub ident : length s.ident ≡ 16
  pub kind : s.kind < 2 ^ 16
  pub machine : s.machine < 2 ^ 16
  pub version : s.version < 2 ^ 32
  pub entry : s.entry < 2 ^ 64
  pub phoff : s.phoff < 2 ^ 64
  pub shoff : s.shoff < 2 ^ 64
  pub flags : s.flags < 2 ^ 32
  pub ehsize : s.ehsize < 2 ^ 16
  pub phentsize : s.phentsize < 2 ^ 16
  pub phnum : s.phnum < 2 ^ 16
  pub shentsize : s.shentsize < 2 ^ 16
  pub shnum : s.shnum < 2 ^ 16
  pub shstrndx : s.shstrndx < 2 ^ 16

-- each field of a section header holds a value of its width
pub record SectionFits (s : Section) : Type 0 where
  pub name : s.name < 2 ^ 32
  pub kind : s.kind < 2 ^ 32
  pub flags : s.flags < 2 ^ 64
  pub addr : s.addr < 2 ^ 64
  pub offset : s.offset < 2 ^ 64
  pub size : s.size < 2 ^ 64
  pub link : s.link < 2 ^ 32
  pub info : s.info < 2 ^ 32
  pub addralign : s.addralign < 2 ^ 64
  pub entsize : s.entsize < 2 ^ 64

-- each field of a program header holds a value of its width
pub record SegmentFits (s : Segment) : Type 0 where
  pub kind : s.kind < 2 ^ 32
  pub flags : s.flags < 2 ^ 32
  pub offset : s.offset < 2 ^ 64
  pub vaddr : s.vaddr < 2 ^ 64
  pub paddr : s.paddr < 2 ^ 64
  pub filesz : s.filesz < 2 ^ 64
  pub memsz : s.memsz < 2 ^ 64
  pub align : s.align < 2 ^ 64

-- each field of a symbol holds a value of its width
pub record SymFits (s : Sym) : Type 0 where
  pub name : s.name < 2 ^ 32
  pub info : s.info < 2 ^ 8
  pub other : s.other < 2 ^ 8
  pub shndx : s.shndx < 2 ^ 16
  pub value : s.value < 2 ^ 64
  pub size : s.size < 2 ^ 64

-- each field of a relocation with an addend holds a value of its width
pub record RelaFits (s : Rela) : Type 0 where
  pub offset : s.offset < 2 ^ 64
  pub info : s.info < 2 ^ 64
  pub addend : FitsSigned w64 s.addend

-- each field of an entry of the dynamic section holds a value of its width
pub record DynamicFits (s : Dynamic) : Type 0 where
  pub tag : FitsSigned w64 s.tag
  pub val : s.val < 2 ^ 64
