-- The numbers that the gABI and the RISC-V psABI give to kinds, flags, tags and relocations, in the order of the standards.
use Rattle.std.specs.Prelude.{ℕ, List, [], ◌∷◌, ◌++◌, codes}

-- ---- Types of files, e_type (gABI, "ELF Header")

-- a relocatable file, which the linker takes
abbrev pub et_rel : ℕ
et_rel = 1

-- a shared object file
abbrev pub et_dyn : ℕ
et_dyn = 3

-- ---- The machine, e_machine (psABI, "File Header")

-- RISC-V
abbrev pub em_riscv : ℕ
em_riscv = 243

-- ---- The version, e_version (gABI, "ELF Header")

-- the current version of the format
abbrev pub ev_current : ℕ
ev_current = 1

-- ---- Identification, e_ident (gABI, "ELF Identification")

-- the magic number: 0x7f and the letters ELF
abbrev pub elfmag : List ℕ
elfmag = 0x7f ∷ codes "ELF"

-- objects of 64 bits
abbrev pub elfclass64 : ℕ
elfclass64 = 2

-- numbers with their lowest byte first
abbrev pub elfdata2lsb : ℕ
elfdata2lsb = 1

-- the identification bytes: the magic number, class, encoding and version; no extensions, and padding of zeros
abbrev pub ident : List ℕ
ident = elfmag ++ elfclass64 ∷ elfdata2lsb ∷ ev_current ∷ 0 ∷ 0 ∷ 0 ∷ 0 ∷ 0 ∷ 0 ∷ 0 ∷ 0 ∷ 0 ∷ []

-- ---- Special section indexes (gABI, "Sections")

-- no section, as the symbol of another file has it
abbrev pub shn_undef : ℕ
shn_undef = 0

-- ---- Types of sections, sh_type (gABI, "Sections")

-- no section: the header of index 0
abbrev pub sht_null : ℕ
sht_null = 0

-- contents whose meaning the program gives
abbrev pub sht_progbits : ℕ
sht_progbits = 1

-- the symbol table that the linker reads
abbrev pub sht_symtab : ℕ
sht_symtab = 2

-- a string table
abbrev pub sht_strtab : ℕ
sht_strtab = 3

-- relocations with addends
abbrev pub sht_rela : ℕ
sht_rela = 4

-- the hash table of the dynamic symbols
abbrev pub sht_hash : ℕ
sht_hash = 5

-- the dynamic section
abbrev pub sht_dynamic : ℕ
sht_dynamic = 6

-- no bytes in the file, zeros in memory
abbrev pub sht_nobits : ℕ
sht_nobits = 8

-- the symbol table that the loader reads
abbrev pub sht_dynsym : ℕ
sht_dynsym = 11

-- ---- Flags of sections, sh_flags (gABI, "Sections")

-- written while the program runs
abbrev pub shf_write : ℕ
shf_write = 1

-- in memory while the program runs
abbrev pub shf_alloc : ℕ
shf_alloc = 2

-- has instructions
abbrev pub shf_execinstr : ℕ
shf_execinstr = 4

-- ---- Bindings of symbols, the upper half of st_info (gABI, "Symbol Table")

-- seen in its own file alone
abbrev pub stb_local : ℕ
stb_local = 0

-- seen in all files
abbrev pub stb_global : ℕ
stb_global = 1

-- ---- Types of symbols, the lower half of st_info (gABI, "Symbol Table")

-- no type is said
abbrev pub stt_notype : ℕ
stt_notype = 0

-- a variable
abbrev pub stt_object : ℕ
stt_object = 1

-- a function
abbrev pub stt_func : ℕ
stt_func = 2

-- ---- Types of segments, p_type (gABI, "Program Header")

-- a part of the file that is loaded
abbrev pub pt_load : ℕ
pt_load = 1

-- the dynamic section
abbrev pub pt_dynamic : ℕ
pt_dynamic = 2

-- ---- Rights of segments, p_flags (gABI, "Program Header")

-- executed
abbrev pub pf_x : ℕ
pf_x = 1

-- written
abbrev pub pf_w : ℕ
pf_w = 2

-- read
abbrev pub pf_r : ℕ
pf_r = 4

-- ---- Tags of the dynamic section, d_tag (gABI, "Dynamic Section")

-- the end of the entries
abbrev pub dt_null : ℕ
dt_null = 0

-- the soname of a file that is needed, an offset in the string table
abbrev pub dt_needed : ℕ
dt_needed = 1

-- the address of the hash table
abbrev pub dt_hash : ℕ
dt_hash = 4

-- the address of the string table
abbrev pub dt_strtab : ℕ
dt_strtab = 5

-- the address of the symbol table
abbrev pub dt_symtab : ℕ
dt_symtab = 6

-- the address of the relocations
abbrev pub dt_rela : ℕ
dt_rela = 7

-- the bytes of the relocations
abbrev pub dt_relasz : ℕ
dt_relasz = 8

-- the bytes of one relocation
abbrev pub dt_relaent : ℕ
dt_relaent = 9

-- the bytes of the string table
abbrev pub dt_strsz : ℕ
dt_strsz = 10

-- the bytes of one symbol
abbrev pub dt_syment : ℕ
dt_syment = 11

-- the file's own soname, an offset in the string table
abbrev pub dt_soname : ℕ
dt_soname = 14

-- ---- Types of relocations, the lower half of r_info (psABI, "Relocations")

-- eight bytes: a symbol's address and the addend
abbrev pub r_riscv_64 : ℕ
r_riscv_64 = 2

-- eight bytes: the file's base and the addend
abbrev pub r_riscv_relative : ℕ
r_riscv_relative = 3

-- the upper 20 bits of the distance to the slot that holds the address of a symbol
abbrev pub r_riscv_got_hi20 : ℕ
r_riscv_got_hi20 = 20

-- the upper 20 bits of the distance to a symbol
abbrev pub r_riscv_pcrel_hi20 : ℕ
r_riscv_pcrel_hi20 = 23

-- the lower 12 bits of the distance whose upper bits stand at a label
abbrev pub r_riscv_pcrel_lo12_i : ℕ
r_riscv_pcrel_lo12_i = 24
