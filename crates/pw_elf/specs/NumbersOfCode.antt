-- The constants of the code are the numbers of the standards, and the sizes of structs are those of their bytes.
use Rattle.std.specs.Prelude.{◌≡◌, pos}
use Rattle.pw_base.specs.Structs.{header_size, section_size, segment_size, symbol_size, rela_size, dynamic_size}
use Rattle.pw_elf.specs.ElfNumbers as number
use Rattle.pw_elf.specs.declared.constants.TheConstants as code
use Rattle.pw_elf.specs.declared.header.TheConstants.Header as header_code
use Rattle.pw_elf.specs.declared.section.TheConstants.Section as section_code
use Rattle.pw_elf.specs.declared.segment.TheConstants.Segment as segment_code
use Rattle.pw_elf.specs.declared.symbol.TheConstants.Sym as symbol_code
use Rattle.pw_elf.specs.declared.rela.TheConstants.Rela as rela_code
use Rattle.pw_elf.specs.declared.dynamic.TheConstants.Dynamic as dynamic_code

-- each constant of the code is the number that stands in `ElfNumbers` under its name
pub record NumbersAgree : Type 0 where
  pub et_rel : code.ET_REL ≡ number.et_rel
  pub et_dyn : code.ET_DYN ≡ number.et_dyn
  pub em_riscv : code.EM_RISCV ≡ number.em_riscv
  pub ev_current : code.EV_CURRENT ≡ number.ev_current
  pub ident : code.IDENT ≡ number.ident
  pub shn_undef : code.SHN_UNDEF ≡ number.shn_undef
  pub sht_null : code.SHT_NULL ≡ number.sht_null
  pub sht_progbits : code.SHT_PROGBITS ≡ number.sht_progbits
  pub sht_symtab : code.SHT_SYMTAB ≡ number.sht_symtab
  pub sht_strtab : code.SHT_STRTAB ≡ number.sht_strtab
  pub sht_rela : code.SHT_RELA ≡ number.sht_rela
  pub sht_hash : code.SHT_HASH ≡ number.sht_hash
  pub sht_dynamic : code.SHT_DYNAMIC ≡ number.sht_dynamic
  pub sht_nobits : code.SHT_NOBITS ≡ number.sht_nobits
  pub sht_dynsym : code.SHT_DYNSYM ≡ number.sht_dynsym
  pub shf_write : code.SHF_WRITE ≡ number.shf_write
  pub shf_alloc : code.SHF_ALLOC ≡ number.shf_alloc
  pub shf_execinstr : code.SHF_EXECINSTR ≡ number.shf_execinstr
  pub stb_local : code.STB_LOCAL ≡ number.stb_local
  pub stb_global : code.STB_GLOBAL ≡ number.stb_global
  pub stt_notype : code.STT_NOTYPE ≡ number.stt_notype
  pub stt_object : code.STT_OBJECT ≡ number.stt_object
  pub stt_func : code.STT_FUNC ≡ number.stt_func
  pub pt_load : code.PT_LOAD ≡ number.pt_load
  pub pt_dynamic : code.PT_DYNAMIC ≡ number.pt_dynamic
  pub pf_x : code.PF_X ≡ number.pf_x
  pub pf_w : code.PF_W ≡ number.pf_w
  pub pf_r : code.PF_R ≡ number.pf_r
  pub dt_null : code.DT_NULL ≡ pos number.dt_null
  pub dt_needed : code.DT_NEEDED ≡ pos number.dt_needed
  pub dt_hash : code.DT_HASH ≡ pos number.dt_hash
  pub dt_strtab : code.DT_STRTAB ≡ pos number.dt_strtab
  pub dt_symtab : code.DT_SYMTAB ≡ pos number.dt_symtab
  pub dt_rela : code.DT_RELA ≡ pos number.dt_rela
  pub dt_relasz : code.DT_RELASZ ≡ pos number.dt_relasz
  pub dt_relaent : code.DT_RELAENT ≡ pos number.dt_relaent
  pub dt_strsz : code.DT_STRSZ ≡ pos number.dt_strsz
  pub dt_syment : code.DT_SYMENT ≡ pos number.dt_syment
  pub dt_soname : code.DT_SONAME ≡ pos number.dt_soname
  pub r_riscv_64 : code.R_RISCV_64 ≡ number.r_riscv_64
  pub r_riscv_relative : code.R_RISCV_RELATIVE ≡ number.r_riscv_relative
  pub r_riscv_got_hi20 : code.R_RISCV_GOT_HI20 ≡ number.r_riscv_got_hi20
  pub r_riscv_pcrel_hi20 : code.R_RISCV_PCREL_HI20 ≡ number.r_riscv_pcrel_hi20
  pub r_riscv_pcrel_lo12_i : code.R_RISCV_PCREL_LO12_I ≡ number.r_riscv_pcrel_lo12_i

-- the size of each struct in the code is that of its bytes
pub record SizesAgree : Type 0 where
  pub header : header_code.SIZE ≡ header_size
  pub section : section_code.SIZE ≡ section_size
  pub segment : segment_code.SIZE ≡ segment_size
  pub symbol : symbol_code.SIZE ≡ symbol_size
  pub rela : rela_code.SIZE ≡ rela_size
  pub dynamic : dynamic_code.SIZE ≡ dynamic_size
