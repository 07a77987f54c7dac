-- The memory that holds the text and the data of an image, and its regions before they are filled.
use Rattle.std.specs.Prelude.{◌≡◌, ℕ, ◌+◌, ◌*◌, ◌/◌, ◌%◌, ◌-◌, ◌<◌, ◌≤◌, true, false, List, [], ◌∷◌, Result, Ok, Err}
use Rattle.pw_base.specs.Limits.{module_span, text_offset, data_offset, stack_start, stack_bytes}
use Rattle.pw_base.specs.declared.no_memory.NoMemory.{NoMemory}
use Rattle.pw_mem.specs.declared.region.Region.{Region}
use Rattle.pw_mem.specs.Regions.{MappedRegion}
use Rattle.pw_mem.specs.Memory.{Mem}
use Rattle.pw_mem.specs.States.{MemoryState, NoFetches}
use Rattle.pw_agree.specs.Placing.{text_of, data_of}
use Rattle.pw_agree.specs.Image.{whole_doublewords, stack_region}

-- A text and data have bytes and fit their places, and the data are doublewords.
pub record Fit (text content : ℕ) : Type 0 where
  pub some_text : 0 < text
  pub text_fits : text ≤ data_offset - text_offset
  pub some_data : 0 < content
  pub data_fits : content ≤ module_span - data_offset
  pub data_whole : content % 8 ≡ 0

-- So many bytes, rounded up to doublewords.
abbrev pub rounded : ℕ → ℕ
rounded n = (n + 7) / 8 * 8

-- The regions of a text and of data of so many bytes, and the stack. Rights 5 are to read and to execute, 3 to read and to write.
abbrev pub regions_of : (text content : ℕ) → List Region
regions_of text content =
    record { start = text_of 0; len = rounded text; rights = record { 0 = 5 } }
    ∷ record { start = data_of 0; len = content; rights = record { 0 = 3 } }
    ∷ record { start = stack_start; len = stack_bytes; rights = record { 0 = 3 } } ∷ []

-- The region of a text, with its bytes.
abbrev pub text_region_of : List ℕ → MappedRegion
text_region_of text =
    record { start = text_of 0; bytes = whole_doublewords text; read = true; write = false; execute = true }

-- The region of data.
abbrev pub data_region_of : List ℕ → MappedRegion
data_region_of content = record { start = data_of 0; bytes = content; read = true; write = true; execute = false }

-- The sealed memory of a text and of data.
abbrev pub memory_of : (text content : List ℕ) → Mem
memory_of text content =
    record { regions = text_region_of text ∷ data_region_of content ∷ stack_region ∷ []; sealed = true }

-- The memory holds them, and no fetch is counted since.
pub record HoldsParts (text content : List ℕ) (new : MemoryState) : Type 0 where
  pub mem : new.mem ≡ memory_of text content
  pub no_fetch : NoFetches new

-- they are in memory, or memory ran out, and it is as before
abbrev pub Places : (text content : List ℕ) → (old new : MemoryState) → Result (Unit {0}) NoMemory → Type 0
Places text content old new (Ok _) = HoldsParts text content new
Places text content old new (Err _) = new ≡ old
