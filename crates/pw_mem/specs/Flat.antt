-- A memory that keeps one vector a region, seen as a memory.
use Rattle.std.specs.Prelude.{map, None}
use Rattle.pw_mem.specs.declared.flat_region.FlatRegion.{FlatRegion}
use Rattle.pw_mem.specs.declared.flat.FlatMemory.{FlatMemory}
use Rattle.pw_mem.specs.Regions.{MappedRegion}
use Rattle.pw_mem.specs.Memory.{Mem}
use Rattle.pw_mem.specs.Map.{allows}
use Rattle.pw_mem.specs.States.{MemoryState}

-- a region with its bytes
abbrev pub region_of : FlatRegion → MappedRegion
region_of region = record {
  start = region.start;
  bytes = region.bytes.items;
  read = allows region.rights 1;
  write = allows region.rights 2;
  execute = allows region.rights 4;
}

-- the memory
abbrev pub mem_of : FlatMemory → Mem
mem_of memory = record { regions = map region_of memory.regions.items; sealed = memory.sealed }

-- the memory and its fetches, of whose addresses it reports nothing
abbrev pub flat_state : FlatMemory → MemoryState
flat_state memory = record { mem = mem_of memory; fetches = memory.fetches; fetched = None }
