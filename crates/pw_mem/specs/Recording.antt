-- The memory that reports its fetches, seen as a memory.
use Rattle.std.specs.Prelude.{Some, None, if◌then◌else◌}
use Rattle.pw_mem.specs.declared.recorder.Recorder.{Recorder}
use Rattle.pw_mem.specs.States.{MemoryState}
use Rattle.pw_mem.specs.Flat.{mem_of}

-- the memory and its fetches, with their addresses as long as it reports them
abbrev pub recorded_state : Recorder → MemoryState
recorded_state recorder = record {
  mem = mem_of recorder.flat;
  fetches = recorder.flat.fetches;
  fetched = if recorder.reports then Some recorder.addresses.items else None;
}
