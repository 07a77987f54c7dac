-- Where the slots of a frame stand, and how many bytes it has.
use Rattle.std.specs.Prelude.{ℕ, ◌+◌, ◌*◌, ◌/◌, ℤ, pos}
use Rattle.pw_code.specs.declared.frame.Frame.{Frame}

-- the bytes of a slot
abbrev pub slot_bytes : ℕ
slot_bytes = 8

-- A slot's distance in bytes from the stack pointer: the locals stand first,
abbrev pub local_slot : ℕ → ℤ
local_slot i = pos (slot_bytes * i)

-- then the held values,
abbrev pub held_slot : Frame → ℕ → ℤ
held_slot frame h = pos (slot_bytes * (frame.locals + h))

-- then the address that the call returns to.
abbrev pub return_slot : Frame → ℤ
return_slot frame = held_slot frame frame.held

-- A frame has all these slots, and its bytes are a multiple of 16 (psABI, "Integer Calling Convention").
abbrev pub frame_bytes : Frame → ℕ
frame_bytes frame = (slot_bytes * (frame.locals + frame.held + 1) + 15) / 16 * 16
