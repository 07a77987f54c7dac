-- A type string has few bytes.
use Rattle.pw_deps.proofs.TextTests.{text_fits}
use Rattle.pw_deps.proofs.writing.put_types.Goals as goal

pub put_sized_string-requires : goal.put_sized_string-requires
put_sized_string-requires c = rw (c.bytes.ensures.bytes) (text_fits _ c.bytes.ensures.text)
