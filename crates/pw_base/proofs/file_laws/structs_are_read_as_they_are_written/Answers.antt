-- The answers to the goals of `structs_are_read_as_they_are_written` in `src/file_laws.rt`.
use Rattle.pw_base.proofs.Structs.{header_is_read_as_written, section_is_read_as_written, segment_is_read_as_written, symbol_is_read_as_written, rela_is_read_as_written, dynamic_is_read_as_written}
use Rattle.pw_base.proofs.file_laws.structs_are_read_as_they_are_written.Goals as goal

pub returns : goal.returns
returns c =
    record {
      header = header_is_read_as_written;
      section = section_is_read_as_written;
      segment = segment_is_read_as_written;
      symbol = symbol_is_read_as_written;
      rela = rela_is_read_as_written;
      dynamic = dynamic_is_read_as_written;
    }
