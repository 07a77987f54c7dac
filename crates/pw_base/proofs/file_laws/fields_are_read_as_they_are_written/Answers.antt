-- The answers to the goals of `fields_are_read_as_they_are_written` in `src/file_laws.rt`.
use Rattle.pw_base.proofs.Fields.{field_is_the_number_there, written_field_is_read, read_field_is_written}
use Rattle.pw_base.proofs.file_laws.fields_are_read_as_they_are_written.Goals as goal

pub returns : goal.returns
returns c = record { there = field_is_the_number_there; read = written_field_is_read; written = read_field_is_written }
