-- The counts that the code has read, as the definition has them.
use Rattle.pw_module.specs.Reading.{RecordCounts}
use Rattle.pw_deps.specs.declared.reading.Counted.{Counted}

-- the same four numbers
abbrev pub counts_of : Counted → RecordCounts
counts_of c = record { units = c.units; funs = c.functions; roots = c.roots; types = c.types }
