-- The name among as many bytes as the longest name and its zero byte have is that among all.
use Rattle.pw_elf.proofs.Texts.{first_name_is, no_first_name}
use Rattle.pw_elf.proofs.string.first_name.Goals as goal

pub returns-in-Some : goal.returns-in-Some
returns-in-Some c = first_name_is c.args.bytes.now c.min-longest.result c.in-Some.text.now c.from_bytes.result c.min-longest.ensures c.in-Some.ensures c.from_bytes.ensures

pub returns-in-None : goal.returns-in-None
returns-in-None c = no_first_name c.args.bytes.now c.min-longest.result c.min-longest.ensures c.in-None.ensures
