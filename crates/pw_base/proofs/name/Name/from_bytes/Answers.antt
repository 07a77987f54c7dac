-- Bytes are read as a name exactly where they are one.
use Rattle.pw_base.proofs.Names.{refused_name, read_name}
use Rattle.pw_base.proofs.name.Name.from_bytes.Goals as goal

pub returns-in-Ok : goal.returns-in-Ok
returns-in-Ok c = read_name c.args.bytes.now c.in-Ok.name c.in-Ok.ensures

pub returns-in_default : goal.returns-in_default
returns-in_default c = refused_name c.args.bytes.now c.in-Err.refusal c.in-Err.ensures c.in_default.not-NoMemory
