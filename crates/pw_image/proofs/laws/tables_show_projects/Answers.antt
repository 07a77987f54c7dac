use Rattle.pw_image.proofs.Tables.{tables_show_projects}
use Rattle.pw_image.proofs.laws.tables_show_projects.Goals as goal

pub returns : goal.returns
returns c = tables_show_projects
