use Rattle.pw_image.proofs.Edges.{edges_are_leads}
use Rattle.pw_image.proofs.laws.edges_are_leads.Goals as goal

pub returns : goal.returns
returns c = edges_are_leads
