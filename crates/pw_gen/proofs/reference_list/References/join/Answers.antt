-- A reference that joins the set joins the list.
use Rattle.std.proofs.Common.{◌∙◌, ap}
use Rattle.pw_gen.specs.declared.reference_list.Key.{Key}
use Rattle.pw_gen.specs.Steps.Naming.{joined}
use Rattle.pw_gen.proofs.ReferenceSets.{joins}
use Rattle.pw_gen.proofs.reference_list.References.join.Goals as goal
use Rattle.pw_gen.proofs.reference_list.References.join.Goals.{in-Ok, in-Err}

pub returns : goal.returns
returns c = elim c.match-insert.branch [ in-Ok w ↦ rw w.result-is (joins (λ (key : Key). key.to) c.args.r.now c.self.inside.set.keys (record { to = c.in_ok-copy.field-0 }) c.insert.new.self.keys c.in_ok-copy.ensures w.in-Ok.ensures.keys ∙ ap (λ list. joined list c.args.r.now) c.self.view_is) | in-Err w ↦ rw w.result-is tt ]
