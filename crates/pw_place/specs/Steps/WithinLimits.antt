-- Objects that have no more than a module may have.
use Rattle.std.specs.Prelude.{◌≤◌, List, length}
use Rattle.pw_base.specs.Limits.{module_units, module_names, module_elements, text_bytes}
use Rattle.pw_base.specs.declared.kinds.Kind.{Kind}
use Rattle.pw_code.specs.declared.object.Object.{Object}
use Rattle.pw_place.specs.Names.{external_names}
use Rattle.pw_place.specs.Places.{text_size}
use Rattle.pw_place.specs.Refusals.{elements}

-- No count is above its limit.
pub record IsWithinLimits (kind : Kind) (objects : List Object) : Type 0 where
  pub units : length objects ≤ module_units
  pub names : length (external_names objects) ≤ module_names
  pub elements : elements objects ≤ module_elements
  pub text : text_size kind objects ≤ text_bytes
