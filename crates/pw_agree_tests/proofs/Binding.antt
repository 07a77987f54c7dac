-- Names are bound or faulty.
use Rattle.std.proofs.Common.{◌≡◌, ◌<◌, ◌∷◌, ◌++◌, refl, ap, Some, codes, lit<, arith}
use Rattle.std.proofs.lemmas.Fmt.{decimal_digit}
use Rattle.pw_tree.specs.Names.{object, text_at}
use Rattle.pw_tree.specs.Binding.{Uses}
use Rattle.pw_agree_tests.specs.Units.{definition}
use Rattle.pw_agree_tests.specs.Binding.{using_unit, declaring_unit, with_library, IsBoundSo}

nothing_used : Uses declaring_unit (codes "t") → ⊥
nothing_used h = let below : h.0 < 0 = h.1 in omega arith

library_text : text_at (with_library using_unit) (object (definition 1 0 0)) ≡ Some (codes "l[8]")
library_text = ap (λ digits. Some (108 ∷ codes "[" ++ digits ++ codes "]")) (decimal_digit 8 (lit< tt))

pub is_bound_so : IsBoundSo
is_bound_so = record {
  means = refl;
  text = library_text;
  differs = record {
    used = (0, lit< tt, refl);
    declares = (0, lit< tt, refl);
    entity = object (definition 1 0 0);
    found = refl;
    text = library_text;
    other = λ e. cc;
  };
  unbound = record { used = (0, lit< tt, refl); undefined = refl };
  not_used = nothing_used;
}
