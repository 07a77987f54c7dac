-- The text of `main` is its entry's.
use Rattle.std.proofs.Common.{◌≡◌, ◌∙◌, ap, sym, subst, option_map, option_and_then, find, bytes_eq, Some}
use Rattle.pw_place.specs.Refusals.{wrong_text, main_name}
use Rattle.pw_place.specs.Steps.Passing.{Passes, main_differs}
use Rattle.pw_place.proofs.refusals.check_main_type.Goals as goal

pub returns-in-Some : goal.returns-in-Some
returns-in-Some c =
    let found : Some c.in-Some.n.now ≡ find (λ n. bytes_eq n.name main_name) c.args.externals.now.entries =
    c.in-Some.ensures ∙ ap (find (λ n. bytes_eq n.name main_name)) c.as_slice.ensures in
    subst (λ fault. Passes fault c.check_main_text.result)
    (ap (λ it. option_and_then wrong_text (option_map (λ n. n.text) it)) found ∙ ap (λ kind. main_differs kind c.args.externals.now.entries) (sym c.in-Program.is))
    c.check_main_text.ensures
