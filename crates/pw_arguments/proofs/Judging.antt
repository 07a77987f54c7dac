-- Arguments that were judged so far, and those that are no words.
use Rattle.std.proofs.Common.{◌≡◌, ℕ, ◌+◌, ◌-◌, ◌<◌, ◌≤◌, List, [], ◌∷◌, ◌++◌, length, take, drop, get_or, refl, ap, sym, subst, ◌∙◌, arith}
use Rattle.std.specs.Prelude.{Vec, sum_by, All, IsUtf8}
use Rattle.std.specs.declared.alloc.Global.{Global}
use Rattle.std.proofs.lemmas.List.{take-append-drop, take_more, drop_more, map-append, length-map, take_all}
use Rattle.std.proofs.lemmas.List.Elements.{All-nil, All-head, All-tail, All-push}
use Rattle.std.proofs.lemmas.List.Sums.{sum_by-append, sum_by-cons}
use Rattle.pw_arguments.specs.Arguments.{bytes_of}
use Rattle.pw_arguments.specs.Words.{AreWords}

-- the bytes of arguments before one, of it, and of those after it
pub bytes_at : (arguments : List (Vec ℕ Global)) (i : ℕ) (a : Vec ℕ Global) → i < length arguments →
    a ≡ get_or arguments i a →
    bytes_of arguments ≡ bytes_of (take i arguments) ++ (a.items ∷ bytes_of (drop (i + 1) arguments))
bytes_at arguments i a inside is =
    ap bytes_of (sym (take-append-drop i arguments)) ∙ map-append (λ v. v.items) (take i arguments) (drop i arguments)
    ∙ ap (λ rest. bytes_of (take i arguments) ++ bytes_of rest) (drop_more arguments i a inside ∙ ap (λ v. v ∷ drop (i + 1) arguments) (sym is))

-- the bytes of one argument more
pub bytes_more : (arguments : List (Vec ℕ Global)) (i : ℕ) (a : Vec ℕ Global) → i < length arguments →
    a ≡ get_or arguments i a → bytes_of (take (i + 1) arguments) ≡ bytes_of (take i arguments) ++ a.items ∷ []
bytes_more arguments i a inside is =
    ap bytes_of (take_more arguments i a inside ∙ ap (λ v. take i arguments ++ v ∷ []) (sym is))
    ∙ map-append (λ v. v.items) (take i arguments) (a ∷ [])

-- what is true of all is true of the later ones
later_part : {A : Type 0} (P : A → Type 0) (before rest : List A) → All P (before ++ rest) → All P rest
later_part P [] rest all = all
later_part P (b ∷ before) rest all = later_part P before rest (All-tail P b (before ++ rest) all)

-- the one after these is true too
pub at_place : {A : Type 0} (P : A → Type 0) (all before after : List A) (x : A) → all ≡ before ++ (x ∷ after) → All P all → P x
at_place P all before after x is holds = All-head P x after (later_part P before (x ∷ after) (subst (All P) is holds))

-- The first arguments are text, and their bytes are counted and not too many.
pub record AreJudged (limit bytes : ℕ) (first : List (List ℕ)) : Type 0 where
  pub counted : bytes ≡ sum_by length first
  pub short : bytes < limit
  pub texts : All IsUtf8 first

pub judged_none : (limit : ℕ) → 0 < limit → AreJudged limit 0 []
judged_none limit some = record { counted = refl; short = some; texts = All-nil IsUtf8 }

pub judged_one : (limit bytes size : ℕ) (first more : List (List ℕ)) (argument : List ℕ) → more ≡ first ++ argument ∷ [] →
    size ≡ bytes + length argument → AreJudged limit bytes first → size < limit → IsUtf8 argument →
    AreJudged limit size more
judged_one limit bytes size first more argument is size_is judged short text = record {
  counted = omega (arith, size_is, judged.counted, sum_by-append length first (argument ∷ []), sum_by-cons length argument [], ap (sum_by length) is);
  short = short;
  texts = subst (All IsUtf8) (sym is) (All-push IsUtf8 first argument judged.texts text);
}

-- too many bytes before the end are too many
pub too_long : (limit bytes : ℕ) (all before after : List (List ℕ)) (argument : List ℕ) →
    all ≡ before ++ (argument ∷ after) → AreJudged limit bytes before → limit - bytes ≤ length argument →
    ¬ AreWords limit all
too_long limit bytes all before after argument is judged long words =
    absurd (omega (arith, words.short, ap (sum_by length) is, sum_by-append length before (argument ∷ after), sum_by-cons length argument after, judged.counted, judged.short, long))

-- one that is no text is one too many
pub no_text : (limit : ℕ) (all before after : List (List ℕ)) (argument : List ℕ) → all ≡ before ++ (argument ∷ after) →
    ¬ IsUtf8 argument → ¬ AreWords limit all
no_text limit all before after argument is not words = not (at_place IsUtf8 all before after argument is words.texts)

-- all of them were judged
pub judged_all : (limit bytes : ℕ) (arguments : List (Vec ℕ Global)) (i : ℕ) → length arguments ≤ i →
    length arguments < limit → AreJudged limit bytes (bytes_of (take i arguments)) → AreWords limit (bytes_of arguments)
judged_all limit bytes arguments i past few judged =
    let whole : bytes_of (take i arguments) ≡ bytes_of arguments = ap bytes_of (take_all i arguments past) in
    let J : List (List ℕ) → Type 0 = λ first. AreJudged limit bytes first in
    let all : AreJudged limit bytes (bytes_of arguments) = subst J whole judged in
    record { few = omega (arith, length-map arguments (λ v. v.items), few); short = omega (arith, all.counted, all.short); texts = all.texts }
