-- The words of the entry and of the units so far are appended, and the units that are left are sound.
use Rattle.std.proofs.Common.{◌≡◌, ◌++◌, take, drop}
use Rattle.std.specs.List.{flat_map, enumerate_from, AllByRecursion}
use Rattle.pw_base.specs.Limits.{text_offset}
use Rattle.pw_code.specs.Soundness.{IsSound}
use Rattle.pw_place.specs.Sizes.{entry_items}
use Rattle.pw_place.specs.Contents.{words_of_code, words_of_unit}
use Rattle.pw_place.proofs.text.text_words.Given as goal

abbrev pub invariant-loop-unit : goal.invariant-loop-unit
invariant-loop-unit l = record {
  written :
      l.words
      ≡ words_of_code l.places.kind l.places.objects.now 0 text_offset (entry_items l.places.kind)
      ++ flat_map (words_of_unit l.places.kind l.places.objects.now) (enumerate_from 0 (take l.unit l.places.objects.now));
  left : AllByRecursion IsSound (drop l.unit l.places.objects.now);
}
