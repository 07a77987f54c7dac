-- The words of the items so far are appended; those that are left stand where the next one does, and have places.
use Rattle.std.proofs.Common.{◌≡◌, ◌+◌, ◌++◌, drop}
use Rattle.std.specs.List.{AllByRecursion}
use Rattle.pw_place.specs.Sizes.{code_bytes}
use Rattle.pw_place.specs.Contents.{words_of_code}
use Rattle.pw_place.specs.Steps.PlacedItems.{IsPlacedItem}
use Rattle.pw_place.proofs.text.put_code.Given as goal

abbrev pub invariant-loop-item : goal.invariant-loop-item
invariant-loop-item l = record {
  written :
      l.words ++ words_of_code l.places.kind l.places.objects.now l.unit l.at (drop l.item-index l.items)
      ≡ l.fn.words ++ words_of_code l.places.kind l.places.objects.now l.unit l.fn.at l.items;
  stands : l.at + code_bytes (drop l.item-index l.items) ≡ l.fn.at + code_bytes l.items;
  left : AllByRecursion (IsPlacedItem l.places.objects.now l.unit) (drop l.item-index l.items);
}
