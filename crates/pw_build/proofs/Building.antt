-- What the parts of the program of a unit's object, or why there are none, say of the image.
use Rattle.std.proofs.Common.{◌≡◌, ℕ, List, [], ◌∷◌, length, None, refl, sym, subst, ◌∙◌, Ok, Err}
use Rattle.pw_base.specs.declared.kinds.Kind.TheVariants.{Program}
use Rattle.pw_tree.specs.Units.{TypedUnit}
use Rattle.pw_tree.specs.WellTypedUnits.{IsWellTyped}
use Rattle.pw_code.specs.declared.object.Object.{Object}
use Rattle.pw_code.specs.Objects.{object_of}
use Rattle.pw_code.specs.Soundness.{IsSound}
use Rattle.pw_gen.proofs.SoundObject.{sound_object}
use Rattle.pw_mem.specs.States.{MemoryState}
use Rattle.pw_place.specs.Refusals.{link_fault}
use Rattle.pw_place.specs.Merging.{placed_of}
use Rattle.pw_simulation.specs.Projects.{CanRun}
use Rattle.pw_image.specs.OneUnit.{project_of}
use Rattle.pw_image.specs.Rows.{keep_of}
use Rattle.pw_image.proofs.UnboundNames.{undefined_is_unbound}
use Rattle.pw_image.proofs.UnitsCanRun.{units_can_run}
use Rattle.pw_build.specs.declared.image_error.ImageError.{ImageError}
use Rattle.pw_build.specs.declared.image_error.ImageError.TheVariants.{Link, Unbound, NoMemory}
use Rattle.pw_build.specs.declared.parts.Parts.{Parts}
use Rattle.pw_image.proofs.KeptRows.{rows_find_kept}
use Rattle.pw_build.specs.Built.{IsBuilt, Builds}
use Rattle.pw_build.specs.Steps.Parts.{IsWhole, MakesParts}
use Rattle.pw_build.specs.Steps.Memories.{Fit, HoldsParts}
use Rattle.pw_build.proofs.UnitParts.{program_is_whole, unit_parts}
use Rattle.pw_build.proofs.Whole.{parts_fit, memory_is_image}

module _ (file : List ℕ) (unit : TypedUnit) (typed : IsWellTyped unit) where
  -- ---- what is asked of the object

  pub object_is_sound : (object : Object) → object ≡ object_of file unit → IsSound object
  object_is_sound object is = subst IsSound (sym is) (sound_object file unit typed)

  pub object_is_whole : (object : Object) → object ≡ object_of file unit → link_fault Program (object ∷ []) ≡ None →
      IsWhole (placed_of Program (object ∷ []))
  object_is_whole object is =
      subst (λ (o : Object). link_fault Program (o ∷ []) ≡ None → IsWhole (placed_of Program (o ∷ []))) (sym is)
      (program_is_whole file unit typed)

  -- ---- what comes of it

  refused_as : (error : ImageError) (state : MemoryState) → MakesParts (object_of file unit) (Err error) →
      Builds file unit state state (Err error)
  refused_as (Link fault) state h = (h, refl)
  refused_as (Unbound name) state h = (h.0, sym (undefined_is_unbound file unit typed) ∙ h.1, refl)
  refused_as NoMemory state h = refl

  -- A refusal is that of the unit's program.
  pub refused : (object : Object) (error : ImageError) (state : MemoryState) → object ≡ object_of file unit →
      MakesParts object (Err error) → Builds file unit state state (Err error)
  refused object error state is h =
      refused_as error state (subst (λ (o : Object). MakesParts o (Err error)) is h)

  can_run : (parts : Parts) → MakesParts (object_of file unit) (Ok parts) → CanRun (project_of unit)
  can_run parts h = units_can_run file unit typed h.0 (sym (undefined_is_unbound file unit typed) ∙ h.1)

  -- The parts can be placed.
  pub fit : (object : Object) (parts : Parts) (text content : List ℕ) → object ≡ object_of file unit → MakesParts object (Ok parts) →
      text ≡ parts.text.items → content ≡ parts.data.items → Fit (length text) (length content)
  fit object parts text content is h text_is content_is =
      let made = subst (λ (o : Object). MakesParts o (Ok parts)) is h in
      let own = unit_parts file unit parts typed made.2 in
      parts_fit unit (keep_of parts.rows) text content (can_run parts made) (text_is ∙ own.text) (content_is ∙ own.content)

  -- Once they are, the image is built.
  pub built : (object : Object) (parts : Parts) (text content : List ℕ) (state : MemoryState) → object ≡ object_of file unit →
      MakesParts object (Ok parts) → text ≡ parts.text.items → content ≡ parts.data.items → HoldsParts text content state →
      IsBuilt file unit state parts.rows
  built object parts text content state is h text_is content_is holds =
      let made = subst (λ (o : Object). MakesParts o (Ok parts)) is h in
      let own = unit_parts file unit parts typed made.2 in
      let fits = fit object parts text content is h text_is content_is in
      record {
        links = made.0;
        bound = sym (undefined_is_unbound file unit typed) ∙ made.1;
        rows_are = own.rows_are;
        kept = rows_find_kept file unit parts.rows typed own.rows_are;
        mem =
            holds.mem
            ∙ memory_is_image unit (keep_of parts.rows) text content fits.some_text fits.some_data (text_is ∙ own.text)
            (content_is ∙ own.content);
        no_fetch = holds.no_fetch;
      }
