-- Objects and parameters of the program of an accepted source have layouts, and blocks are at most 16,777,216 elements.
use Rattle.upc_values.proofs.Lists.{each-grow}
use Rattle.upc_values.specs.Lists.{Each}
use Rattle.typing_rules.specs.Nodes.{Attr}
use Rattle.typed_tree.specs.LocalObjects.{objects_in}
use Rattle.typed_tree.specs.Programs.{Checked}
use Rattle.typed_tree.specs.Tree.{ExprKind, DeclaredObject}
use Rattle.typed_tree.specs.layer.Judged.{AtEnd}
use Rattle.meaning_laws.proofs.Layouts.{size_laid}
use Rattle.meaning_laws_accepted.specs.code.LaidPrograms.{HasBlocks, IsSized, IsLaidObject}
use Rattle.meaning_laws_accepted.specs.code.Laws.{AcceptedAreLaid}
use Rattle.meaning_laws_accepted.specs.layer.Throughout.{ThroughoutStatement}
use Rattle.meaning_laws_accepted.proofs.Types.{IsSoundType, sound_blocks}
use Rattle.meaning_laws_accepted.proofs.Sounds.{IsSoundObject, IsSoundFunction}
use Rattle.meaning_laws_accepted.proofs.Sources.{source_sound}
use Rattle.meaning_laws_accepted.proofs.Everywhere.{everywhere}
use Rattle.meaning_laws_accepted.proofs.Inside.{inside}

module _ (x : Checked) where
  object_laid : (o : DeclaredObject) → IsSoundObject (IsSized x) o → IsLaidObject x o
  object_laid o h =
      record { whole = h.2; leaves = size_laid x x.structs o.ctype AtEnd h.2; blocks = sound_blocks o.ctype h.0 }

  abbrev Blocks : Attr → ExprKind → Type 0
  Blocks a kind = HasBlocks a.ctype

pub accepted_are_laid : AcceptedAreLaid
accepted_are_laid = record {
  each = λ names threads unit x h.
      let sized = IsSized x in
      let sound = source_sound names threads unit x h in
      record {
        objects = each-grow (IsSoundObject sized) (IsLaidObject x) x.objects (object_laid x) sound.objects;
        inside =
            each-grow (IsSoundFunction sized) (λ f. Each (IsLaidObject x) (objects_in f.body)) x.functions
            (λ f g. inside sized (IsLaidObject x) (object_laid x) f.body g.body) sound.functions;
        parameters =
            each-grow (IsSoundFunction sized) (λ f. Each sized f.parameters) x.functions (λ f g. g.sizes)
            sound.functions;
        signatures =
            each-grow (IsSoundFunction sized) (λ f. HasBlocks f.result × Each HasBlocks f.parameters) x.functions
            (λ f g. (
              sound_blocks f.result g.result,
              each-grow IsSoundType HasBlocks f.parameters sound_blocks g.parameters,
            )) sound.functions;
        blocks =
            each-grow (IsSoundFunction sized) (λ f. ThroughoutStatement (Blocks x) f.body) x.functions
            (λ f g. everywhere sized (Blocks x) (λ a kind b. sound_blocks a.ctype b) f.body g.body) sound.functions;
      };
}
