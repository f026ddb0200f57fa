use Rattle.std.proofs.Common.{◌≡◌, List, length, map, All}
use Rattle.seam_value.specs.Values.{Fits}
use Rattle.seam_defs.specs.declared.types.Property.{Property}
use Rattle.seam_value.specs.declared.values.Value.{Value}
use Rattle.seam_defs.specs.Deeds.{IsOfGroup}
use Rattle.seam_law_texts.specs.TextLines.{value_words}
use Rattle.seam_judge_words.proofs.ValueSteps.{Fitting, ToCome}
use Rattle.seam_judge_words.proofs.values.group_values.Given as goal

abbrev pub invariant-loop-property : goal.invariant-loop-property
invariant-loop-property l = record {
  defaults : All (λ (p : Property). Fits p.default p.ty) l.properties;
  form : Fitting l.group l.t.properties l.properties l.values.items;
  told : (ws : List Value) → IsOfGroup l.t.properties l.group ws →
      map (λ w. w.now) l.words ≡ value_words l.t.properties l.group ws →
      ToCome l.group l.properties (map (λ w. w.now) l.rest) l.values.items ws;
}

abbrev pub decreases-loop-property : goal.decreases-loop-property
decreases-loop-property l = length l.properties
