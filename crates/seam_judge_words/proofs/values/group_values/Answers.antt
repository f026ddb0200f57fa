use Rattle.std.proofs.Common.{◌≡◌, ℕ, List, ◌∷◌, drop, map, true, false, sym, ◌∙◌, subst, All}
use Rattle.std.proofs.lemmas.List.Elements.{All-head, All-tail}
use Rattle.seam_value.specs.Values.{Fits}
use Rattle.seam_defs.specs.declared.types.Property.{Property}
use Rattle.seam_judge_words.proofs.WordSteps.{none_left}
use Rattle.seam_value.specs.declared.values.Value.{Value}
use Rattle.seam_defs.specs.Groups.{in_group}
use Rattle.seam_judge_words.proofs.ValueSteps.{Fitting, ToCome, fitting_end, fitting_in, fitting_out, values_in, values_out}
use Rattle.seam_judge_words.proofs.values.group_values.Goals as goal

pub property_value-requires : goal.property_value-requires
property_value-requires c =
    All-head (λ (p : Property). Fits p.default p.ty) c.in-Some.property.now c.in-Some.others.now
    (subst (All (λ (p : Property). Fits p.default p.ty)) c.in-Some.ensures.cases.0 c.loop-property.invariant.defaults)

pub returns-clause-form : goal.returns-clause-form
returns-clause-form c =
    fitting_end c.args.group c.args.t.now.properties c.loop-property.properties.now c.loop-property.values.items
    (none_left c.loop-property.properties.now c.in_default.ensures.cases) c.loop-property.invariant.form

pub loop-property-preserved-then-in_group : goal.loop-property-preserved-then-in_group
loop-property-preserved-then-in_group c =
    let g = c.args.group in
    let all = c.args.t.now.properties in
    let p = c.in-Some.property.now in
    let others = c.in-Some.others.now in
    let before = c.loop-property.values.items in
    let v = c.in_ok-property_value.field-0 in
    let left : c.loop-property.properties.now ≡ p ∷ others = c.in-Some.ensures.cases.0 in
    let within : in_group p.flag g ≡ true = sym c.in_group.ensures ∙ c.if-in_group.true in
    let words = map (λ w. w.now) c.loop-property.rest.now in
    record {
      defaults =
          All-tail (λ (q : Property). Fits q.default q.ty) p others
          (subst (All (λ (q : Property). Fits q.default q.ty)) left c.loop-property.invariant.defaults);
      form =
          subst (Fitting g all others) (sym c.in_ok-push.ensures.items)
          (fitting_in g all others p before v within c.in_ok-property_value.ensures.form
          (subst (λ (ps : List Property). Fitting g all ps before) left c.loop-property.invariant.form));
      told = λ ws of e.
          subst (λ (ts : List (List ℕ)). ToCome g others ts c.push.new.self.items ws) (sym c.words_from-rest.ensures)
          (subst (λ (vs : List Value). ToCome g others (drop 1 words) vs ws) (sym c.in_ok-push.ensures.items)
          (values_in g p others words before ws v within
          (λ w fits at. c.in_ok-property_value.ensures.told w fits (c.word_at.ensures ∙ at))
          (subst (λ (ps : List Property). ToCome g ps words before ws) left (c.loop-property.invariant.told ws of e))));
    }

pub loop-property-preserved : goal.loop-property-preserved
loop-property-preserved c =
    let g = c.args.group in
    let all = c.args.t.now.properties in
    let p = c.in-Some.property.now in
    let others = c.in-Some.others.now in
    let before = c.loop-property.values.items in
    let left : c.loop-property.properties.now ≡ p ∷ others = c.in-Some.ensures.cases.0 in
    let without : in_group p.flag g ≡ false = sym c.in_group.ensures ∙ c.if-in_group.false in
    let words = map (λ w. w.now) c.loop-property.rest.now in
    record {
      defaults =
          All-tail (λ (q : Property). Fits q.default q.ty) p others
          (subst (All (λ (q : Property). Fits q.default q.ty)) left c.loop-property.invariant.defaults);
      form =
          fitting_out g all others p before without
          (subst (λ (ps : List Property). Fitting g all ps before) left c.loop-property.invariant.form);
      told = λ ws of e.
          values_out g p others words before ws without
          (subst (λ (ps : List Property). ToCome g ps words before ws) left (c.loop-property.invariant.told ws of e));
    }
