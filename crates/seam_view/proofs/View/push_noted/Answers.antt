use Rattle.std.proofs.Common.{◌≡◌, ◌++◌, ◌+◌, ◌∙◌, sym, ap, map, drop, length, refl}
use Rattle.std.specs.Map.{keys_of}
use Rattle.std.proofs.lemmas.List.{length-map}
use Rattle.seam_view.specs.declared.Look.TheVariants.{Leave, Set}
use Rattle.seam_view.specs.declared.Note.TheVariants.{Stays, Leaves, Changed}
use Rattle.seam_view.specs.Notes.{is_leave, is_change, noted}
use Rattle.seam_view.proofs.Noted.{noted_with, noted_past, push_append}
use Rattle.seam_view.proofs.View.push_noted.Goals as goal
use Rattle.seam_view.proofs.View.push_noted.Goals.{in-Stays, in-Leaves+in_ok-push-in-Leaves, in-Changed+in_ok-push-in-Changed}

pub loop-i-preserved : goal.loop-i-preserved
loop-i-preserved c =
    let ns = c.args.notes.now in
    let es = keys_of c.args.self.now.core.entries in
    let i = c.loop-i.i in
    let lt = c.loop-i-test.true in
    let inv = c.loop-i.invariant in
    let many : length ns ≡ length es = c.requires ∙ sym (length-map c.args.self.now.core.entries (λ p. p.0)) in
    elim c.match-notes-i.branch [
      | in-Stays w ↦ record {
        looks =
            (λ j. (w.looks-is j).items ++ map (λ e. Leave e) (noted_past is_leave ns es i Stays Stays lt many w.in-Stays.is refl j))
            ∙ inv.looks;
        sets =
            (λ j. (w.sets-is j).items ++ map (λ e. Set e) (noted_past is_change ns es i Stays Stays lt many w.in-Stays.is refl j))
            ∙ inv.sets;
      }
      | in-Leaves+in_ok-push-in-Leaves w ↦ record {
        looks = ap (λ v. v.items ++ map (λ e. Leave e) (noted is_leave (drop (i + 1) ns) (drop (i + 1) es))) w.looks-is
            ∙ (ap (λ xs. xs ++ map (λ e. Leave e) (noted is_leave (drop (i + 1) ns) (drop (i + 1) es))) w.in_ok-push-in-Leaves.ensures.items
            ∙ (push_append c.loop-i.looks.items (Leave w.entity_at.result)
            (map (λ e. Leave e) (noted is_leave (drop (i + 1) ns) (drop (i + 1) es)))
            ∙ (ap (λ xs. c.loop-i.looks.items ++ map (λ e. Leave e) xs)
            (noted_with is_leave ns es i w.entity_at.result Leaves Stays lt w.in-Leaves.is w.entity_at.ensures refl)
            ∙ inv.looks)));
        sets =
            (λ j. (w.sets-is j).items ++ map (λ e. Set e) (noted_past is_change ns es i Leaves Stays lt many w.in-Leaves.is refl j))
            ∙ inv.sets;
      }
      | in-Changed+in_ok-push-in-Changed w ↦ record {
        looks =
            (λ j. (w.looks-is j).items ++ map (λ e. Leave e) (noted_past is_leave ns es i Changed Stays lt many w.in-Changed.is refl j))
            ∙ inv.looks;
        sets = ap (λ v. v.items ++ map (λ e. Set e) (noted is_change (drop (i + 1) ns) (drop (i + 1) es))) w.sets-is
            ∙ (ap (λ xs. xs ++ map (λ e. Set e) (noted is_change (drop (i + 1) ns) (drop (i + 1) es))) w.in_ok-push-in-Changed.ensures.items
            ∙ (push_append c.loop-i.sets.items (Set w.entity_at-in-Changed.result)
            (map (λ e. Set e) (noted is_change (drop (i + 1) ns) (drop (i + 1) es)))
            ∙ (ap (λ xs. c.loop-i.sets.items ++ map (λ e. Set e) xs)
            (noted_with is_change ns es i w.entity_at-in-Changed.result Changed Stays lt w.in-Changed.is w.entity_at-in-Changed.ensures
            refl)
            ∙ inv.sets)));
      }
    ]
