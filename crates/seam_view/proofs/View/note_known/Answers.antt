use Rattle.std.proofs.Common.{◌≡◌, ◌∙◌, ◌++◌, sym, ap, length, subst, slice_set, arith, rules, replicate, [], eqb, drop}
use Rattle.std.proofs.Common.{get_or, ◌+◌, refl}
use Rattle.std.specs.List.{IsDistinct}
use Rattle.std.specs.Map.{keys_of}
use Rattle.std.proofs.lemmas.List.{length-map}
use Rattle.seam_view.specs.declared.Seen.{Seen}
use Rattle.seam_view.specs.declared.Note.TheVariants.{Leaves}
use Rattle.seam_view.specs.ViewLooks.{entering}
use Rattle.seam_view.specs.Notes.{notes_of}
use Rattle.seam_view.proofs.Noted.{notes_of_none, notes_when_found, notes_when_missing, missing, place_below}
use Rattle.seam_view.proofs.Noted.{viewed_at, entering_with_next, entering_past, entering_past_viewed}
use Rattle.seam_view.proofs.View.note_known.Goals as goal
use Rattle.seam_view.proofs.View.note_known.Goals.{in-Some, in-None+then-is_entering+in_ok-push-in-None, in-None+else-is_entering}

pub loop-seen-init : goal.loop-seen-init
loop-seen-init c =
    let given : c.in_ok-notes.notes.items ≡ replicate c.len.result Leaves =
    c.in_ok-notes.ensures.items_if_clones_equal (λ y h. search rules) in
    let none : c.in_ok-enters.enters.items ≡ [] = c.in_ok-enters.ensures.items in
    record {
      notes = given ∙ (ap (λ n. replicate n Leaves) c.len.ensures
          ∙ (notes_of_none c.args.self.now.core c.args.own c.self.inside.view.entries
          ∙ ap (λ w. notes_of w.core c.args.own []) c.self.view_is));
      enters = ap (λ xs. xs ++ entering c.args.self.now.core c.args.own c.args.known.now) none;
    }

pub index_mut-requires : goal.index_mut-requires
index_mut-requires c =
    let r = c.args.self.now.core in
    let many = ap length c.loop-seen.invariant.notes ∙ length-map r.entries _ in
    let below = place_below (length c.loop-seen.notes.items) r.entries c.in-Some.i _ many c.in-Some.ensures.there in
    let len = c.loop-seen.notes.ok.0 in
    omega (arith, below, len)

pub loop-seen-preserved : goal.loop-seen-preserved
loop-seen-preserved c =
    let r = c.args.self.now.core in
    let k = c.loop-seen.seen-index in
    let known = c.args.known.now in
    let d : Seen = record { entity = 0; version = 0; pos = record { x = 0; z = 0 } } in
    let e = (get_or known k d).entity in
    elim c.match-place_in_view.branch [
      | in-Some w ↦
          let once = subst (λ v. IsDistinct eqb (keys_of v.core.entries)) c.self.view_is c.self.invariant.once in
          let written : c.match-place_in_view.notes.items ≡ slice_set c.loop-seen.notes.items w.in-Some.i w.note.result =
          ap (λ v. v.items) w.notes-is in
          record {
            notes = written ∙ ((λ j. slice_set (c.loop-seen.invariant.notes j) w.in-Some.i (w.note.ensures j))
                ∙ notes_when_found r c.args.own known k d c.requires c.loop-seen-test.true w.in-Some.i (e, w.in-Some.version) once
                w.in-Some.ensures.there refl);
            enters =
                (λ j. (w.enters-is j).items ++ entering_past_viewed r c.args.own known k d c.loop-seen-test.true
                (viewed_at r.entries w.in-Some.i e _ w.in-Some.ensures.there refl) j)
                ∙ c.loop-seen.invariant.enters;
          }
      | in-None+then-is_entering+in_ok-push-in-None w ↦
          let none = missing e r.entries w.in-None.ensures.none in
          record {
            notes =
                ap (λ v. v.items) w.notes-is ∙ (c.loop-seen.invariant.notes
                ∙ notes_when_missing r c.args.own known k d c.requires c.loop-seen-test.true none);
            enters = ap (λ v. v.items ++ entering r c.args.own (drop (k + 1) known)) w.enters-is
                ∙ (ap (λ xs. xs ++ entering r c.args.own (drop (k + 1) known)) w.in_ok-push-in-None.ensures.items
                ∙ (entering_with_next r c.args.own known k d c.loop-seen-test.true c.loop-seen.enters.items (sym w.is_entering.ensures
                ∙ w.if-is_entering.true)
                ∙ c.loop-seen.invariant.enters));
          }
      | in-None+else-is_entering w ↦
          let none = missing e r.entries w.in-None.ensures.none in
          record {
            notes =
                ap (λ v. v.items) w.notes-is ∙ (c.loop-seen.invariant.notes
                ∙ notes_when_missing r c.args.own known k d c.requires c.loop-seen-test.true none);
            enters =
                (λ j. (w.enters-is j).items ++ entering_past r c.args.own known k d c.loop-seen-test.true (sym w.is_entering.ensures
                ∙ w.if-is_entering.false) j)
                ∙ c.loop-seen.invariant.enters;
          }
    ]
