use Rattle.std.proofs.Common.{◌≡◌, ◌∙◌, ap, subst, map, List}
use Rattle.std.specs.Prelude.{filter}
use Rattle.std.specs.List.{flat_map}
use Rattle.seam_defs.specs.declared.flags.Part.TheVariants as part
use Rattle.seam_rule_rounds.specs.Prelude.{is_for, Create, calls_of, HomeLine, done_lines, rows_of, home_line, base_line, ghost_lines}
use Rattle.seam_judge_data.specs.Standings.{standing_of}
use Rattle.seam_judge_rounds.specs.Bounds.{PrintsBounds}
use Rattle.seam_judge_plain.specs.Plain.{orders_after, places_after, lines_of}
use Rattle.seam_judge_plain.proofs.Played.{homes_are, bases_are, ghosts_are, shown_are}
use Rattle.seam_judge_plain.proofs.round.round_of.Goals as goal

pub returns : goal.returns
returns c =
    let h = c.args.header.now in
    let s = standing_of c.args.before.now in
    let t = standing_of c.in_ok-after.after in
    let live : List Create = c.in_ok-all.all.live.items in
    let clients : List Create = c.in_ok-all.all.clients.items in
    let calls : c.in_ok-calls.calls.items ≡ calls_of s.book.current = c.in_ok-calls.ensures ∙ ap calls_of c.deref-2.ensures.value in
    let orders = c.in_ok-after.ensures.orders in
    let places : t.places ≡ places_after h s (orders_after s) live =
    c.in_ok-after.ensures.places ∙ ap (places_after h s (orders_after s)) c.deref.ensures.value in
    record {
      made = c.in_ok-all.all.made.items;
      listed = c.in_ok-all.ensures.made;
      live = live;
      living = c.in_ok-all.ensures.live;
      clients = clients;
      attached = c.in_ok-all.ensures.clients;
      number = c.requires.number;
      did = c.in_ok-did.ensures
          ∙ (λ i. done_lines (λ e. filter (is_for part.Cell e) ((c.deref-4.ensures.value ∙ calls) i)) (c.deref-3.ensures.value i));
      dob = c.in_ok-dob.ensures
          ∙ (λ i. done_lines (λ e. filter (is_for part.Base e) ((c.deref-6.ensures.value ∙ calls) i)) (c.deref-5.ensures.value i));
      homes = c.in_ok-homes.ensures ∙ ap (map (home_line h t)) c.deref-7.ensures.value ∙ homes_are h s t live orders places;
      bases = c.in_ok-bases.ensures ∙ ap (map (base_line h t)) c.deref-8.ensures.value ∙ bases_are h s t live orders places;
      ghosts = c.in_ok-ghosts.ensures ∙ (λ i. flat_map (ghost_lines h (c.tree_in.ensures i) t) (c.deref-9.ensures.value i))
          ∙ ghosts_are h s t live orders places;
      shown = c.in_ok-shown.ensures
          ∙ (λ i. flat_map (lines_of h s t (rows_of h t.orders (c.deref-11.ensures.value i))) (c.deref-10.ensures.value i))
          ∙ shown_are h s t live orders places clients;
      bounds = subst (λ (hs : List HomeLine). PrintsBounds h s hs c.in_ok-bounds.bounds) c.deref-12.ensures.value c.in_ok-bounds.ensures;
    }
