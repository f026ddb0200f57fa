use Rattle.std.proofs.Common.{rules, ◌≡◌, ◌∙◌, ◌∷◌, ◌++◌, [], ap, sym, subst, suc, arith, length, reverse}
use Rattle.std.proofs.lemmas.List.{length-append, reverse-append}
use Rattle.seam_workers.specs.Seats.{Placed, filled, IsRun}
use Rattle.seam_logged.specs.Logs.{IsReplay}
use Rattle.seam_workers.proofs.Lists.{AreRunsFrom, full_last, placed_front, placed_last, runs_cons, runs_start}
use Rattle.seam_workers.proofs.sorted.Goals as goal

pub unwrap-seat-requires : goal.unwrap-seat-requires
unwrap-seat-requires g c =
    let full = subst (λ l. filled l ≡ length l) c.in-Some.ensures.items c.loop-place.invariant.1 in
    (full_last c.pop.new.self.items c.in-Some.place full).0

pub loop-place-preserved : goal.loop-place-preserved
loop-place-preserved g c =
    let K = g.M.Machine in
    let roots = g.J.Naming.roots in
    let inv = c.loop-place.invariant in
    let left = c.pop.new.self.items in
    let items = c.in-Some.ensures.items in
    let full = subst (λ l. filled l ≡ length l) items inv.1 in
    let placed = subst Placed items inv.0 in
    let at = placed_last left c.unwrap-seat.result (subst (λ p. Placed (left ++ p ∷ [])) c.unwrap-seat.ensures placed) in
    let many : length c.loop-place.found.items ≡ suc (length left) =
    ap length items ∙ omega (arith, length-append left (c.in-Some.place ∷ [])) in
    let made = c.apart.ensures.same in
    let run : IsRun K.has_work K.steps K.peer_count roots (length left) c.apart.result = record {
      me_is = ap (λ v. v.me) made ∙ (c.finish.ensures.me ∙ (ap (λ v. v.me) c.into_logged-logged.ensures ∙ at));
      replay = subst (IsReplay K.has_work K.steps K.peer_count roots) (sym c.apart.ensures.same) c.apart.ensures.replay;
      unsent = ap (λ v. v.unsent) made ∙ c.in_ok-finish.ensures.unsent;
      worked = λ none. ap (λ v. K.has_work v.node) made ∙ c.in_ok-finish.ensures.worked (sym (ap (λ v. v.log) made) ∙ none);
    } in
    let later = subst (λ k. AreRunsFrom K.has_work K.steps K.peer_count roots k (reverse c.loop-place.nodes.items)) many inv.3 in (
      placed_front left c.in-Some.place placed,
      (full_last left c.in-Some.place full).1,
      rw c.in_ok-push.ensures.items (omega (arith, inv.2, many, length-append c.loop-place.nodes.items (c.apart.result ∷ []))),
      rw (c.in_ok-push.ensures.items, reverse-append c.loop-place.nodes.items (c.apart.result ∷ []))
          (runs_cons K.has_work K.steps K.peer_count roots (length left) c.apart.result (reverse c.loop-place.nodes.items) run later),
    )

pub returns-clause-runs : goal.returns-clause-runs
returns-clause-runs g c =
    let K = g.M.Machine in
    let roots = g.J.Naming.roots in
    let none : length c.loop-place.found.items ≡ 0 = search rules in
    rw c.reverse.ensures.items (runs_start K.has_work K.steps K.peer_count roots (reverse c.loop-place.nodes.items)
    (subst (λ k. AreRunsFrom K.has_work K.steps K.peer_count roots k (reverse c.loop-place.nodes.items)) none c.loop-place.invariant.3))
