use Rattle.std.proofs.Common.{◌≡◌, ◌+◌, ◌++◌, ℕ, Option, None, Some, cond, ap, sym, subst, ◌∙◌, eqb, option_map}
use Rattle.std.proofs.Common.{slice_get, get_or, take, arith}
use Rattle.std.specs.List.{IsDistinct, zip}
use Rattle.std.specs.Map.{keys_of, lookup}
use Rattle.std.proofs.lemmas.List.{length-map}
use Rattle.std.proofs.lemmas.Map.Keys.{below_from_sorted}
use Rattle.std.proofs.lemmas.Option.{slice_get-map, slice_get_within, get_or_from_slice_get}
use Rattle.seam_view.specs.Departed.{pairs_of, entities_in, versions_in}
use Rattle.seam_view.proofs.Shown.{once_when_rising}
use Rattle.seam_view.proofs.Zipped.{absent_zipped}
use Rattle.seam_view.proofs.Leaving.{as_many_versions, found_when_merged, not_merged_yet}
use Rattle.seam_view.proofs.departed.merge_all.Goals as goal

pub add-requires-clause-absent : goal.add-requires-clause-absent
add-requires-clause-absent c =
    let es = c.args.latest.now.entries in
    let all = c.args.settled.now in
    let ls = pairs_of all in
    let i = c.loop-i.i in
    let m = c.loop-i.merging in
    let e = c.in-Some.e.now in
    let d : ℕ × ℕ = (e, c.in-Some.version.now) in
    let at : slice_get es i ≡ Some d = sym c.in-Some.ensures.entry in
    let same : get_or es i d ≡ d = get_or_from_slice_get es i d d at in
    let once : IsDistinct eqb (keys_of es) = once_when_rising (keys_of es) c.requires.rising in
    let there = subst (λ p. lookup (eqb p.0) es ≡ Some p.1) (sym same) c.in-Some.ensures.value in
    let none : lookup (eqb e) (take i es ++ ls) ≡ None =
    subst (λ p. lookup (eqb p.0) (take i es ++ ls) ≡ None) same
    (not_merged_yet es ls i d once (slice_get_within es i d at) c.requires.apart there) in
    absent_zipped e (entities_in all m) (versions_in all m)
    (as_many_versions m.made.entities.items m.made.versions.items all.entities.items all.versions.items m.next
    c.loop-i.invariant.merging.many c.requires.settled.many) (c.loop-i.invariant.found e ∙ none)

pub loop-i-preserved : goal.loop-i-preserved
loop-i-preserved c =
    let es = c.args.latest.now.entries in
    let all = c.args.settled.now in
    let ls = pairs_of all in
    let i = c.loop-i.i in
    let m = c.loop-i.merging in
    let n = c.add.new.self in
    let e = c.in-Some.e.now in
    let d : ℕ × ℕ = (e, c.in-Some.version.now) in
    let at : slice_get es i ≡ Some d = sym c.in-Some.ensures.entry in
    let same : get_or es i d ≡ d = get_or_from_slice_get es i d d at in
    let once : IsDistinct eqb (keys_of es) = once_when_rising (keys_of es) c.requires.rising in
    let number : get_or (keys_of es) i 0 ≡ e =
    get_or_from_slice_get (keys_of es) i e 0 (slice_get-map (λ p. p.0) es i ∙ ap (option_map (λ p. p.0)) at) in
    let old : ℕ → Option ℕ = λ q. lookup (eqb q) (zip (entities_in all m) (versions_in all m)) in
    let new : ℕ → Option ℕ = λ q. lookup (eqb q) (zip (entities_in all n) (versions_in all n)) in
    record {
      merging = c.in_ok-add.ensures.merging;
      last = λ lt some.
          let many = length-map es (λ p. p.0) in
          let rises = below_from_sorted (keys_of es) i (i + 1) 0 c.requires.rising (omega arith) (omega (arith, lt, many)) in
          let made = c.in_ok-add.ensures.last in
          omega (arith, rises, made, number);
      found =
          found_when_merged es ls i d old new once (slice_get_within es i d at) c.loop-i.invariant.found
          (λ q. subst (λ p. new q ≡ cond (eqb p.0 q) (Some p.1) (old q)) (sym same) (c.in_ok-add.ensures.added q));
    }
