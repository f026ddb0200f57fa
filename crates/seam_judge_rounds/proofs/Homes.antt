-- Every entity has a home where those that are kept have one.
use Rattle.std.proofs.Common.{◌≡◌, ◌<◌, ℕ, suc, Bool, true, false, cond, List, [], ◌∷◌, Some, sym, subst, arith, refl, ap}
use Rattle.std.specs.Prelude.{find, ◌==◌, unwrap_or}
use Rattle.std.specs.List.{All}
use Rattle.std.specs.Option.{option_map}
use Rattle.std.proofs.lemmas.Bool.Decides.{nat_tests}
use Rattle.seam_rule_rounds.specs.Standing.{in_first_cell}
use Rattle.seam_judge_data.specs.Standings.{place_among}
use Rattle.seam_judge_data.specs.declared.standing.Held.{Held}

-- an entity that is not kept is in the first cell
at_first : (places : List Held) (n e : ℕ) → 0 < n → All (λ (h : Held). (place_among places h.entity).home < n) places →
    (rest : List Held) → All (λ (h : Held). (place_among places h.entity).home < n) rest → (place_among rest e ≡ place_among places e) →
    (place_among places e).home < n
at_first places n e some all [] each same = let home : (place_among places e).home ≡ 0 = ap (λ p. p.home) (sym same) in
    omega (arith, home, some)
at_first places n e some all (x ∷ xs) each same =
    by (x.entity == e) refl (at_first places n e some all xs (λ k d within. each (suc k) d (omega (arith, within)))) same
  where
    by : (b : Bool) → (x.entity == e) ≡ b → (place_among xs e ≡ place_among places e → (place_among places e).home < n) →
        unwrap_or (option_map (λ h. h.place) (cond b (Some x) (find (λ h. h.entity == e) xs))) in_first_cell ≡ place_among places e →
        (place_among places e).home < n
    by true is again here =
        let entity : x.entity ≡ e = grind (arith, nat_tests, is) in
        subst (λ (k : ℕ). (place_among places k).home < n) entity (each 0 x (omega arith))
    by false is again later = again later

pub every_home : (places : List Held) (n : ℕ) → 0 < n → All (λ (h : Held). (place_among places h.entity).home < n) places →
    (e : ℕ) → (place_among places e).home < n
every_home places n some all e = at_first places n e some all places all refl
