-- An entity's holders, and the place of its one real.
use Rattle.seam_law_calls.proofs.Prelude.{◌≡◌, ℕ, Bool, true, false, cond, eqb, Option, None, Some, refl, sym, ap, ◌∙◌, weight, RealView}
use Rattle.seam_law_calls.proofs.Prelude.{Boundaries, Msg, Hand, Tick, Bounds, NodeView, World, Cell, Base, one_if_real, held_at, carried}
use Rattle.seam_law_calls.proofs.Prelude.{holders, carried_in}
use Rattle.seam_law_calls.proofs.Prelude.{one_if, TokenPlace, Nobody, concerns, kept_if, mine, has_of, has_none, entity_flow, real_in}
use Rattle.seam_law_calls.proofs.Prelude.{real_of, IsOne}
use Rattle.std.proofs.Math.Path.{fun_ext}
use Rattle.seam_law_flow.specs.Tokens as token
use Rattle.seam_law_flow.proofs.TokenCounts.{one_counted, sole_counts, none_counted, nobody_counts}
use Rattle.std.specs.FinMap as table

one_is : (o : Option RealView) → one_if o ≡ one_if_real o
one_is None = refl
one_is (Some r) = refl

held_is : (e : ℕ) (s : NodeView) → one_if (real_in (has_of e s)) ≡ held_at e s
held_is e (Cell c) = one_is (table.get c.reals e)
held_is e (Base b) = refl

kept_none : (b : Bool) (m : Msg) → real_of m ≡ None → one_if (carried_in real_of (kept_if b m)) ≡ 0
kept_none true m h = ap one_if h
kept_none false m h = refl

kept_hand : (b : Bool) (r : RealView) (bs : Option Boundaries) → one_if (carried_in real_of (kept_if b (Hand r bs))) ≡ cond {A = ℕ} b 1 0
kept_hand true r bs = refl
kept_hand false r bs = refl

carried_is : (e k : ℕ) (m : Msg) → one_if (carried_in real_of (mine e m)) ≡ carried e k m
carried_is e k (Hand r bs) = kept_hand (eqb r.entity e) r bs
carried_is e k Tick = refl
carried_is e k (Bounds b) = refl
carried_is e k m = kept_none (concerns e m) m refl

-- the two counts are one
holders_is : (w : World) (e : ℕ) → token.holders (has_of e) (mine e) real_in real_of w ≡ holders w e
holders_is w e =
    ap (λ f. weight f (λ k m. one_if (carried_in real_of (mine e m))) w) (fun_ext (held_is e))
    ∙ ap (λ g. weight (held_at e) g w) (fun_ext (λ k. fun_ext (carried_is e k)))

pub counted_one : (w : World) (e : ℕ) → holders w e ≡ 1 → (p : TokenPlace) × (r : RealView) × IsOne e w p r
counted_one w e h = one_counted (has_of e) has_none (mine e) real_in real_of w refl (holders_is w e ∙ h)

pub one_counts : (w : World) (e : ℕ) (p : TokenPlace) (r : RealView) → IsOne e w p r → holders w e ≡ 1
one_counts w e p r s = sym (holders_is w e) ∙ sole_counts (has_of e) has_none (mine e) real_in real_of w refl p r s

pub counted_none : (w : World) (e : ℕ) → holders w e ≡ 0 → Nobody real_in real_of (entity_flow e w)
counted_none w e h = none_counted (has_of e) has_none (mine e) real_in real_of w refl (holders_is w e ∙ h)

pub none_counts : (w : World) (e : ℕ) → Nobody real_in real_of (entity_flow e w) → holders w e ≡ 0
none_counts w e n = sym (holders_is w e) ∙ nobody_counts (has_of e) has_none (mine e) real_in real_of w refl n
