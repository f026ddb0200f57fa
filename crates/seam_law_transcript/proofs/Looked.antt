-- One look at the table that a round leaves is true by the rules.
use Rattle.seam_law_transcript.proofs.Prelude.{◌≡◌, ℕ, ◌≤◌, List, [], ◌∷◌, length, Some, refl, sym, ap, ◌∙◌, subst, arith, inl, inr}
use Rattle.seam_law_transcript.proofs.Prelude.{Contains, map, list_any, Create, RealView, WitnessView, World, Header, created_as, live_as}
use Rattle.seam_law_transcript.proofs.Prelude.{destroys, Lists, ClientReplica, Row, IsOwn, IsOther, row_after, rows_of, Standing, Frame}
use Rattle.seam_law_transcript.proofs.Prelude.{FitsWithin, FitsWitness, live_is_created, contains_first, contains_later, contains_cases}
use Rattle.seam_law_transcript.proofs.Prelude.{any_split, alive, neither}
use Rattle.seam_defs.specs.declared.flags.Part.TheVariants as part

pub in_map : {X Y : Type 0} (f : X → Y) (xs : List X) (y : Y) → Contains (map f xs) y → (x : X) × Contains xs x × (y ≡ f x)
in_map f [] y (k, within, is) = absurd (omega arith)
in_map f (x ∷ xs) y has = elim (contains_cases (f x) y (map f xs) has) [
  | inl same ↦ (x, contains_first x xs, sym same)
  | inr later ↦ let r = in_map f xs y later in (r.0, contains_later x r.0 xs r.1, r.2)
]

-- what a client and its witness agree on between rounds, they agree on within one
pub within : (f : Frame) (w : World) (r : RealView) (x : WitnessView) (c : ClientReplica) → FitsWitness f w r x c → FitsWithin f r x c
within f w r x c fits = record {
  others = fits.others;
  view = fits.view;
  radius = fits.radius;
  hysteresis = fits.hysteresis;
  told = fits.told;
  not_ahead = fits.not_ahead;
  own = fits.own;
}

module _ (h : Header) (s t : Standing) (live : List Create) (listed : Lists (live_as s.book) live)
    (further : (e : ℕ) → length (s.orders part.Cell e) ≤ length (t.orders part.Cell e)) where
  module _ (x : Create) (has : Contains live x) where
    lives : live_as s.book x.entity ≡ Some x
    lives = (listed.exact x).0 has

    made : created_as s.book x.entity ≡ Some x
    made = live_is_created s.book x.entity x lives

    had : (length (s.orders part.Cell x.entity) ≤ length (t.orders part.Cell x.entity))
        × (length (t.orders part.Cell x.entity) ≤ length (t.orders part.Cell x.entity))
    had = (further x.entity, omega arith)

    its_other : IsOther h s t x.entity (row_after h x (t.orders part.Cell x.entity)).other
    its_other = record {
      made = x;
      is = made;
      lived = (neither (list_any (destroys x.entity) s.book.past) (list_any (destroys x.entity) s.book.current)
          (sym (any_split s.book x.entity (destroys x.entity)) ∙ alive s.book x.entity x lives)).0;
      version = length (t.orders part.Cell x.entity);
      had = had;
      same = refl;
    }

  pub others_are : (r : Row) → Contains (rows_of h t.orders live) r → IsOther h s t r.entity r.other
  others_are r has =
      let m = in_map (λ c. row_after h c (t.orders part.Cell c.entity)) live r has in
      subst (λ (y : Row). IsOther h s t y.entity y.other) (sym m.2) (its_other m.0 m.1)

  pub own_is : (c : Create) → created_as s.book c.entity ≡ Some c → (r : Row) → Contains (rows_of h t.orders live) r →
      r.entity ≡ c.entity → IsOwn h s t c r.version r.own
  own_is c is r has number =
      let m = in_map (λ c. row_after h c (t.orders part.Cell c.entity)) live r has in
      let same : m.0.entity ≡ c.entity = ap (λ (y : Row). y.entity) (sym m.2) ∙ number in
      let one : m.0 ≡ c = (let z = sym (made m.0 m.1) ∙ (ap (created_as s.book) same ∙ is) in cc) in
      subst (λ (y : Row). IsOwn h s t c y.version y.own) (sym m.2)
      (subst (λ (y : Create). IsOwn h s t c (row_after h y (t.orders part.Cell y.entity)).version
      (row_after h y (t.orders part.Cell y.entity)).own) (sym one) ((further c.entity, omega arith), refl))
