-- Where nothing was shown at a greater version than the table has, a look is the plain look.
use Rattle.std.proofs.Common.{◌≡◌, ℕ, Bool, true, false, cond, ◌&&◌, eqb, leb, List, [], ◌∷◌, ◌++◌, map, Option, None, Some, refl, sym, ap}
use Rattle.std.proofs.Common.{◌∙◌}
use Rattle.std.specs.List.{AllByRecursion, filter}
use Rattle.std.specs.FinMap as versions
use Rattle.seam_geo.specs.declared.pos.Pos.{Pos}
use Rattle.seam_view.specs.declared.Seen.{Seen}
use Rattle.seam_view.specs.declared.Look.TheVariants.{Leave, Set, Enter}
use Rattle.seam_view.specs.Replica.{Replica, IsView, AreShown, seen_of}
use Rattle.seam_view.specs.ViewLooks.{is_far, leaves, has_changed, not_older, enters, one_look}
use Rattle.seam_view.specs.Plain.{is_gone, is_new, plain_look, AreNotOlder}
use Rattle.seam_view.proofs.Only.{filter_agree}
use Rattle.seam_view.proofs.Numbers.{number_is}

and_true : (a b : Bool) → b ≡ true → (a && b) ≡ a
and_true true b e = e
and_true false b e = refl

abbrev Passes : (Seen → Bool) → List Seen → Type 0
Passes t xs = AllByRecursion (λ s. t s ≡ true) xs

found_by : (t : Seen → Bool) (e : ℕ) (x s : Seen) (xs : List Seen) (b : Bool) → eqb x.entity e ≡ b → t x ≡ true →
    cond b (Some x) (seen_of e xs) ≡ Some s →
    (seen_of e xs ≡ Some s → (t s ≡ true) × (s.entity ≡ e)) → (t s ≡ true) × (s.entity ≡ e)
found_by t e x s xs true q p h rest = let same : x ≡ s = cc in (ap t (sym same) ∙ p, ap (λ y. y.entity) (sym same) ∙ number_is x.entity e q)
found_by t e x s xs false q p h rest = rest h

-- what is found of an entity passes what all pass, and is of that entity
found : (t : Seen → Bool) (e : ℕ) (s : Seen) (xs : List Seen) → Passes t xs → seen_of e xs ≡ Some s → (t s ≡ true) × (s.entity ≡ e)
found t e s [] p h = cc
found t e s (x ∷ xs) p h = found_by t e x s xs (eqb x.entity e) refl p.0 h (found t e s xs p.1)

module _ (r : Replica) (own : Pos) (table : List Seen) (fresh : AreNotOlder r table) where
  gone_by : (p : ℕ × ℕ) (o : Option Seen) → seen_of p.0 table ≡ o → versions.get r.shown p.0 ≡ Some p.1 →
      leaves r own p.1 o ≡ is_gone r own o
  gone_by p None e h = refl
  gone_by p (Some s) e h =
      let k = found (λ x. not_older (versions.get r.shown x.entity) x.version) p.0 s table fresh e in
      let shown = ap (versions.get r.shown) k.1 ∙ h in
      and_true (is_far r own s.pos) (leb p.1 s.version) (ap (λ v. not_older v s.version) (sym shown) ∙ k.0)

  gone_same : (es : List (ℕ × ℕ)) → AreShown r.shown es →
      AllByRecursion (λ p. leaves r own p.1 (seen_of p.0 table) ≡ is_gone r own (seen_of p.0 table)) es
  gone_same [] h = tt
  gone_same (p ∷ es) h = (gone_by p (seen_of p.0 table) refl h.0, gone_same es h.1)

  new_same : (ss : List Seen) → AreNotOlder r ss → AllByRecursion (λ s. enters r own s ≡ is_new r own s) ss
  new_same [] h = tt
  new_same (s ∷ ss) h = (and_true (is_new r own s) (not_older (versions.get r.shown s.entity) s.version) h.0, new_same ss h.1)

  pub look_is_plain : IsView r → one_look r own table ≡ plain_look r own table
  look_is_plain view =
      let a =
      filter_agree (λ p. leaves r own p.1 (seen_of p.0 table)) (λ p. is_gone r own (seen_of p.0 table)) r.entries
      (gone_same r.entries view.shown) in
      let b = filter_agree (enters r own) (is_new r own) table (new_same table fresh) in
      λ i. map (λ p. Leave p.0) (a i) ++ map (λ p. Set p.0) (filter (λ p. has_changed r own p.1 (seen_of p.0 table)) r.entries)
      ++ map (λ s. Enter s.entity) (b i)
